-- What the requests of document 02 say, as one list of small examples. All use document 01's library L.
-- Assumes nothing.
use Rattle.std.specs.Prelude.{List, [], ◌∷◌, ◌++◌, ℕ, replicate}
use Rattle.spec.specs.Examples.{Claim, judges, refuses, withdraws, keeps, indexes, finds, misses, named, none², number, class, x, v, uses, builds}

-- class 1 with own markers, and class 2 with fields
abbrev pub static : ℕ → List ℕ → List ℕ
static markers fields = class markers 0 none² 0x41 ++ (class 0 0 none² 0x42 ++ fields)

-- an interface B without own markers
abbrev pub interface_b : List ℕ
interface_b = 13 ∷ 0 ∷ 1 ∷ 0 ∷ 1 ∷ 0 ∷ 0 ∷ 0 ∷ none² ++ (none² ++ (0x42 ∷ []))

-- classes A and B, 1 and 2, each by itself
abbrev pub A : List ℕ
A = class 0 0 none² 0x41

abbrev pub B : List ℕ
B = class 0 0 none² 0x42

-- the line of a clean class, and another
abbrev pub clear : List ℕ
clear = 0 ∷ 0 ∷ 0 ∷ []

abbrev pub other : List ℕ
other = 7 ∷ 7 ∷ 7 ∷ []

-- an inner class: own markers, superclass, encloser, name
abbrev pub inner : ℕ → ℕ → ℕ → ℕ → List ℕ
inner markers super outer name = 13 ∷ 0 ∷ 1 ∷ 0 ∷ 2 ∷ 0 ∷ markers ∷ 0 ∷ number super ++ (number outer ++ (name ∷ []))

-- a primitive LOCAL
abbrev pub primitive : List ℕ
primitive = 9 ∷ 0 ∷ 4 ∷ 0 ∷ 0 ∷ 4 ∷ 0 ∷ 0 ∷ 0x76 ∷ []

-- three names of one home, and their classes
abbrev pub SG : List ℕ
SG = 0x53 ∷ 0x47 ∷ []

abbrev pub aI : List ℕ
aI = 0x61 ∷ 0x49 ∷ []

abbrev pub ln : List ℕ
ln = 0x6C ∷ 0x6E ∷ []

abbrev pub three_511 : List ℕ
three_511 = named 0 0 none² SG ++ (named 0 0 none² aI ++ named 0 0 none² ln)

unfoldable pub changes : List Claim
changes =
    -- C-11, "a static field must be final and of a Powerless type": of a Token, of a class that is Immutable alone, of a Powerless one and of a subclass of it
    judges (static 16 (x 5 0 0 1)) 2 2 (3 ∷ 0 ∷ 1 ∷ 5 ∷ 1 ∷ 2 ∷ [])
    ∷ judges (static 1 (x 5 0 0 1)) 2 1 (clear ++ (5 ∷ 1 ∷ 2 ∷ []))
    ∷ judges (static 2 (x 5 0 0 1)) 2 0 (replicate 6 0)
    ∷ judges (static 2 (class 0 1 none² 0x43 ++ x 5 0 0 3)) 3 0 (replicate 9 0)
    -- a class that calls itself Powerless and a Token passes too: that is told in its own line
    ∷ judges (static 18 (x 5 0 0 1)) 2 1 (3 ∷ 0 ∷ 1 ∷ clear)
    -- "Primitives still pass, arrays still fail"; one that is not final
    ∷ judges (static 1 (x 5 0 4 0)) 2 0 (replicate 6 0)
    ∷ judges (static 2 (x 5 1 0 1)) 2 1 (clear ++ (5 ∷ 1 ∷ 2 ∷ []))
    ∷ judges (static 2 (x 4 0 0 1)) 2 1 (clear ++ (5 ∷ 1 ∷ 2 ∷ []))
    -- "the place stays the lowest such field"; an interface is asked too
    ∷ judges (static 1 (x 5 0 4 0 ++ (x 5 0 0 1 ++ x 5 1 0 1))) 2 1 (clear ++ (5 ∷ 2 ∷ 2 ∷ []))
    ∷ judges (class 1 0 none² 0x41 ++ (interface_b ++ x 5 0 0 1)) 2 1 (clear ++ (5 ∷ 1 ∷ 2 ∷ []))
    -- C-12, "Its bytes in the buffer become zero, the used length falls, its line becomes 0 0": a faulted class; what stands past it stays; then the first class; then 13
    ∷ withdraws (A ++ (class 16 0 none² 0x42 ++ (9 ∷ []))) 26 (other ++ (3 ∷ 0 ∷ 2 ∷ other ++ (7 ∷ []))) 2 (A ++ (replicate 13 0 ++ (9 ∷ []))) 13
    (other ++ (clear ++ (other ++ (7 ∷ []))))
    ∷ withdraws (A ++ (9 ∷ [])) 13 other 1 (replicate 13 0 ++ (9 ∷ [])) 0 clear
    ∷ keeps (9 ∷ []) 0 other (record { number = 13; sheet = 0; byte = 0 })
    -- "17 .. when another class names the last one": A builds B, or has a field of it; B builds itself, which is no other class
    ∷ keeps (A ++ (builds 2 ++ B)) 32 (other ++ other) (record { number = 17; sheet = 0; byte = 0 })
    ∷ keeps (A ++ (x 1 1 0 2 ++ B)) 37 (other ++ other) (record { number = 17; sheet = 0; byte = 0 })
    ∷ withdraws (A ++ (B ++ builds 2)) 32 (other ++ other) 2 (A ++ replicate 19 0) 13 (other ++ clear)
    -- "and 12 for a slate too short": a line for each class that is there; 17 comes first
    ∷ keeps (A ++ B) 26 (other ++ (7 ∷ 7 ∷ [])) (record { number = 12; sheet = 0; byte = 0 })
    ∷ keeps (A ++ (builds 2 ++ B)) 32 [] (record { number = 17; sheet = 0; byte = 0 })
    -- C-13, "a lower kind than the one before it in its group": a FIELD after a BUILDS, in a withdrawal too; a torn record after it is not looked at
    ∷ refuses (A ++ (builds 1 ++ x 1 0 4 0)) (record { number = 16; sheet = 1; byte = 19 })
    ∷ keeps (A ++ (builds 1 ++ x 1 0 4 0)) 30 other (record { number = 16; sheet = 1; byte = 19 })
    ∷ refuses (A ++ (builds 1 ++ (x 1 0 4 0 ++ (9 ∷ [])))) (record { number = 16; sheet = 1; byte = 19 })
    -- "right after 7": an undefined flag of that FIELD comes before it, and so does the record's 16 before a class that isn't there
    ∷ refuses (A ++ (builds 1 ++ x 8 0 4 0)) (record { number = 5; sheet = 1; byte = 19 })
    ∷ refuses (A ++ (builds 9 ++ x 1 0 4 0)) (record { number = 16; sheet = 1; byte = 19 })
    -- equal kinds pass, and a group is compared with no other
    ∷ judges (A ++ (builds 1 ++ (builds 1 ++ (B ++ x 1 0 4 0)))) 2 0 (replicate 6 0)
    -- C-16, "the encloser (record 0)": of the class walked, here of the superclass; then its FIELDs; the own field 2 before the inherited one
    ∷ judges (A ++ (inner 0 0 1 0x42 ++ class 1 2 none² 0x43)) 3 1 (clear ++ (clear ++ (7 ∷ 0 ∷ 2 ∷ [])))
    ∷ judges (A ++ (inner 0 0 1 0x42 ++ (class 1 2 none² 0x43 ++ x 0 0 4 0))) 3 1 (clear ++ (clear ++ (7 ∷ 1 ∷ 3 ∷ [])))
    ∷ judges (A ++ (x 0 0 4 0 ++ (class 1 1 none² 0x42 ++ (x 1 0 4 0 ++ x 0 0 4 0)))) 2 1 (clear ++ (7 ∷ 2 ∷ 2 ∷ []))
    -- "captured variables by class and index (place: the LOCAL, class: its owner)": the lower owner, though its variable is used later; the LOCAL behind a FIELD; past a primitive one
    ∷ judges (A ++ (v 0 ++ (class 0 0 (number 1) 0x42 ++ (v 0 ++ (class 1 0 (number 2) 0x43 ++ (uses 2 0 ++ uses 1 0)))))) 3 1 (clear ++ (clear ++ (7 ∷ 1 ∷ 1 ∷ [])))
    ∷ judges (A ++ (x 1 0 4 0 ++ (v 0 ++ (class 1 0 (number 1) 0x42 ++ uses 1 0)))) 2 1 (clear ++ (7 ∷ 2 ∷ 1 ∷ []))
    ∷ judges (A ++ (primitive ++ (v 0 ++ (class 1 0 (number 1) 0x42 ++ (uses 1 0 ++ uses 1 1))))) 2 1 (clear ++ (7 ∷ 2 ∷ 1 ∷ []))
    -- the lower index at the end of the longer chain: 2 builds 3, which uses variable 1, and 4, which builds 5, which uses variable 0
    ∷ judges (A ++ (v 0 ++ (v 0 ++ (class 1 0 (number 1) 0x42 ++ (builds 3 ++ (builds 4 ++ (class 1 0 (number 1) 0x43 ++ (uses 1 1
    ++ (class 0 0 (number 1) 0x44 ++ (builds 5 ++ (class 0 0 (number 1) 0x45 ++ uses 1 0))))))))))) 5 2 (clear ++ (7 ∷ 1 ∷ 1 ∷ (7 ∷ 2 ∷ 1 ∷ (clear ++ clear))))
    -- what a superclass captures, of a class that lies outside
    ∷ judges (A ++ (v 0 ++ (class 0 0 (number 1) 0x42 ++ (uses 1 0 ++ class 1 2 none² 0x43)))) 3 1 (clear ++ (clear ++ (7 ∷ 1 ∷ 1 ∷ [])))
    -- "a fault of rule 9's second part names the class and 0 and comes last": after a field, an inherited one too; alone
    ∷ judges (class 128 0 none² 0x41 ++ x 0 0 4 0) 1 1 (9 ∷ 1 ∷ 1 ∷ [])
    ∷ judges (A ++ (x 0 0 4 0 ++ class 128 1 none² 0x42)) 2 1 (clear ++ (9 ∷ 1 ∷ 1 ∷ []))
    ∷ judges (A ++ class 128 1 none² 0x42) 2 1 (clear ++ (9 ∷ 0 ∷ 2 ∷ []))
    -- C-17, "each at its fingerprint's remainder by 512": of the name Object 218, of A 204; "and leaves places past 512"
    ∷ indexes A 2 ((204, 1) ∷ (218, 0) ∷ (512, 7) ∷ [])
    -- "or the next free place after it, going round": SG, aI and ln have the remainder 511
    ∷ indexes three_511 4 ((0, 2) ∷ (1, 3) ∷ (218, 0) ∷ (511, 1) ∷ (512, 7) ∷ [])
    ∷ finds three_511 ln 3
    ∷ finds three_511 (0x4F ∷ 0x62 ∷ 0x6A ∷ 0x65 ∷ 0x63 ∷ 0x74 ∷ []) 0
    -- "13 for a name not there": rp has that remainder too; no byte, and one that no name has. "12 for a row under 512" comes first
    ∷ misses three_511 (0x72 ∷ 0x70 ∷ []) 512 (record { number = 13; sheet = 0; byte = 0 })
    ∷ misses A [] 512 (record { number = 13; sheet = 0; byte = 0 })
    ∷ misses A (255 ∷ []) 511 (record { number = 12; sheet = 0; byte = 0 })
    ∷ []
