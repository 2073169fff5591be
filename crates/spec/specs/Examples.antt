-- The starred examples of document 01, as one list of claims about the definitions. All use its library L.
-- Assumes nothing.
use Rattle.std.specs.Prelude.{◌≡◌, not, Some, List, [], ◌∷◌, ◌++◌, ℕ, ◌+◌, ◌*◌, eqb, length, replicate, unwrap_or}
use Rattle.spec.specs.Lists.{keep, numbered}
use Rattle.spec.specs.Record.{none16}
use Rattle.spec.specs.Sheet.{total, group}
use Rattle.spec.specs.Markers.{closure}
use Rattle.spec.specs.Refusals.{Refusal, scratch_length, replaced_sheet, judge_refusal, index_refusal, lookup_refusal}
use Rattle.spec.specs.Index.{names_index, found_in, class_named}
use Rattle.spec.specs.Verdicts.{verdict_bytes, flat}
use Rattle.spec.specs.Promises.{Answer, refused, accepted, answer_of, afterwards, Counts, counts_of, judged_row, State, Edit, edited, replacement, withdrawal, indexed}

-- ---- Judge over a library, with scratch enough

abbrev pub L : List ℕ
L = 0x12 ∷ 0x00 ∷ 0x01 ∷ 0x00 ∷ 0x00 ∷ 0x01 ∷ 0x00 ∷ 0x00 ∷ 0xFF ∷ 0xFF ∷ 0xFF ∷ 0xFF ∷ 0x4F ∷ 0x62 ∷ 0x6A ∷ 0x65 ∷ 0x63 ∷ 0x74 ∷ []

-- what stands in the row before, and past the last verdict afterwards: a verdict's bytes and two more
abbrev pub past : List ℕ
past = 99 ∷ 99 ∷ 99 ∷ 99 ∷ 99 ∷ []

-- a row with room for n verdicts and more
unfoldable pub row_for : ℕ → List ℕ
row_for n = replicate (verdict_bytes * n) 99 ++ past

module _ (library user row : List ℕ) where
  unfoldable pub answer_over : Answer Counts
  answer_over = answer_of (judge_refusal library user (length user) (flat.lines row) scratch_length) (counts_of library user)

  unfoldable pub row_over : List ℕ
  row_over = afterwards (judge_refusal library user (length user) (flat.lines row) scratch_length) row (judged_row flat library user (length user) row [])

-- ---- Replace, with scratch enough, and Withdraw over a library

-- what an edit answers, and what it leaves
unfoldable pub answer_to : Edit → Answer ℕ
answer_to e = answer_of e.refusal e.answer

unfoldable pub state_to : Edit → State flat → State flat
state_to e s = afterwards e.refusal s (edited flat e s)

abbrev pub holding : List ℕ → ℕ → List ℕ → State flat
holding user used row = record { user = user; used = used; verdicts = row }

module _ (library user : List ℕ) (used : ℕ) (row : List ℕ) where
  abbrev pub replace_over : ℕ → List ℕ → Edit
  replace_over c g = replacement flat library (holding user used row) c g scratch_length

  abbrev pub withdraw_over : Edit
  withdraw_over = withdrawal flat library (holding user used row)

-- ---- Index and Lookup over a library, by how many places the row has

unfoldable pub index_over : List ℕ → ℕ → Answer ℕ
index_over user places = answer_of (index_refusal L user (length user) places) (total L user)

unfoldable pub lookup_over : List ℕ → List ℕ → ℕ → Answer ℕ
lookup_over user name places = answer_of (lookup_refusal L user (length user) name places) (unwrap_or (class_named L user name) none16)

-- the places of a row that are not empty, with what they hold
unfoldable pub taken_places : List ℕ → List (ℕ × ℕ)
taken_places row = keep (λ p. not (eqb p.1 none16)) (numbered 0 row)

-- ---- the claims

pub data Claim : Type 0 where
  -- user sheet, user classes, faulted ones, the bytes of their verdicts after judging
  judges : List ℕ → ℕ → ℕ → List ℕ → Claim
  -- user sheet, refusal
  refuses : List ℕ → Refusal → Claim
  -- set of markers, the least closed set that holds it
  closes : ℕ → ℕ → Claim
  -- user sheet, used for the whole of its buffer, and the bytes of its verdicts; class, group; the count, the buffer and the bytes of the verdicts after the replacement
  replaces : List ℕ → List ℕ → ℕ → List ℕ → ℕ → List ℕ → List ℕ → Claim
  -- user buffer, used length, bytes of the row; the class, the buffer, the used length and the bytes of the row after the withdrawal
  withdraws : List ℕ → ℕ → List ℕ → ℕ → List ℕ → ℕ → List ℕ → Claim
  -- user buffer, used length, bytes of the row; the refusal of the withdrawal, which leaves them so
  keeps : List ℕ → ℕ → List ℕ → Refusal → Claim
  -- user sheet; how many classes enter the index, and the places that are not empty then, each with what it holds: past the 512 places of the index is one more, with a 7
  indexes : List ℕ → ℕ → List (ℕ × ℕ) → Claim
  -- user sheet, name; the class that a lookup answers, and that is found through the index
  finds : List ℕ → List ℕ → ℕ → Claim
  -- user sheet, name, how many places the row has; the refusal of the lookup
  misses : List ℕ → List ℕ → ℕ → Refusal → Claim

abbrev pub Holds : Claim → Type 0
Holds (judges user n f row) = (answer_over L user (row_for n) ≡ accepted (record { classes = n; faulted = f })) × (row_over L user (row_for n) ≡ row ++ past)
Holds (refuses user r) = answer_over L user [] ≡ refused r
Holds (closes m s) = closure m ≡ s
Holds (replaces user row c g n buffer row_after) =
    (answer_to (replace_over L user (length user) (row ++ past) c g) ≡ accepted n)
    × (state_to (replace_over L user (length user) (row ++ past) c g) (holding user (length user) (row ++ past))
    ≡ holding buffer (length (replaced_sheet L user c g)) (row_after ++ past))
Holds (withdraws user used row n buffer used_after row_after) =
    (answer_to (withdraw_over L user used row) ≡ accepted n) × (state_to (withdraw_over L user used row) (holding user used row) ≡ holding buffer used_after row_after)
Holds (keeps user used row r) = (answer_to (withdraw_over L user used row) ≡ refused r) × (state_to (withdraw_over L user used row) (holding user used row) ≡ holding user used row)
Holds (indexes user n places) = (index_over user 513 ≡ accepted n) × (taken_places (indexed L user (length user) (replicate 513 7)) ≡ places)
Holds (finds user name c) = (lookup_over user name 512 ≡ accepted c) × (found_in (group L user) (names_index L user) name ≡ Some c)
Holds (misses user name places r) = lookup_over user name places ≡ refused r

abbrev pub AllHold : List Claim → Type 0
AllHold [] = Unit {0}
AllHold (c ∷ cs) = Holds c × AllHold cs

-- ---- the sheets: records of document 01's table, with names of one or two bytes

-- a class number, and none, as two bytes
abbrev pub number : ℕ → List ℕ
number n = n ∷ 0 ∷ []

abbrev pub none² : List ℕ
none² = 0xFF ∷ 0xFF ∷ []

-- CLASS Pt below class 0: flags, own markers
abbrev pub Pt : ℕ → ℕ → List ℕ
Pt flags markers = 14 ∷ 0 ∷ 1 ∷ 0 ∷ flags ∷ 0 ∷ markers ∷ 0 ∷ 0 ∷ 0 ∷ 0xFF ∷ 0xFF ∷ 0x50 ∷ 0x74 ∷ []

-- FIELD x: flags, dimensions, code, class
abbrev pub x : ℕ → ℕ → ℕ → ℕ → List ℕ
x flags dims code class = 11 ∷ 0 ∷ 3 ∷ 0 ∷ flags ∷ 0 ∷ dims ∷ code ∷ class ∷ 0 ∷ 0x78 ∷ []

-- CLASS: own markers, superclass, encloser, name; and with a name of one byte
abbrev pub named : ℕ → ℕ → List ℕ → List ℕ → List ℕ
named markers super outer name = (12 + length name) ∷ 0 ∷ 1 ∷ 0 ∷ 0 ∷ 0 ∷ markers ∷ 0 ∷ number super ++ (outer ++ name)

abbrev pub class : ℕ → ℕ → List ℕ → ℕ → List ℕ
class markers super outer name = named markers super outer (name ∷ [])

-- LOCAL v of a class, USES, BUILDS
abbrev pub v : ℕ → List ℕ
v class = 9 ∷ 0 ∷ 4 ∷ 0 ∷ 0 ∷ 0 ∷ class ∷ 0 ∷ 0x76 ∷ []

abbrev pub uses : ℕ → ℕ → List ℕ
uses class index = 8 ∷ 0 ∷ 5 ∷ 0 ∷ class ∷ 0 ∷ index ∷ 0 ∷ []

abbrev pub builds : ℕ → List ℕ
builds class = 6 ∷ 0 ∷ 6 ∷ 0 ∷ class ∷ 0 ∷ []

unfoldable pub starred : List Claim
starred =
    -- "U: line 0 0"
    judges (0x0E ∷ 0x00 ∷ 0x01 ∷ 0x00 ∷ 0x00 ∷ 0x00 ∷ 0x01 ∷ 0x00 ∷ 0x00 ∷ 0x00 ∷ 0xFF ∷ 0xFF ∷ 0x50 ∷ 0x74
    ∷ 0x0B ∷ 0x00 ∷ 0x03 ∷ 0x00 ∷ 0x01 ∷ 0x00 ∷ 0x00 ∷ 0x04 ∷ 0x00 ∷ 0x00 ∷ 0x78 ∷ []) 1 0 (0 ∷ 0 ∷ 0 ∷ [])
    -- "U with field flags 0: 7 1"
    ∷ judges (Pt 0 1 ++ x 0 0 4 0) 1 1 (7 ∷ 1 ∷ 1 ∷ [])
    -- "U with a final field of class 0: 7 1"
    ∷ judges (Pt 0 1 ++ x 1 0 0 0) 1 1 (7 ∷ 1 ∷ 1 ∷ [])
    -- "Own marks 128, no flags: 9 0", "Own marks 12: 4 0", "Own marks 16: 3 0"
    ∷ judges (Pt 0 128) 1 1 (9 ∷ 0 ∷ 1 ∷ [])
    ∷ judges (Pt 0 12) 1 1 (4 ∷ 0 ∷ 1 ∷ [])
    ∷ judges (Pt 0 16) 1 1 (3 ∷ 0 ∷ 1 ∷ [])
    -- "No marks, record 1 a static final int array: 5 1", "Flag 7: 6 0"
    ∷ judges (Pt 0 0 ++ x 5 1 4 0) 1 1 (5 ∷ 1 ∷ 1 ∷ [])
    ∷ judges (Pt 128 0) 1 1 (6 ∷ 0 ∷ 1 ∷ [])
    -- "Closed sets: 32 to 35, 16 to 25, 64 to 72, 128 to 132"
    ∷ closes 32 35
    ∷ closes 16 25
    ∷ closes 64 72
    ∷ closes 128 132
    -- "Class 1 has a LOCAL of class 0; 2 and 3 lie in 1; 2 is Immutable and builds 3; 3 uses the LOCAL: class 2 gets 7 0"; 02, C-16: "(the captured one 7 1 1)"
    ∷ judges (class 0 0 none² 0x41 ++ (v 0 ++ (class 1 0 (number 1) 0x42 ++ (builds 3 ++ (class 0 0 (number 1) 0x43 ++ uses 1 0))))) 3 1
    (0 ∷ 0 ∷ 0 ∷ 7 ∷ 1 ∷ 1 ∷ 0 ∷ 0 ∷ 0 ∷ [])
    -- "The same with the LOCAL in 2, and 3 inside 2: class 2 is clean"
    ∷ judges (class 0 0 none² 0x41 ++ (class 1 0 (number 1) 0x42 ++ (v 0 ++ (builds 3 ++ (class 0 0 (number 2) 0x43 ++ uses 2 0))))) 3 0
    (0 ∷ 0 ∷ 0 ∷ 0 ∷ 0 ∷ 0 ∷ 0 ∷ 0 ∷ 0 ∷ [])
    -- "User sheet of three bytes: refusal 2, sheet 1, byte 0"
    ∷ refuses (0 ∷ 0 ∷ 0 ∷ []) (record { number = 2; sheet = 1; byte = 0 })
    ∷ []
