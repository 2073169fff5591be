-- One record of a sheet, as its bytes, and what stands in it (document 01, "The sheet").
-- Assumes nothing.
use Rattle.std.specs.Prelude.{Bool, true, false, ◌&&◌, ◌||◌, List, [], ◌∷◌, ◌++◌, ℕ, ◌+◌, ◌*◌, ◌/◌, ◌%◌, ◌^◌, ◌<◌, eqb, leb, ltb, length, get_or, drop}
use Rattle.spec.specs.Lists.{all}

-- "bytes"
abbrev pub Bytes : List ℕ → Type 0
Bytes [] = Unit {0}
Bytes (b ∷ bs) = (b < 256) × Bytes bs

-- "u8", "u16", "All numbers are little-endian"; 0 past the end
unfoldable pub u8 : List ℕ → ℕ → ℕ
u8 s i = get_or s i 0

unfoldable pub u16 : List ℕ → ℕ → ℕ
u16 s i = get_or s i 0 + 256 * get_or s (i + 1) 0

-- "bit k" of a number
unfoldable pub bit : ℕ → ℕ → Bool
bit k n = eqb (n / 2 ^ k % 2) 1

-- "65,535 means none, for superclass and encloser only"
abbrev pub none16 : ℕ
none16 = 65535

-- ---- the table of kinds

abbrev pub CLASS : ℕ
CLASS = 1

abbrev pub IMPLEMENTS : ℕ
IMPLEMENTS = 2

abbrev pub FIELD : ℕ
FIELD = 3

abbrev pub LOCAL : ℕ
LOCAL = 4

abbrev pub USES : ℕ
USES = 5

abbrev pub BUILDS : ℕ
BUILDS = 6

abbrev pub MEMBER : ℕ
MEMBER = 7

abbrev pub REFERS : ℕ
REFERS = 8

-- "A record is its own length in bytes (u16, counting these two), a kind (u16), a body"
unfoldable pub kind : List ℕ → ℕ
kind r = u16 r 2

abbrev pub is_kind : ℕ → List ℕ → Bool
is_kind k r = eqb (kind r) k

abbrev pub is_class : List ℕ → Bool
is_class r = is_kind CLASS r

-- what the eight kinds give, in the order of their numbers; `d` for an unknown kind
unfoldable pub by_kind : {A : Type 0} → List ℕ → A → List A → A
by_kind r d choices = get_or (d ∷ choices) (kind r) d

-- CLASS: "flags u16, own marks u8, zero u8, superclass u16, encloser u16, name". FIELD and MEMBER have their flags there too.
unfoldable pub flags : List ℕ → ℕ
flags r = u16 r 4

unfoldable pub own_markers : List ℕ → ℕ
own_markers r = u8 r 6

unfoldable pub zero_byte : List ℕ → ℕ
zero_byte r = u8 r 7

unfoldable pub superclass : List ℕ → ℕ
superclass r = u16 r 8

unfoldable pub encloser : List ℕ → ℕ
encloser r = u16 r 10

-- where the name begins in a CLASS record
abbrev pub name_start : ℕ
name_start = 12

unfoldable pub class_name : List ℕ → List ℕ
class_name r = drop name_start r

-- IMPLEMENTS, USES, BUILDS, REFERS: "class u16", and for USES and REFERS "index u16"
unfoldable pub target : List ℕ → ℕ
target r = u16 r 4

unfoldable pub index : List ℕ → ℕ
index r = u16 r 6

-- "A type is dimensions u8, code u8, class u16"
pub record Ty : Type 0 where
  pub dims : ℕ
  pub code : ℕ
  pub class : ℕ

unfoldable pub ty_at : List ℕ → ℕ → Ty
ty_at r i = record { dims = u8 r i; code = u8 r (i + 1); class = u16 r (i + 2) }

unfoldable pub field_ty : List ℕ → Ty
field_ty r = ty_at r 6

unfoldable pub local_ty : List ℕ → Ty
local_ty r = ty_at r 4

-- FIELD flags: "bit 0 final, 1 transient, 2 static"
unfoldable pub is_final : List ℕ → Bool
is_final r = bit 0 (flags r)

unfoldable pub is_transient : List ℕ → Bool
is_transient r = bit 1 (flags r)

unfoldable pub is_static : List ℕ → Bool
is_static r = bit 2 (flags r)

-- ---- references: the paper's namings

unfoldable pub unless_none : ℕ → List ℕ
unless_none c = elim (eqb c none16) [ true ↦ [] | false ↦ c ∷ [] ]

-- "code 0 is a class, 1 to 8 are .. with class 0, which is then no naming"; an array names its class too
unfoldable pub ty_references : Ty → List ℕ
ty_references t = elim (eqb t.code 0) [ true ↦ t.class ∷ [] | false ↦ [] ]

-- the classes that a record names
unfoldable pub references : List ℕ → List ℕ
references r = by_kind r []
    ((unless_none (superclass r) ++ unless_none (encloser r))
    ∷ (target r ∷ [])
    ∷ ty_references (field_ty r)
    ∷ ty_references (local_ty r)
    ∷ (target r ∷ [])
    ∷ (target r ∷ [])
    ∷ []
    ∷ (target r ∷ [])
    ∷ [])

-- ---- what the first pass asks of one record. Sheet 0 is the library's, sheet 1 the user's.

-- the column "Sheet" of the table
unfoldable pub kind_fits : ℕ → List ℕ → Bool
kind_fits sheet r = by_kind r false
    (true
    ∷ true
    ∷ eqb sheet 1
    ∷ eqb sheet 1
    ∷ eqb sheet 1
    ∷ eqb sheet 1
    ∷ eqb sheet 0
    ∷ eqb sheet 1
    ∷ [])

-- "Names have 1 to 100 bytes": one follows the first n bytes
unfoldable pub with_name : ℕ → List ℕ → Bool
with_name n r = leb (n + 1) (length r) && leb (length r) (n + 100)

-- the column "Body" of the table, as lengths
unfoldable pub length_fits : List ℕ → Bool
length_fits r = by_kind r false
    (with_name name_start r
    ∷ eqb (length r) 6
    ∷ with_name 10 r
    ∷ with_name 8 r
    ∷ eqb (length r) 8
    ∷ eqb (length r) 6
    ∷ with_name 6 r
    ∷ eqb (length r) 8
    ∷ [])

-- "each 33 to 126"
unfoldable pub name_fits : List ℕ → Bool
name_fits bs = all (λ b. leb 33 b && leb b 126) bs

-- "a code over 8, a primitive with a class"
unfoldable pub ty_fits : Ty → Bool
ty_fits t = leb t.code 8 && (eqb t.code 0 || eqb t.class 0)

-- "CLASS flags, user: bit 0 .. 7"; "Library: bit 0, and bit 8 allowed"
unfoldable pub class_flags_fit : ℕ → ℕ → Bool
class_flags_fit sheet f = elim (eqb sheet 0) [ true ↦ eqb f 0 || eqb f 1 || eqb f 256 || eqb f 257 | false ↦ ltb f 256 ]

unfoldable pub body_fits : ℕ → List ℕ → Bool
body_fits sheet r = by_kind r false
    ((class_flags_fit sheet (flags r) && eqb (zero_byte r) 0 && name_fits (class_name r))
    ∷ true
    ∷ (ltb (flags r) 8 && ty_fits (field_ty r) && name_fits (drop 10 r))
    ∷ (ty_fits (local_ty r) && name_fits (drop 8 r))
    ∷ true
    ∷ true
    ∷ (ltb (flags r) 2 && name_fits (drop 6 r))
    ∷ true
    ∷ [])
