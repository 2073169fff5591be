-- A sheet cut into records and groups, and the numbers of records and classes (document 01, "The sheet").
-- Assumes nothing.
use Rattle.std.specs.Prelude.{Bool, true, false, not, ◌&&◌, List, [], ◌∷◌, ◌++◌, ℕ, zero, suc, ◌+◌, ◌-◌, leb, ltb, length, get_or, take, drop}
use Rattle.spec.specs.Lists.{keep, concat, gather}
use Rattle.spec.specs.Record.{u16, bit, kind, is_kind, is_class, flags, is_static, references, FIELD}

-- ---- records

-- the bytes begin with a whole record: not "under four bytes left, or a length below 4 or past the end"
unfoldable pub whole_first : List ℕ → Bool
whole_first s = leb 4 (length s) && leb 4 (u16 s 0) && leb (u16 s 0) (length s)

unfoldable pub records_in : ℕ → List ℕ → List (List ℕ)
records_in zero s = []
records_in (suc n) s = elim (whole_first s) [ true ↦ take (u16 s 0) s ∷ records_in n (drop (u16 s 0) s) | false ↦ [] ]

-- the whole records that the bytes begin with; a record takes a byte at least
unfoldable pub records_of : List ℕ → List (List ℕ)
records_of s = records_in (length s) s

-- the byte after the last of them
unfoldable pub whole_end : List ℕ → ℕ
whole_end s = length (concat (records_of s))

-- ---- groups

abbrev pub Group : Type 0
Group = List (List ℕ)

-- "A CLASS record opens a group; records up to the next CLASS belong to it"
pub record Split : Type 0 where
  pub loose : Group  -- the records before the first CLASS
  pub groups : List Group

unfoldable pub split_groups : List (List ℕ) → Split
split_groups [] = record { loose = []; groups = [] }
split_groups (r ∷ rs) =
    let t = split_groups rs in
    elim (is_class r) [ true ↦ record { loose = []; groups = (r ∷ t.loose) ∷ t.groups } | false ↦ record { loose = r ∷ t.loose; groups = t.groups } ]

unfoldable pub groups_of : List ℕ → List Group
groups_of s = (split_groups (records_of s)).groups

unfoldable pub class_count : List ℕ → ℕ
class_count s = length (groups_of s)

-- the byte where the group of the i-th class of a sheet begins
unfoldable pub group_start : List ℕ → ℕ → ℕ
group_start s i = length (concat (concat (take i (groups_of s))))

-- "Classes are numbered from 0 through the library sheet .. and on through the user sheet"
module _ (library user : List ℕ) where
  unfoldable pub total : ℕ
  total = class_count library + class_count user

  -- the group of each class; past the last one none
  unfoldable pub group : ℕ → Group
  group c = get_or (groups_of library ++ groups_of user) c []

-- ---- one group by itself

unfoldable pub class_record : Group → List ℕ
class_record g = get_or g 0 []

unfoldable pub group_references : Group → List ℕ
group_references g = gather references g

unfoldable pub of_kind : ℕ → Group → Group
of_kind k g = keep (is_kind k) g

-- CLASS flags: "bit 0 interface, 1 inner (holds its enclosing object)"; library: "bit 0, and bit 8 allowed"
unfoldable pub is_interface : Group → Bool
is_interface g = bit 0 (flags (class_record g))

unfoldable pub is_inner : Group → Bool
is_inner g = bit 1 (flags (class_record g))

unfoldable pub is_allowed : Group → Bool
is_allowed g = bit 8 (flags (class_record g))

-- a FIELD record, static or of the instance
unfoldable pub is_static_field : List ℕ → Bool
is_static_field r = is_kind FIELD r && is_static r

unfoldable pub is_instance_field : List ℕ → Bool
is_instance_field r = is_kind FIELD r && not (is_static r)

-- ---- where each record stands

-- a record with its sheet, the byte where it begins, its class, its number in the group ("numbered from 0") and the kind before it there (0 before a CLASS).
-- `grouped` is false only where a sheet's first record is no CLASS record: that one is refused (6), so whether a later one has a CLASS record before it is not asked.
pub record Located : Type 0 where
  pub sheet : ℕ
  pub byte : ℕ
  pub class : ℕ
  pub record_number : ℕ
  pub before : ℕ
  pub grouped : Bool
  pub bytes : List ℕ

-- records from a byte on, after `n` classes, and `k` records of the open group whose last has kind `b`
unfoldable pub locate : ℕ → ℕ → ℕ → ℕ → ℕ → List (List ℕ) → List Located
locate s at n k b [] = []
locate s at n k b (r ∷ rs) = elim (is_class r) [
  | true ↦ record { sheet = s; byte = at; class = n; record_number = 0; before = 0; grouped = true; bytes = r }
      ∷ locate s (at + length r) (suc n) 1 (kind r) rs
  | false ↦ record { sheet = s; byte = at; class = n - 1; record_number = k; before = b; grouped = ltb 0 k; bytes = r }
      ∷ locate s (at + length r) n (suc k) (kind r) rs
]

-- the records of one sheet, where `n` classes stand before it
unfoldable pub located_in : ℕ → ℕ → List ℕ → List Located
located_in sheet n s = locate sheet 0 n 0 0 (records_of s)

-- "library before user"
unfoldable pub located : List ℕ → List ℕ → List Located
located library user = located_in 0 0 library ++ located_in 1 (class_count library) user
