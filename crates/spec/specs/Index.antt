-- The index of class names: a row of places that hold class numbers (document 02, C-17).
-- Assumes nothing.
use Rattle.std.specs.Prelude.{Bool, true, false, Option, None, Some, List, ℕ, zero, suc, ◌+◌, ◌*◌, ◌%◌, ◌^◌, eqb, get_or, set, replicate, fold, find, bit_xor}
use Rattle.std.specs.Option.{is_some}
use Rattle.spec.specs.Lists.{same_list, span}
use Rattle.spec.specs.Record.{none16, class_name}
use Rattle.spec.specs.Sheet.{Group, total, group, class_record}

-- ---- fingerprints: "32-bit FNV-1a"

-- "for each byte exclusive-or, then multiply by 16777619 keeping the low 32 bits"
unfoldable pub fingerprint_with : ℕ → ℕ → ℕ
fingerprint_with h b = bit_xor h b * 16777619 % 2 ^ 32

-- "start at 2166136261"
unfoldable pub fingerprint : List ℕ → ℕ
fingerprint bs = fold fingerprint_with 2166136261 bs

-- ---- "an index of 512 places"

abbrev pub index_places : ℕ
index_places = 512

-- "its fingerprint's remainder by 512"
unfoldable pub home : List ℕ → ℕ
home name = fingerprint name % index_places

-- "a taken place holds its class's number, an empty one 65,535"
unfoldable pub is_free : List ℕ → ℕ → Bool
is_free row p = eqb (get_or row p none16) none16

-- the next place, "going round"
unfoldable pub next_place : ℕ → ℕ
next_place p = (p + 1) % index_places

-- the first free one of k places from p on; if none of them is free, the place after them
unfoldable pub free_from : List ℕ → ℕ → ℕ → ℕ
free_from row zero p = p
free_from row (suc k) p = elim (is_free row p) [ true ↦ p | false ↦ free_from row k (next_place p) ]

-- class c enters: "at its fingerprint's remainder by 512 or the next free place after it"
unfoldable pub entered : List ℕ → ℕ → List ℕ → List ℕ
entered row c name = set row (free_from row index_places (home name)) c

module _ (g : ℕ → Group) where
  unfoldable pub name_of : ℕ → List ℕ
  name_of c = class_name (class_record (g c))

  unfoldable pub has_name : List ℕ → ℕ → Bool
  has_name name c = same_list (name_of c) name

  -- the row when the classes below n have entered: "Classes of both sheets enter in number order"
  unfoldable pub index_of : ℕ → List ℕ
  index_of zero = replicate index_places none16
  index_of (suc c) = entered (index_of c) c (name_of c)

  -- ---- a name that is looked for

  -- the class of that name among k places from p on, up to a free one
  unfoldable pub found_from : List ℕ → List ℕ → ℕ → ℕ → Option ℕ
  found_from row name zero p = None
  found_from row name (suc k) p = elim (is_free row p) [
    | true ↦ None
    | false ↦ elim (has_name name (get_or row p none16)) [ true ↦ Some (get_or row p none16) | false ↦ found_from row name k (next_place p) ]
  ]

  -- through the index
  unfoldable pub found_in : List ℕ → List ℕ → Option ℕ
  found_in row name = found_from row name index_places (home name)

  -- by the walk: the lowest of n classes that has the name
  unfoldable pub lowest_named : ℕ → List ℕ → Option ℕ
  lowest_named n name = find (has_name name) (span 0 n)

  -- the test for 10, "a class name met before", through the index: the name is found when the classes before class c have entered
  unfoldable pub met_through : ℕ → Bool
  met_through c = is_some (found_in (index_of c) (name_of c))

-- ---- two sheets

module _ (library user : List ℕ) where
  -- the index of "Classes of both sheets"
  unfoldable pub names_index : List ℕ
  names_index = index_of (group library user) (total library user)

  -- "from a name to its class number", by the walk
  unfoldable pub class_named : List ℕ → Option ℕ
  class_named name = lowest_named (group library user) (total library user) name
