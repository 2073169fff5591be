-- The first captured variables whose types lack a marker, as rows of entries.
-- Assumes nothing.
use Rattle.std.specs.Prelude.{◌≡◌, true, false, not, Option, None, Some, ℕ, ◌+◌, ◌*◌, ◌/◌, ◌%◌, ◌<◌, eqb, get_or, map, List, []}
use Rattle.spec.specs.Lists.{keep}
use Rattle.spec.specs.Record.{LOCAL, Ty, local_ty}
use Rattle.spec.specs.Sheet.{Group, of_kind}
use Rattle.spec.specs.Markers as markers
use Rattle.spec.specs.Classes.{satisfies, captured}
use Rattle.lanes.specs.Lanes.{words, entry_at}
use Rattle.captured.specs.declared.Lane.{Lane}
use Rattle.captured.specs.declared.Lane.TheVariants.{Immutable, Powerless, DeepSelfless}
use Rattle.captured.specs.declared.Variable.{Variable}

-- the marker of a lane: those that rules 7, 8 and 10 ask
abbrev pub lane_marker : Lane → ℕ
lane_marker Immutable = markers.Immutable
lane_marker Powerless = markers.Powerless
lane_marker DeepSelfless = markers.DeepSelfless

-- its place among the lanes of a row
abbrev pub lane_place : Lane → ℕ
lane_place Immutable = 0
lane_place Powerless = 1
lane_place DeepSelfless = 2

-- a variable of a class, by its owner and its index there, as an entry; and the variable that an entry is
abbrev pub entry_of : ℕ × ℕ → ℕ
entry_of v = 256 * v.0 + v.1

abbrev pub variable_of : ℕ → Option Variable
variable_of y = elim (eqb y 65535) [ true ↦ None | false ↦ Some (record { owner = y / 256; index = y % 256 }) ]

abbrev pub variable_ty : (ℕ → Group) → ℕ × ℕ → Ty
variable_ty g v = local_ty (get_or (of_kind LOCAL (g v.0)) v.1 [])

-- the first of the variables that class l captures whose type lacks marker k, in the order of `captured`, as an entry; 65,535 if there is none
unfoldable pub first_captured : (ℕ → Group) → ℕ → ℕ → ℕ
first_captured g k l = get_or (map entry_of (keep (λ v. not (satisfies g k (variable_ty g v))) (captured g l))) 0 65535

-- three lanes, as bytes, in which stand the first captured variables of each of the n classes
pub record Shown (g : ℕ → Group) (n : ℕ) (row : List ℕ) : Type 0 where
  pub lane : (lane : Lane) (l : ℕ) → l < n → entry_at (words row) (lane_place lane) l ≡ first_captured g (lane_marker lane) l
