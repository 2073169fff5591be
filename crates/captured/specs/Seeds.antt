-- The seeds of the search for captured variables: an entry at each class that itself uses a variable whose type lacks a marker.
-- Assumes nothing.
use Rattle.std.specs.Prelude.{◌≡◌, Bool, true, false, ◌⊎◌, ℕ, ◌+◌, ◌*◌, ◌/◌, ◌≤◌, ◌<◌, T, get_or}
use mathlib.Core.List.{List, Memᴰ}
use Rattle.spec.specs.Record.{bit, is_kind, USES, target, index}
use Rattle.spec.specs.Sheet.{Group}
use Rattle.spec.specs.Classes.{satisfies}
use Rattle.lanes.specs.Lanes.{Nested}
use Rattle.reach.specs.Reach.{outer_of}
use Rattle.captured.specs.declared.Lane.{Lane}
use Rattle.captured.specs.Captured.{lane_marker, lane_place, entry_of, variable_ty}

-- Each entry of the row is kept or lowered to one that Q allows it, and stands above none that Q allows it.
pub record Lowering (Q : ℕ → ℕ → Type 0) (before after : List ℕ) : Type 0 where
  pub down : (i : ℕ) → get_or after i 65535 ≤ get_or before i 65535
  pub low : (i y : ℕ) → Q i y → get_or after i 65535 ≤ y
  pub from : (i : ℕ) → (get_or after i 65535 ≡ get_or before i 65535) ⊎ Q i (get_or after i 65535)

-- one of a list allows place i the entry x
pub record OneOf {A : Type 0} (Q : A → ℕ → ℕ → Type 0) (xs : List A) (i x : ℕ) : Type 0 where
  pub one : A
  pub member : Memᴰ one xs
  pub allows : Q one i x

-- ---- one variable, as the entry y, with the markers that its type satisfies

-- place i is that of class m in a lane, x is y, and the lane's marker is lacking
pub record InLane (markers m y : ℕ) (lane : Lane) (i x : ℕ) : Type 0 where
  pub lacking : bit (lane_marker lane) markers ≡ false
  pub place : i ≡ lane_place lane * 256 + m
  pub entry : x ≡ y

-- so in any lane, if the row of marks holds the owner
pub record Offered (marks : List Bool) (markers m y i x : ℕ) : Type 0 where
  pub marked : get_or marks (y / 256) false ≡ true
  pub lane : Lane
  pub allows : InLane markers m y lane i x

-- ---- the variables that records use

-- the record USES the variable y, whose type lacks marker k, and class m lies inside its owner
pub record Wanted (g : ℕ → Group) (k m : ℕ) (r : List ℕ) (y : ℕ) : Type 0 where
  pub uses : T (is_kind USES r)
  pub entry : entry_of (target r, index r) ≡ y
  pub lacking : satisfies g k (variable_ty g (target r, index r)) ≡ false
  pub within : Nested (outer_of g) (target r) m

-- place i is that of class m in a lane, and x is an entry that the record makes it want
pub record ByRecord (g : ℕ → Group) (m : ℕ) (r : List ℕ) (i x : ℕ) : Type 0 where
  pub lane : Lane
  pub place : i ≡ lane_place lane * 256 + m
  pub wanted : Wanted g (lane_marker lane) m r x

-- so it is with one of the records of class m
abbrev pub ByClass : (ℕ → Group) → ℕ → ℕ → ℕ → Type 0
ByClass g m = OneOf (ByRecord g m) (g m)

-- so with one of the first n classes
pub record ByClasses (g : ℕ → Group) (n i x : ℕ) : Type 0 where
  pub class : ℕ
  pub below : class < n
  pub allows : ByClass g class i x
