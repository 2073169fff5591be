-- The steps of the search over two sheets, and the enclosers that it asks.
-- Assumes nothing.
use Rattle.std.specs.Prelude.{◌≡◌, ◌&&◌, Bool, ℕ, ◌≤◌, ◌<◌, ltb, min, get_or}
use mathlib.Core.List.{List, Memᴰ}
use Rattle.spec.specs.Lists.{any, gather, span}
use Rattle.spec.specs.Record.{encloser}
use Rattle.spec.specs.Sheet.{Group, class_record}
use Rattle.lanes.specs.Lanes.{entry_at, Run, SettledAt, AllSettled, Enclosers, Least}
use Rattle.sheets.specs.Sheets.{Pair, count, groups}
use Rattle.named.specs.declared.Along.{Along}
use Rattle.named.specs.Named.{named_by}

-- the classes that a group names: along BUILDS or along every record
unfoldable pub named_in : Along → Group → List ℕ
named_in along g = gather (named_by along) g

abbrev pub steps_of : (ℕ → Group) → Along → ℕ → List ℕ
steps_of g along m = named_in along (g m)

-- the encloser of a class; a number that is not lower is none
unfoldable pub outer_of : (ℕ → Group) → ℕ → ℕ
outer_of g m = encloser (class_record (g m))

-- the same, and the class itself where it has none
abbrev pub nearest : (ℕ → Group) → ℕ → ℕ
nearest g m = min (outer_of g m) m

-- a row of those of the classes that are there
pub record Outers (p : Pair) (row : List ℕ) : Type 0 where
  pub few : count p ≤ 256
  pub is : (m : ℕ) → m < count p → get_or row m 0 ≡ nearest (groups p) m

-- Class m has drawn from all these classes. Only they and the row of marks were asked, so it holds for all steps that they are among, and for all enclosers that the marks are
-- right for.
pub record DrawnFrom (ts : List ℕ) (marks : List Bool) (n lanes m : ℕ) (s₀ s : List ℕ) (r : Bool) : Type 0 where
  pub run : (step : ℕ → List ℕ) (outer : ℕ → ℕ) → ((t : ℕ) → Memᴰ t ts → Memᴰ t (step m)) → Enclosers outer m marks
      → Run step outer n lanes (SettledAt (λ c. ts) outer n lanes m) s₀ s r

-- class t has in some lane a lower entry than m; a number that is no class has none
unfoldable pub offers : List ℕ → ℕ → ℕ → ℕ → ℕ → Bool
offers row n lanes m t = ltb t n && any (λ k. ltb (entry_at row k t) (entry_at row k m)) (span 0 lanes)

-- ---- the search over two sheets, along some of their records

-- class m draws from all that it names; nothing changes only where it has all that they have for it
abbrev pub Visited : Pair → Along → ℕ → ℕ → ℕ → List ℕ → List ℕ → Bool → Type 0
Visited p along n lanes m = Run (steps_of (groups p) along) (outer_of (groups p)) n lanes (SettledAt (steps_of (groups p) along) (outer_of (groups p)) n lanes m)

-- so does each of the n classes
abbrev pub Swept : Pair → Along → ℕ → ℕ → List ℕ → List ℕ → Bool → Type 0
Swept p along n lanes = Run (steps_of (groups p) along) (outer_of (groups p)) n lanes (AllSettled (steps_of (groups p) along) (outer_of (groups p)) n lanes)

-- until nothing is left to draw
abbrev pub Closed : Pair → Along → ℕ → List ℕ → List ℕ → Type 0
Closed p along lanes = Least (steps_of (groups p) along) (outer_of (groups p)) (count p) lanes
