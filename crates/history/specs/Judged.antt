-- What an accepted judging leaves in a row of verdicts: demand 2, locality and C-11's reason, said of the row.
-- Assumes nothing.
use Rattle.std.specs.Prelude.{◌≡◌, List, ℕ, ◌+◌, ◌-◌, ◌<◌, take}
use Rattle.spec.specs.Record.{Bytes}
use Rattle.spec.specs.Sheet.{class_count, group}
use Rattle.spec.specs.Rules.{Verdict}
use Rattle.spec.specs.Relations.{Depends}
use Rattle.spec.specs.Breaks.{Breaks}
use Rattle.spec.specs.Verdicts.{VerdictRow}
use Rattle.spec.specs.Promises.{accepted, Counts, Judges}
use Rattle.theory.specs.Claims.{Right, NoTokenKept}

-- a verdict is right about what the i-th user class of two sheets breaks
abbrev pub RightAt : List ℕ → List ℕ → ℕ → Verdict → Type 0
RightAt library user i v = Right (Breaks (class_count library) (group library user) (class_count library + i)) v

module _ (row : VerdictRow) where
  -- a judging with an accepted answer, and the row that it left
  pub record Accepts (library user : List ℕ) (used : ℕ) (after : row.Row) : Type 0 where
    pub before : row.Row
    pub scratch : List ℕ
    pub scratch_after : List ℕ
    pub counts : Counts
    pub promised : Judges row library user used before scratch (accepted counts) after scratch_after

  -- each class's verdict is clean exactly if the class breaks no rule, else the lowest broken rule and, of its faults, the first in the walk
  abbrev pub RowRight : Type 0
  RowRight =
      (library user : List ℕ) (used : ℕ) (after : row.Row) → Accepts library user used after → Bytes library → Bytes user
      → (i : ℕ) → i < class_count (take used user) → RightAt library (take used user) i (row.at after i)

  -- document 02, C-11: a class whose verdict is clean keeps no Token in a static field, where the field's class is from the library or its verdict clean too
  abbrev pub RowNoToken : Type 0
  RowNoToken =
      (library user : List ℕ) (used : ℕ) (after : row.Row) → Accepts library user used after → Bytes library → Bytes user
      → NoTokenKept library (take used user) (λ c. row.at after (c - class_count library))

  -- two judgings, with equally many library classes and the same groups wherever the class depends on them, leave it the same verdict
  abbrev pub RowLocal : Type 0
  RowLocal =
      (library user : List ℕ) (used : ℕ) (after : row.Row) → Accepts library user used after
      → (library' user' : List ℕ) (used' : ℕ) (after' : row.Row) → Accepts library' user' used' after'
      → class_count library ≡ class_count library'
      → (i : ℕ) → i < class_count (take used user) → i < class_count (take used' user')
      → ((d : ℕ) → Depends (group library (take used user)) (class_count library + i) d → group library (take used user) d ≡ group library' (take used' user') d)
      → row.at after i ≡ row.at after' i
