-- Document 02, C-12, of the row of structs: an addition and a withdrawal over the flat row, read in a slice that it is written into before and after.
-- Assumes nothing.
use Rattle.std.specs.Prelude.{◌≡◌, List, ℕ, ◌<◌, length, take}
use Rattle.spec.specs.Sheet.{class_count}
use Rattle.spec.specs.Verdicts.{flat}
use Rattle.spec.specs.Promises.{Answer, accepted, State, Adds, Withdraws}
use Rattle.history.specs.Undo.{Undone}
use Rattle.verdicts.specs.Row.{structs, written}
use Rattle.verdicts.specs.Demand3.{holding}
use Rattle.verdicts.specs.declared.Verdict.{Verdict}

-- a slice with a line for the added class, and n lines written each time
abbrev pub WrittenUndone : State flat → List ℕ → State flat → Type 0
WrittenUndone before g last =
    (row : List Verdict) (n : ℕ) → class_count (take before.used before.user) < length row → class_count (take before.used before.user) < n
    → let first = written before.verdicts row n in Undone structs (holding before first) g (holding last (written last.verdicts first n))

abbrev pub StructUndo : Type 0
StructUndo =
    (library g : List ℕ) (before after last : State flat) (scratch scratch_after : List ℕ) (class : ℕ) (answer : Answer ℕ)
    → Adds flat library g before scratch (accepted class) after scratch_after → Withdraws flat library after answer last
    → (answer ≡ accepted class) × WrittenUndone before g last
