-- Document 02, C-12: an addition has a way back. Stated over any verdict row.
-- Assumes nothing.
use Rattle.std.specs.Prelude.{◌≡◌, ◌≢◌, List, ◌++◌, ℕ, ◌+◌, length, take, drop, replicate}
use Rattle.spec.specs.Sheet.{class_count}
use Rattle.spec.specs.Rules.{clean}
use Rattle.spec.specs.Verdicts.{VerdictRow}
use Rattle.spec.specs.Promises.{Answer, accepted, State, Adds, Withdraws}

module _ (row : VerdictRow) where
  -- "gives back the used bytes, the length and all other lines; only the scratch, the bytes past the used length and the one line may differ from before":
  -- where the group stood are zeros, and its line is clean
  pub record Undone (before : State row) (g : List ℕ) (last : State row) : Type 0 where
    pub used_is : last.used ≡ before.used
    pub user_is : last.user ≡ take before.used before.user ++ (replicate (length g) 0 ++ drop (before.used + length g) before.user)
    pub lines_are : row.lines last.verdicts ≡ row.lines before.verdicts
    pub cleared_line : row.at last.verdicts (class_count (take before.used before.user)) ≡ clean
    pub other_lines : (i : ℕ) → i ≢ class_count (take before.used before.user) → row.at last.verdicts i ≡ row.at before.verdicts i

  -- of an accepted addition and any withdrawal that follows it: the withdrawal is accepted and answers the same class
  abbrev pub AddThenWithdraw : Type 0
  AddThenWithdraw =
      (library g : List ℕ) (before after last : State row) (scratch scratch_after : List ℕ) (class : ℕ) (answer : Answer ℕ)
      → Adds row library g before scratch (accepted class) after scratch_after → Withdraws row library after answer last
      → (answer ≡ accepted class) × Undone before g last
