-- What is known of the last class once nothing stands against its withdrawal.
-- Assumes nothing.
use Rattle.std.specs.Prelude.{◌≡◌, List, ℕ, ◌-◌, length}
use Rattle.spec.specs.Sheet.{class_count}
use Rattle.spec.specs.Refusals.{last_class, withdrawn_sheet}
use Rattle.withdraw.specs.declared.Last.{Last}

-- its number, where what is left without it ends, and the last line
pub record IsLast (library user : List ℕ) (last : Last) : Type 0 where
  pub class_is : last.class ≡ last_class library user
  pub start_is : last.start ≡ length (withdrawn_sheet user)
  pub line_is : last.line ≡ class_count user - 1
