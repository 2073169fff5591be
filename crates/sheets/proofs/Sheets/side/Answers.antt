use mathlib.Core.Path.{sym}
use native.Mathlib.Omega.{arith}
use Rattle.groups.proofs.Held.{library_number, user_number}
use Rattle.sheets.proofs.Standing.{library_count_is}
use Rattle.sheets.proofs.Sheets.side.Goals as goal

pub returns-then-c-self : goal.returns-then-c-self
returns-then-c-self c = sym (library_number _ _ (omega (arith, library_count_is c.self.invariant c.self.view_is, c.if-c-self.true)))

pub returns-else-c-self : goal.returns-else-c-self
returns-else-c-self c = sym (user_number _ _ (omega (arith, library_count_is c.self.invariant c.self.view_is, c.if-c-self.false)))
