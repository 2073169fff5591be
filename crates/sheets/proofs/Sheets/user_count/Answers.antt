-- Both sheets' classes without the library's.
use native.Mathlib.Omega.{arith}
use Rattle.spec.specs.Sheet.{total}
use Rattle.sheets.proofs.Standing.{library_count_is, count_is}
use Rattle.sheets.proofs.Sheets.user_count.Goals as goal

pub overflow_sub-result : goal.overflow_sub-result
unfolding total
overflow_sub-result c = omega (arith, library_count_is c.self.invariant c.self.view_is, count_is c.self.invariant c.self.view_is)

pub returns : goal.returns
unfolding total
returns c = omega (arith, library_count_is c.self.invariant c.self.view_is, count_is c.self.invariant c.self.view_is)
