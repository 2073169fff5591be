use Rattle.std.proofs.Common.{rules}
use borrow.Author.Tests.{tests}
use Rattle.spec.specs.Record.{bit}
use Rattle.breaks.proofs.early.reserved.Goals as goal

pub returns-then-has-2 : goal.returns-then-has-2
unfolding bit
returns-then-has-2 c = search (rules, tests)

pub returns-else-has-2 : goal.returns-else-has-2
unfolding bit
returns-else-has-2 c = search (rules, tests)
