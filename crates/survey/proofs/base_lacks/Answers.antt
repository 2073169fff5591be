use Rattle.std.proofs.Common.{rules}
use borrow.Author.Tests.{tests}
use Rattle.spec.specs.Record.{bit}
use Rattle.survey.proofs.base_lacks.Goals as goal

pub returns-then-has : goal.returns-then-has
unfolding bit
returns-then-has c = search (rules, tests)

pub returns-else-has : goal.returns-else-has
unfolding bit
returns-else-has c = search (rules, tests)
