use Rattle.std.proofs.Common.{rules}
use borrow.Author.Tests.{tests}
use Rattle.survey.specs.Survey.{record_breaks}
use Rattle.survey.proofs.breaks.Goals as goal

pub returns-then-refers_forbidden : goal.returns-then-refers_forbidden
unfolding record_breaks
returns-then-refers_forbidden c = search (rules, tests)

pub returns-else-refers_forbidden : goal.returns-else-refers_forbidden
unfolding record_breaks
returns-else-refers_forbidden c = search (rules, tests)
