use Rattle.std.proofs.Common.{rules}
use borrow.Author.Tests.{tests}
use Rattle.form.specs.Form.{deemed_breaks}
use Rattle.form.proofs.deemed_breaks.Goals as goal

pub returns-then-clash : goal.returns-then-clash
unfolding deemed_breaks
returns-then-clash c = search (rules, tests)

pub returns-then-c-eq0 : goal.returns-then-c-eq0
unfolding deemed_breaks
returns-then-c-eq0 c = search (rules, tests)

pub returns-else-c-eq0 : goal.returns-else-c-eq0
unfolding deemed_breaks
returns-else-c-eq0 c = search (rules, tests)
