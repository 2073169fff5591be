use Rattle.std.proofs.Common.{rules}
use borrow.Author.Tests.{tests}
use Rattle.survey.specs.Survey.{head_by}
use Rattle.survey.proofs.head_fine.Goals as goal

pub returns : goal.returns
unfolding head_by
returns c = search (rules, tests)
