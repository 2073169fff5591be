use Rattle.std.proofs.Common.{rules}
use borrow.Author.Tests.{tests}
use Rattle.spec.specs.Lists.{only_if}
use Rattle.records.proofs.Bodies.{is_not, not_builds}
use Rattle.named.proofs.built.Goals as goal

pub returns-in-Builds : goal.returns-in-Builds
unfolding only_if
returns-in-Builds c = search (rules, tests)

pub returns-in_default : goal.returns-in_default
unfolding only_if
returns-in_default c = let n = is_not c.args.record.now c.body.result c.body.ensures (not_builds c.body.result c.in_default.not-Builds) in search (rules, tests)
