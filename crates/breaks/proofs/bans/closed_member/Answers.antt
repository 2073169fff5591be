use Rattle.std.proofs.Common.{rules}
use borrow.Author.Tests.{tests}
use Rattle.records.proofs.Bodies.{is_not, not_member}
use Rattle.breaks.specs.Bans.{closed_member}
use Rattle.breaks.proofs.bans.closed_member.Goals as goal

pub returns-in-Member : goal.returns-in-Member
unfolding closed_member
returns-in-Member c = search (rules, tests)

pub returns-in_default : goal.returns-in_default
unfolding closed_member
returns-in_default c = let n = is_not c.args.record.now c.body.result c.body.ensures (not_member c.body.result c.in_default.not-Member) in search (rules, tests)
