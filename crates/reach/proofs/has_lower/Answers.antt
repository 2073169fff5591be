use Rattle.std.proofs.Common.{refl, arith, rules, tests}
use Rattle.std.proofs.lemmas.Iterator.{YieldsList-from_range}
use Rattle.std.proofs.lemmas.Iterator.Search.{any_from_yields_List}
use Rattle.lanes.specs.Lanes.{words}
use Rattle.reach.proofs.Wanting.{lower_in, offers_past, offers_read}
use Rattle.reach.proofs.has_lower.Goals as goal

pub returns-then-t-extent : goal.returns-then-t-extent
returns-then-t-extent c =
    offers_read _ _ _ _ _ c.if-t-extent.true
    (any_from_yields_List (lower_in (words c.args.row.now) c.args.m c.args.t) _ _ _ c.any.ensures.ran (YieldsList-from_range 0 c.args.extent.lanes c.args.extent.lanes refl (omega arith))
    (λ x b q k. search (rules, tests)))

pub returns-else-t-extent : goal.returns-else-t-extent
returns-else-t-extent c = offers_past _ _ _ _ _ c.if-t-extent.false
