use Rattle.std.proofs.Common.{◌∙◌, rules, tests}
use Rattle.std.proofs.lemmas.Iterator.Consumers.{YieldsList-from_first}
use Rattle.std.proofs.lemmas.Iterator.Search.{any_from_yields_List}
use Rattle.records.proofs.Chains.{any_is}
use Rattle.lanes.specs.Lanes.{words}
use Rattle.reach.specs.Reach.{offers}
use Rattle.reach.proofs.names_lower.Goals as goal

pub returns : goal.returns
returns c =
    any_from_yields_List (offers (words c.args.row.now) c.args.extent.classes c.args.extent.lanes c.args.m) _ _ _ c.any.ensures.ran (YieldsList-from_first (λ t. t) (λ ts. ts) _ c.named_along.ensures)
    (λ x b q k. search (rules, tests))
    ∙ any_is _ _
