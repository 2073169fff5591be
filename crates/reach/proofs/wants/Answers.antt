use Rattle.std.proofs.Common.{sym, ◌∙◌, rules, tests}
use Rattle.std.proofs.lemmas.Iterator.Consumers.{YieldsList-from_first}
use Rattle.std.proofs.lemmas.Iterator.Search.{any_from_yields_List}
use Rattle.spec.specs.Lists.{any}
use Rattle.theory.proofs.Somewhere.{any_gather}
use Rattle.records.proofs.Chains.{any_is}
use Rattle.named.specs.Named.{named_by}
use Rattle.lanes.specs.Lanes.{words}
use Rattle.reach.specs.Reach.{named_in, offers}
use Rattle.reach.proofs.wants.Goals as goal

pub returns : goal.returns
unfolding named_in
returns c =
    any_from_yields_List (λ r. any (offers (words c.args.row.now) c.args.extent.classes c.args.extent.lanes c.args.m) (named_by c.args.along r)) _ _ _ c.any.ensures.ran
    (YieldsList-from_first (λ r. r) (λ rs. rs) _ c.records.ensures.records) (λ x b q k. search (rules, tests))
    ∙ any_is _ _
    ∙ sym (any_gather _ (named_by c.args.along) c.args.group.now)
