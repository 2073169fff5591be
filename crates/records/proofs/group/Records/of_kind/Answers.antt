use Rattle.std.proofs.Common.{refl, ap, ◌∙◌, length, rules, tests}
use Rattle.std.proofs.lemmas.Iterator.Consumers.{YieldsList-at, YieldsList-from_first, YieldsList-from_filter, count_from_yields_List}
use Rattle.spec.specs.Record.{is_kind}
use Rattle.spec.specs.Sheet.{of_kind}
use Rattle.records.proofs.Chains.{keep_is}
use Rattle.records.proofs.group.Records.of_kind.Goals as goal

pub returns : goal.returns
unfolding of_kind
returns c =
    count_from_yields_List c.filter.result _ c.count.ensures.ran
    (YieldsList-from_filter _ (is_kind c.args.number)
    (YieldsList-at c.filter.ensures.source (YieldsList-from_first (λ r. r) (λ rs. rs) c.args.self refl))
    c.filter.ensures.closure (λ x r q k. search (rules, tests)))
    ∙ ap length (keep_is _ _)
