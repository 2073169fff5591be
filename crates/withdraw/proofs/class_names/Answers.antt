use Rattle.std.proofs.Common.{sym, ◌∙◌, rules, tests}
use Rattle.std.proofs.lemmas.Iterator.Consumers.{YieldsList-from_first}
use Rattle.std.proofs.lemmas.Iterator.Search.{any_from_yields_List}
use Rattle.records.proofs.Chains.{any_is}
use Rattle.withdraw.proofs.Naming.{record_names, class_names}
use Rattle.withdraw.proofs.class_names.Goals as goal

pub returns : goal.returns
returns c =
    any_from_yields_List (record_names c.args.t) _ _ _ c.any.ensures.ran (YieldsList-from_first (λ r. r) (λ rs. rs) _ c.records.ensures.records)
    (λ x b q k. search (rules, tests))
    ∙ any_is _ _
    ∙ sym (class_names _ _)
