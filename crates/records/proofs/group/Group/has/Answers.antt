use Rattle.std.proofs.Common.{◌∙◌, rules, tests}
use Rattle.std.proofs.lemmas.Iterator.Consumers.{YieldsList-from_first}
use Rattle.std.proofs.lemmas.Iterator.Search.{any_from_yields_List}
use Rattle.spec.specs.Record.{is_kind}
use Rattle.records.specs.Kinds.{kind_number}
use Rattle.records.proofs.Chains.{any_is}
use Rattle.records.proofs.group.Group.has.Goals as goal

pub returns : goal.returns
returns c =
    any_from_yields_List (is_kind (kind_number c.args.kind)) _ _ _ c.any.ensures.ran (YieldsList-from_first (λ r. r) (λ rs. rs) _ c.records.ensures.records)
    (λ x b q k. search (rules, tests))
    ∙ any_is _ _
