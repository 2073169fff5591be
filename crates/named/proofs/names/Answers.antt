use Rattle.std.proofs.Common.{◌∙◌, rules, tests}
use Rattle.std.proofs.lemmas.Iterator.Consumers.{YieldsList-from_first}
use Rattle.std.proofs.lemmas.Iterator.Search.{any_from_yields_List}
use lib.Dec.{eqb}
use Rattle.spec.specs.Lists.{elem}
use Rattle.records.proofs.Chains.{any_is}
use Rattle.named.proofs.names.Goals as goal

pub returns : goal.returns
unfolding elem
returns c =
    any_from_yields_List (eqb c.args.t) _ _ _ c.any.ensures.ran (YieldsList-from_first (λ t. t) (λ ts. ts) _ c.named.ensures) (λ x b q k. search (rules, tests))
    ∙ any_is _ _
