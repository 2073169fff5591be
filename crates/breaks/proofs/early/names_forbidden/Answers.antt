use Rattle.std.proofs.Common.{◌∙◌, rules, tests}
use Rattle.std.proofs.lemmas.Iterator.Consumers.{YieldsList-from_first}
use Rattle.std.proofs.lemmas.Iterator.Search.{any_from_yields_List}
use Rattle.spec.specs.Rules.{forbidden}
use Rattle.records.proofs.Chains.{any_is}
use Rattle.breaks.proofs.early.names_forbidden.Goals as goal

pub returns : goal.returns
returns c = record {
  is = λ nlib g w.
      any_from_yields_List (forbidden nlib g) _ _ _ c.any.ensures.ran (YieldsList-from_first (λ t. t) (λ ts. ts) _ c.named.ensures) (λ x b q k. search (rules, tests))
      ∙ any_is _ _;
}
