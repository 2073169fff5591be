use Rattle.std.proofs.Common.{Bool, ℕ, ◌∙◌, refl, ap, arith, rules, tests}
use Rattle.std.proofs.lemmas.Iterator.{YieldsList-from_range, serves_from_Range}
use Rattle.std.proofs.lemmas.Iterator.Search.{any_from_yields_List}
use Rattle.spec.specs.Lists.{any, elem}
use Rattle.spec.specs.Sheet.{group_references}
use Rattle.records.proofs.Chains.{any_is, span_is}
use Rattle.sheets.specs.Sheets.{groups}
use Rattle.withdraw.proofs.last_named.Goals as goal

pub any-requires-clause-callable : goal.any-requires-clause-callable
any-requires-clause-callable c = serves_from_Range (λ x q k. search (rules, tests)) (λ x lo hi. omega (arith, hi, c.requires))

pub returns : goal.returns
returns c =
    let named : ℕ → Bool = λ d. elem c.args.last (group_references (groups c.args.sheets.now d)) in
    any_from_yields_List named _ _ _ c.any.ensures.ran (YieldsList-from_range 0 c.args.last c.args.last refl (omega arith)) (λ x b q k. search (rules, tests))
    ∙ any_is _ _
    ∙ ap (any named) (span_is 0 c.args.last)
