use Rattle.std.proofs.Common.{◌∙◌, ap, sym, subst, not, rules, tests}
use Rattle.std.proofs.lemmas.Iterator.Consumers.{YieldsList-from_first}
use Rattle.std.proofs.lemmas.Iterator.Adapters.{serves_from_places}
use Rattle.std.proofs.lemmas.Iterator.Search.{any_from_yields_List}
use Rattle.laws.proofs.All.{all_at}
use Rattle.sheets.specs.Sheets.{count, groups, library_count}
use Rattle.breaks.specs.Bans.{Refers}
use Rattle.records.proofs.Chains.{any_is}
use Rattle.survey.specs.Survey.{record_breaks}
use Rattle.survey.proofs.records_fine.Goals as goal

pub any-requires-clause-callable : goal.any-requires-clause-callable
any-requires-clause-callable c =
    serves_from_places (YieldsList-from_first (λ r. r) (λ rs. rs) _ c.records.ensures.records) (λ x q k. search (rules, tests))
    (λ x k b e. subst (Refers (count c.args.judging.now.formed.now.sheets) (groups c.args.judging.now.formed.now.sheets)) (sym e)
    (all_at _ x c.args.group.now c.requires k b))

pub returns : goal.returns
returns c = ap not
    (any_from_yields_List (record_breaks (library_count c.args.judging.now.formed.now.sheets) (groups c.args.judging.now.formed.now.sheets)) _ _ _ c.any.ensures.ran
    (YieldsList-from_first (λ r. r) (λ rs. rs) _ c.records.ensures.records) (λ x b q k. search (rules, tests))
    ∙ any_is _ _)
