use Rattle.std.proofs.Common.{rules}
use borrow.Author.Tests.{tests}
use Rattle.std.proofs.lemmas.Result.{err_from_is_err_and}
use Rattle.spec.specs.Lists.{first_of}
use Rattle.spec.specs.Refusals.{refuse_if, refuse_plain, few_places_refusal, index_refusal}
use Rattle.theory.proofs.Answers.{first_some}
use Rattle.queries.proofs.index.with_room.Goals as goal

pub returns-in_err-accepted : goal.returns-in_err-accepted
unfolding index_refusal
returns-in_err-accepted c =
    let p = err_from_is_err_and c.from_residual.result c.from_residual.ensures.1 in rw (p.1, p.2) (first_some _ c.in_err-accepted.ensures)

pub returns-in_err-unless : goal.returns-in_err-unless
unfolding index_refusal few_places_refusal refuse_plain refuse_if first_of
returns-in_err-unless c =
    let p = err_from_is_err_and c.from_residual-in_err-unless.result c.from_residual-in_err-unless.ensures.1 in rw (p.1, p.2) (search (rules, tests))

pub returns : goal.returns
unfolding index_refusal few_places_refusal refuse_plain refuse_if first_of
returns c = search (rules, tests)
