use Rattle.std.proofs.Common.{rules}
use borrow.Author.Tests.{tests, ltb-true}
use native.Mathlib.Omega.{arith}
use Rattle.std.proofs.lemmas.Result.{err_from_is_err_and}
use Rattle.spec.specs.Lists.{first_of}
use Rattle.spec.specs.Sheet.{total}
use Rattle.spec.specs.Refusals.{refuse_if, refuse_plain, last_class, empty_refusal, named_refusal, few_lines_refusal, withdraw_refusal}
use Rattle.theory.proofs.Answers.{first_some}
use Rattle.refusals.proofs.Unless.{held, failed}
use Rattle.withdraw.proofs.Withdrawing.{last_is}
use Rattle.withdraw.proofs.removable.Goals as goal

pub returns-in_err-accepted : goal.returns-in_err-accepted
unfolding withdraw_refusal
returns-in_err-accepted c =
    let p = err_from_is_err_and c.from_residual.result c.from_residual.ensures.1 in rw (p.1, p.2) (first_some _ c.in_err-accepted.ensures)

pub overflow_sub-class : goal.overflow_sub-class
unfolding total
overflow_sub-class c = omega (arith, c.count-class.ensures.count, c.user_count-own.ensures, ltb-true _ _ (held _ _ c.in_ok-unless.ensures))

pub last_named-requires : goal.last_named-requires
unfolding total
last_named-requires c = omega (arith, c.count-class.ensures.count, c.user_count-own.ensures, ltb-true _ _ (held _ _ c.in_ok-unless.ensures))

pub start-requires : goal.start-requires
unfolding total
start-requires c = omega (arith, c.count-class.ensures.count, c.user_count-own.ensures, ltb-true _ _ (held _ _ c.in_ok-unless.ensures))

pub returns-in_err-unless : goal.returns-in_err-unless
unfolding withdraw_refusal empty_refusal refuse_plain refuse_if first_of total
returns-in_err-unless c =
    let p = err_from_is_err_and c.from_residual-in_err-unless.result c.from_residual-in_err-unless.ensures.1 in
    let f = failed _ _ c.in_err-unless.ensures in
    rw (p.1, p.2, f.1) (search (rules, tests, f.0))

pub returns-in_err-unless-2 : goal.returns-in_err-unless-2
unfolding withdraw_refusal empty_refusal named_refusal last_class refuse_plain refuse_if first_of total
returns-in_err-unless-2 c =
    let p = err_from_is_err_and c.from_residual-in_err-unless-2.result c.from_residual-in_err-unless-2.ensures.1 in
    let f = failed _ _ c.in_err-unless-2.ensures in
    let h = held _ _ c.in_ok-unless.ensures in
    rw (p.1, p.2, f.1) (search (rules, tests, f.0, h) fits 20000)

pub returns-in_err-unless-3 : goal.returns-in_err-unless-3
unfolding withdraw_refusal empty_refusal named_refusal few_lines_refusal last_class refuse_plain refuse_if first_of total
returns-in_err-unless-3 c =
    let p = err_from_is_err_and c.from_residual-in_err-unless-3.result c.from_residual-in_err-unless-3.ensures.1 in
    let f = failed _ _ c.in_err-unless-3.ensures in
    let h = held _ _ c.in_ok-unless.ensures in
    let h₂ = held _ _ c.in_ok-unless-2.ensures in
    rw (p.1, p.2, f.1) (search (rules, tests, f.0, h, h₂) fits 20000)

pub returns : goal.returns
unfolding withdraw_refusal empty_refusal named_refusal few_lines_refusal last_class refuse_plain refuse_if first_of total
returns c =
    let all = c.count-class.ensures in
    let own = c.user_count-own.ensures in (
      search (rules, tests, held _ _ c.in_ok-unless.ensures, held _ _ c.in_ok-unless-2.ensures, held _ _ c.in_ok-unless-3.ensures) fits 20000,
      last_is all.passed (omega (arith, own, ltb-true _ _ (held _ _ c.in_ok-unless.ensures))) c.in_ok-accepted.ensures.1 (omega (arith, all.count)) c.start.ensures (omega (arith, own)),
    )
