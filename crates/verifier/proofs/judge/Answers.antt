-- What refuses a judging, then every verdict.
use Rattle.std.proofs.Common.{◌≡◌, ◌∙◌, ap, take, arith, Bool, true, false}
use Rattle.sheets.specs.Sheets.{Pair, count}
use Rattle.std.proofs.lemmas.Result.{err_from_is_err_and}
use Rattle.spec.specs.Sheet.{class_count, total}
use Rattle.refusals.proofs.Unless.{held, failed}
use Rattle.std.proofs.lemmas.List.{get_or-replicate}
use Rattle.verifier.proofs.Verdicts.{sheets_stop, short_stop, room, enough, judged_all}
use Rattle.verifier.proofs.judge.Goals as goal
use Rattle.verifier.proofs.judge.Goals.{After-user_count-classes}

pub returns-in_err-accepted : goal.returns-in_err-accepted
returns-in_err-accepted c =
    let p = err_from_is_err_and c.from_residual.result c.from_residual.ensures.1 in rw (p.1, p.2) (sheets_stop _ _ _ _ _ c.in_err-accepted.ensures)

-- the sheet that is judged is the used bytes
own : (c : After-user_count-classes) → c.user_count-classes.result ≡ class_count (take c.args.used c.args.user.now)
own c = c.user_count-classes.ensures ∙ ap (λ (p : Pair). class_count p.user) c.in_ok-accepted.ensures.1

pub returns-in_err-unless : goal.returns-in_err-unless
returns-in_err-unless c =
    let k = (goal.at.returns-in_err-unless c).After-user_count-classes in
    let p = err_from_is_err_and c.from_residual-in_err-unless.result c.from_residual-in_err-unless.ensures.1 in
    let f = failed _ _ c.in_err-unless.ensures in
    let h = c.in_ok-accepted.ensures in
    rw (p.1, p.2, f.1) (short_stop c.args.library.now c.args.user.now c.args.used c.args.verdicts.now c.args.scratch.now h.0
    (own k) (rw c.of.ensures at c.holds.ensures) f.0)

pub rejudge-requires-clause-lines : goal.rejudge-requires-clause-lines
unfolding total
rejudge-requires-clause-lines c =
    let k = (goal.at.rejudge-requires-clause-lines c).After-user_count-classes in
    let h = c.in_ok-accepted.ensures in
    let l =
    room c.args.library.now c.args.user.now c.args.used c.args.verdicts.now c.args.scratch.now h.0 (own k) (rw c.of.ensures at c.holds.ensures) (held _ _ c.in_ok-unless.ensures) in
    omega (arith, l, c.user_count-classes.ensures)

pub rejudge-requires-clause-scratch : goal.rejudge-requires-clause-scratch
rejudge-requires-clause-scratch c =
    let k = (goal.at.rejudge-requires-clause-scratch c).After-user_count-classes in
    let h = c.in_ok-accepted.ensures in
    enough c.args.library.now c.args.user.now c.args.used c.args.verdicts.now c.args.scratch.now h.0 (own k) (rw c.of.ensures at c.holds.ensures) (held _ _ c.in_ok-unless.ensures)

pub returns : goal.returns
returns c =
    let k = (goal.at.returns c).After-user_count-classes in
    let h = c.in_ok-accepted.ensures in
    judged_all c.args.library.now c.args.user.now c.args.used c.args.verdicts.now c.args.scratch.now h.0 (own k) (rw c.of.ensures at c.holds.ensures) (held _ _ c.in_ok-unless.ensures)
    _ (λ i l. get_or-replicate {A = Bool} 256 i true false (omega (arith, l, c.in_ok-accepted.accepted.formed.passed.few, ap count h.1)))
    (rw h.1 at c.rejudge.ensures.verdicts) c.rejudge.ensures.scratch c.faulted.ensures
