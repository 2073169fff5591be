use native.Mathlib.Omega.{arith}
use Rattle.std.proofs.lemmas.Result.{err_from_is_err_and}
use Rattle.spec.specs.Verdicts.{flat_lines}
use Rattle.withdraw.proofs.Withdrawing.{withdraw_refused, within, room, withdrawn}
use Rattle.withdraw.proofs.withdraw.Goals as goal

pub returns-in_err-last : goal.returns-in_err-last
unfolding flat_lines
returns-in_err-last c =
    let p = err_from_is_err_and c.from_residual.result c.from_residual.ensures.1 in rw (p.1, p.2) (withdraw_refused _ _ _ _ c.in_err-last.ensures)

pub slice_bounds-fill-count : goal.slice_bounds-fill-count
unfolding flat_lines
slice_bounds-fill-count c = omega (arith, within _ _ _ _ c.in_ok-last.ensures.0 c.in_ok-last.ensures.1)

pub slice_bounds-fill-start : goal.slice_bounds-fill-start
unfolding flat_lines
slice_bounds-fill-start c = omega (arith, within _ _ _ _ c.in_ok-last.ensures.0 c.in_ok-last.ensures.1)

pub slice_bounds-fill-end : goal.slice_bounds-fill-end
unfolding flat_lines
slice_bounds-fill-end c = omega (arith, within _ _ _ _ c.in_ok-last.ensures.0 c.in_ok-last.ensures.1)

pub overflow_mul-line : goal.overflow_mul-line
unfolding flat_lines
overflow_mul-line c = omega (arith, room _ _ _ _ c.in_ok-last.ensures.0 c.in_ok-last.ensures.1)

pub overflow_add-line : goal.overflow_add-line
unfolding flat_lines
overflow_add-line c = omega (arith, room _ _ _ _ c.in_ok-last.ensures.0 c.in_ok-last.ensures.1)

pub slice_bounds-fill-end-2 : goal.slice_bounds-fill-end-2
unfolding flat_lines
slice_bounds-fill-end-2 c = room _ _ _ _ c.in_ok-last.ensures.0 c.in_ok-last.ensures.1

pub returns : goal.returns
unfolding flat_lines
returns c = withdrawn _ _ _ _ c.in_ok-last.ensures.0 c.in_ok-last.ensures.1 (c.fill.ensures.after (λ y q. q)) (c.fill-2.ensures.after (λ y q. q))
