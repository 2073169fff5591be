-- The bytes ahead are still the old ones.
use Rattle.std.proofs.Common.{◌≡◌, ◌+◌, ◌-◌, ap, sym, ◌∙◌, drop, get_or, arith}
use Rattle.std.proofs.Math.Seq.{get_or-drop}
use Rattle.edit.proofs.Copying.{back_ahead, back_next}
use Rattle.edit.proofs.move_up.Goals as goal

pub loop-done-preserved : goal.loop-done-preserved
loop-done-preserved c =
    let inv = c.loop-done.invariant in
    let e : c.args.n - 1 - c.loop-done.done ≡ c.args.n - (c.loop-done.done + 1) = omega arith in
    back_next inv (omega arith) (ap (λ i. c.args.to + i) e) (back_ahead inv _ (omega arith) ∙ (sym (get_or-drop c.args.from c.args.buffer.now (c.args.n - 1 - c.loop-done.done) 0)
    ∙ ap (λ i. get_or (drop c.args.from c.args.buffer.now) i 0) e))
