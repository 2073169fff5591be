use Rattle.std.proofs.Common.{◌++◌, length, take, drop, set, arith, ap, ◌∙◌}
use mathlib.Core.Path.{ap₂}
use Rattle.std.proofs.lemmas.List.{length-take}
use Rattle.verdicts.proofs.Filling.{filled_none, filled_more, line_read, filled_front, shared_is}
use Rattle.verdicts.proofs.write.Goals as goal

pub loop-i-init : goal.loop-i-init
loop-i-init c = filled_none c.args.flat.now _

pub loop-i-preserved : goal.loop-i-preserved
loop-i-preserved c =
    let few = length-take c.min-end.result c.args.row.now in
    ap₂ (λ r v. set r c.loop-i.i v) c.loop-i.invariant (line_read c.args.flat.now c.as_chunks.ensures.front c.loop-i.i (omega (arith, few, c.as_chunks.ensures.front_len)))
    ∙ filled_more c.args.flat.now (take c.min-end.result c.args.row.now) c.loop-i.i (omega arith)

pub returns : goal.returns
returns c =
    let row = c.args.row.now in
    let flat = c.args.flat.now in
    ap (λ lines. lines ++ drop c.min-end.result row) c.loop-i.invariant
    ∙ filled_front flat row c.args.n (shared_is flat c.args.n (length row) (omega arith)) (omega arith)
