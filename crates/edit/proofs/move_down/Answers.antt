-- The bytes ahead are still the old ones.
use Rattle.std.proofs.Common.{refl, ◌∙◌, arith}
use Rattle.std.proofs.Math.Seq.{get_or-drop}
use Rattle.edit.proofs.Copying.{copy_ahead, copy_next}
use Rattle.edit.proofs.move_down.Goals as goal

pub loop-i-preserved : goal.loop-i-preserved
loop-i-preserved c = let inv = c.loop-i.invariant in copy_next inv c.loop-i-test.true refl (copy_ahead inv _ (omega arith) ∙ simp get_or-drop) refl
