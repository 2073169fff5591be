-- The bytes ahead are still the old ones.
use Rattle.std.proofs.Common.{◌-◌, drop}
use Rattle.edit.proofs.Copying.{Backed}
use Rattle.edit.proofs.move_up.Given as goal

abbrev pub invariant-loop-done : goal.invariant-loop-done
invariant-loop-done l = Backed l.fn.buffer l.to (drop l.from l.fn.buffer) l.n l.buffer (l.n - l.done)
