-- The bytes ahead are still the old ones.
use Rattle.std.proofs.Common.{drop}
use Rattle.edit.proofs.Copying.{Copied}
use Rattle.edit.proofs.move_down.Given as goal

abbrev pub invariant-loop-i : goal.invariant-loop-i
invariant-loop-i l = Copied l.fn.buffer l.to (drop l.from l.fn.buffer) l.n l.buffer l.i
