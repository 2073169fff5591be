-- In the loop the records before the place have passed, and the row holds their starts. The measure is what is left of the bytes.
use Rattle.std.proofs.Common.{length}
use Rattle.pass.proofs.Going.{Going}
use Rattle.pass.proofs.first_pass.Given as goal

abbrev pub invariant-loop-rest : goal.invariant-loop-rest
invariant-loop-rest l = Going l.fn.side l.bytes l.base l.from l.initial.starts l.starts l.place l.rest

abbrev pub decreases-loop-rest : goal.decreases-loop-rest
decreases-loop-rest l = length l.rest
