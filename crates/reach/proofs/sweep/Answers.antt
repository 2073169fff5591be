use native.Mathlib.Omega.{arith}
use Rattle.lanes.proofs.Sweeping.{sweep_end}
use Rattle.reach.proofs.sweep.Goals as goal

pub returns : goal.returns
returns c = sweep_end c.loop-i.invariant (omega (arith, c.loop-i-test.false))
