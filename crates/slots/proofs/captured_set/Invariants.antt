-- The lanes that are left make all.
use Rattle.std.proofs.Common.{drop}
use Rattle.slots.proofs.Sets.{Passing}
use Rattle.slots.proofs.captured_set.Given as goal

abbrev pub invariant-loop-lane : goal.invariant-loop-lane
invariant-loop-lane l = Passing l.row l.t l.set (drop l.lane-index l.lane-items)
