-- The lanes that are left make all.
use Rattle.std.proofs.Common.{drop}
use Rattle.lanes.specs.Lanes.{words}
use Rattle.captured.specs.Seeds.{InLane}
use Rattle.captured.proofs.Lowering.{Left}
use Rattle.captured.proofs.offer.Given as goal

abbrev pub invariant-loop-lane : goal.invariant-loop-lane
invariant-loop-lane l = Left (InLane l.set l.m l.y) l.lane-items (words l.fn.row) (words l.row) (drop l.lane-index l.lane-items)
