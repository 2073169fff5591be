-- The first i classes of the order have drawn.
use Rattle.lanes.specs.Lanes.{words}
use Rattle.lanes.proofs.Sweeping.{SweepAt}
use Rattle.sheets.specs.Sheets.{groups}
use Rattle.reach.specs.Reach.{steps_of, outer_of}
use Rattle.reach.proofs.sweep.Given as goal

abbrev pub invariant-loop-i : goal.invariant-loop-i
invariant-loop-i l =
    let p = l.nest.formed.now.sheets in
    SweepAt (steps_of (groups p) l.along) (outer_of (groups p)) l.extent.classes l.extent.lanes l.up (words l.fn.row) (words l.row) l.added l.i
