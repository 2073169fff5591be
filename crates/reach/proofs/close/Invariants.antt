-- Each sweep that changes something lowers the row's sum; after one that does not, the row is least.
use Rattle.lanes.specs.Lanes.{words, sum_of}
use Rattle.lanes.proofs.Closing.{CloseAt}
use Rattle.sheets.specs.Sheets.{count, groups}
use Rattle.reach.specs.Reach.{steps_of, outer_of}
use Rattle.reach.proofs.close.Given as goal

abbrev pub invariant-loop-along : goal.invariant-loop-along
invariant-loop-along l =
    let p = l.nest.formed.now.sheets in
    CloseAt (steps_of (groups p) l.along) (outer_of (groups p)) (count p) l.lanes (words l.fn.row) (words l.row)

abbrev pub decreases-loop-along : goal.decreases-loop-along
decreases-loop-along l = sum_of (words l.row)
