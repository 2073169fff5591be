-- What is asked of the group is asked of the bytes from the place on; the measure is how many are left.
use Rattle.std.proofs.Common.{◌-◌, length}
use Rattle.whole.proofs.Walking.{Going}
use Rattle.whole.proofs.whole_group.Given as goal

abbrev pub invariant-loop-at : goal.invariant-loop-at
invariant-loop-at l = Going l.group l.at

abbrev pub decreases-loop-at : goal.decreases-loop-at
decreases-loop-at l = length l.group - l.at
