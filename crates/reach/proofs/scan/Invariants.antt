-- What is left of the records completes the group.
use Rattle.reach.specs.Reach.{named_in}
use Rattle.lanes.specs.Lanes.{words}
use Rattle.reach.proofs.Scanning.{DrawsFrom}
use Rattle.reach.proofs.scan.Given as goal

abbrev pub invariant-loop-record : goal.invariant-loop-record
invariant-loop-record l =
    (goal.iterator-loop-record).can_next l.record-iterator
    × (goal.iterator-loop-record).is_finite l.record-iterator
    × DrawsFrom (named_in l.along l.group) (named_in l.along l.record-iterator) l.marks l.extent.classes l.extent.lanes l.m (words l.fn.row) (words l.row) l.added
