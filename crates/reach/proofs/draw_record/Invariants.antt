-- What is left of the classes completes the record.
use Rattle.named.specs.Named.{named_by}
use Rattle.lanes.specs.Lanes.{words}
use Rattle.reach.proofs.Scanning.{DrawsFrom}
use Rattle.reach.proofs.draw_record.Given as goal

abbrev pub invariant-loop-t : goal.invariant-loop-t
invariant-loop-t l =
    (goal.iterator-loop-t).can_next l.t-iterator
    × (goal.iterator-loop-t).is_finite l.t-iterator
    × DrawsFrom (named_by l.fn.along l.fn.«record») l.t-iterator l.marks l.extent.classes l.extent.lanes l.m (words l.fn.row) (words l.row) l.added
