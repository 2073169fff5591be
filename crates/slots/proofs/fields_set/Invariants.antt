-- The set has only markers whose rules the fields passed do not break.
use Rattle.slots.proofs.Fields.{Fielding}
use Rattle.slots.proofs.fields_set.Given as goal

abbrev pub invariant-loop-record : goal.invariant-loop-record
invariant-loop-record l =
    (goal.iterator-loop-record).can_next l.record-iterator
    × (goal.iterator-loop-record).is_finite l.record-iterator
    × Fielding l.fn.markers l.fn.records l.set l.record-iterator
