use Rattle.second.proofs.Passing.{Going}
use Rattle.second.proofs.class_pass.Given as goal

-- what is left of the class decides
abbrev pub invariant-loop-record : goal.invariant-loop-record
invariant-loop-record l =
    (goal.iterator-loop-record).can_next l.record-iterator
    × (goal.iterator-loop-record).is_finite l.record-iterator
    × Going l.sheets l.c l.byte l.record-iterator
