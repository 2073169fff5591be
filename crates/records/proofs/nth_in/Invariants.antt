-- Number `left` of the kind among the records that are left is the one that is sought.
use Rattle.std.proofs.Common.{length}
use Rattle.records.specs.Records.{between, nth_byte}
use Rattle.records.proofs.Nth.{Seeking}
use Rattle.records.proofs.nth_in.Given as goal

abbrev pub invariant-loop-record : goal.invariant-loop-record
invariant-loop-record l =
    (goal.iterator-loop-record).can_next l.record-iterator
    × (goal.iterator-loop-record).is_finite l.record-iterator
    × Seeking l.kind (nth_byte l.kind l.i 0 (between l.bytes 0 (length l.bytes))) (length l.bytes) l.at l.left l.record-iterator
