-- The records that are left make all, and each fits.
use Rattle.laws.proofs.All.{All}
use Rattle.theory.proofs.Accept.{RecordFits}
use Rattle.sheets.specs.Sheets.{count, groups, library_count}
use Rattle.lanes.specs.Lanes.{words}
use Rattle.captured.specs.Seeds.{ByRecord}
use Rattle.captured.proofs.Lowering.{Left}
use Rattle.captured.proofs.MarkedSheets.seed_records.Given as goal

abbrev pub invariant-loop-record : goal.invariant-loop-record
invariant-loop-record l =
    (goal.iterator-loop-record).can_next l.record-iterator
    × (goal.iterator-loop-record).is_finite l.record-iterator
    × All (RecordFits (library_count l.fn.self.nest.now.formed.now.sheets) (count l.fn.self.nest.now.formed.now.sheets) (groups l.fn.self.nest.now.formed.now.sheets) l.fn.m) l.record-iterator
    × Left (ByRecord (groups l.fn.self.nest.now.formed.now.sheets) l.fn.m) (groups l.fn.self.nest.now.formed.now.sheets l.fn.m) (words l.fn.row) (words l.row) l.record-iterator
