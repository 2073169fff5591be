-- What the classes below the next one use.
use Rattle.sheets.specs.Sheets.{groups}
use Rattle.lanes.specs.Lanes.{words}
use Rattle.captured.specs.Seeds.{Lowering, ByClasses}
use Rattle.captured.proofs.MarkedSheets.seed.Given as goal

abbrev pub invariant-loop-m : goal.invariant-loop-m
invariant-loop-m l = Lowering (ByClasses (groups l.fn.self.nest.now.formed.now.sheets) l.m) (words l.fn.row) (words l.row)
