-- Those below it have entered.
use Rattle.std.proofs.Common.{◌≡◌}
use Rattle.spec.specs.Index.{index_of}
use Rattle.sheets.specs.Sheets.{groups}
use Rattle.names.proofs.fill.Given as goal

abbrev pub invariant-loop-class : goal.invariant-loop-class
invariant-loop-class l = l.row ≡ index_of (groups l.sheets) l.class
