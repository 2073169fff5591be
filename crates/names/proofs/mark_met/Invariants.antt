-- Those below it have entered, and of each it is known.
use Rattle.std.proofs.Common.{◌≡◌, ℕ, ◌<◌, get_or, false}
use Rattle.spec.specs.Sheet.{class_record}
use Rattle.spec.specs.Refusals.{name_met}
use Rattle.spec.specs.Index.{index_of}
use Rattle.sheets.specs.Sheets.{groups}
use Rattle.names.proofs.mark_met.Given as goal

abbrev pub invariant-loop-class : goal.invariant-loop-class
invariant-loop-class l =
    let g = groups l.sheets in
    (l.row ≡ index_of g l.class) × ((d : ℕ) → d < l.class → get_or l.entry-items d false ≡ name_met g d (class_record (g d)))
