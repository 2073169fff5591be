-- The flat row of verdicts: rewriting keeps its length, writes the verdicts asked for and leaves every other one.
-- Assumes nothing.
use Rattle.spec.specs.Verdicts.{flat}
use Rattle.theory.proofs.FlatRow.{rewritten_lines, at_new, at_kept}
use Rattle.history.specs.Demand3.{RowLaws}

pub flat_laws : RowLaws flat
flat_laws = record { lines_same = rewritten_lines; at_changed = at_new; at_kept = at_kept }
