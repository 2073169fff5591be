-- What the counts of a judging stand for.
-- Assumes nothing.
use Rattle.spec.specs.Promises as spec
use Rattle.verifier.specs.declared.Counts.{Counts}

abbrev pub counts_in : Counts → spec.Counts
counts_in c = record { classes = c.classes; faulted = c.faulted }
