-- In the loop no lower class was refused, and the memo knows the lower classes.
use Rattle.sheets.specs.Sheets.{groups, library_count}
use Rattle.form.proofs.Deeming.{Deeming}
use Rattle.form.proofs.deemed.Given as goal

abbrev pub invariant-loop-c : goal.invariant-loop-c
invariant-loop-c l = Deeming (groups l.formed.sheets) (library_count l.formed.sheets) l.memo l.c
