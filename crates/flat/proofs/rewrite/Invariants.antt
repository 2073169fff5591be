-- In the loop the verdicts of the marked classes below c are written, and the walk is over the same judging.
use Rattle.std.proofs.Common.{◌≡◌}
use Rattle.spec.specs.Verdicts.{user_verdict}
use Rattle.sheets.specs.Sheets.{count, library_count}
use Rattle.flat.proofs.Rewriting.{Rewriting}
use Rattle.flat.proofs.rewrite.Given as goal

abbrev pub invariant-loop-c : goal.invariant-loop-c
invariant-loop-c l =
    Rewriting (library_count l.survey.judging.formed.now.sheets) (count l.survey.judging.formed.now.sheets)
    (user_verdict l.survey.judging.formed.now.sheets.library l.survey.judging.formed.now.sheets.user) l.marks l.fn.verdicts l.verdicts l.c
    × (l.walk.judging.now ≡ l.survey.judging)
