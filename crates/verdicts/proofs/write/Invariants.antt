-- The first i lines are the flat row's, the others as they were.
use Rattle.std.proofs.Common.{◌≡◌}
use Rattle.verdicts.proofs.Filling.{filled}
use Rattle.verdicts.proofs.write.Given as goal

abbrev pub invariant-loop-i : goal.invariant-loop-i
invariant-loop-i l = l.verdict-items ≡ filled l.flat l.initial.verdict-items l.i
