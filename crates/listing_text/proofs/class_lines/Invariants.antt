-- A line a class, and the position runs along to the next.
use Rattle.std.proofs.Common.{◌-◌, length}
use Rattle.listing_text.proofs.ClassText.{Lines}
use Rattle.listing_text.proofs.class_lines.Given as goal

abbrev pub invariant-loop-start : goal.invariant-loop-start
invariant-loop-start l = Lines l.library l.sheet l.initial.writer l.writer l.i l.start

abbrev pub decreases-loop-start : goal.decreases-loop-start
decreases-loop-start l = length l.initial.sheet - l.start
