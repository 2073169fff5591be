-- The walk up, an encloser at a time. The class that the walk stands at is the measure.
use Rattle.lanes.proofs.Marking.{Up}
use Rattle.sheets.specs.Sheets.{groups}
use Rattle.reach.specs.Reach.{outer_of}
use Rattle.reach.proofs.Nest.mark_enclosers.Given as goal

abbrev pub invariant-loop-c : goal.invariant-loop-c
invariant-loop-c l = Up (outer_of (groups l.self.formed.now.sheets)) l.m l.marks l.c

abbrev pub decreases-loop-c : goal.decreases-loop-c
decreases-loop-c l = l.c
