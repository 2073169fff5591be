use Rattle.std.proofs.Common.{◌≡◌, drop}
use Rattle.sheets.specs.Sheets.{count, groups, library_count}
use Rattle.survey.specs.Survey.{Passing}
use Rattle.survey.proofs.passes.Given as goal

-- the sets of the classes below c are there; the row's end is as it was
abbrev pub invariant-loop-c : goal.invariant-loop-c
invariant-loop-c l =
    let p = l.judging.formed.now.sheets in Passing (library_count p) l.c (groups p) l.sets × (drop (count p) l.sets ≡ drop (count p) l.fn.sets)
