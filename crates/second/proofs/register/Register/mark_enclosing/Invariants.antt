use Rattle.std.proofs.Common.{◌+◌, ◌-◌}
use Rattle.second.proofs.Enclosing.{Rising}
use Rattle.second.proofs.register.Register.mark_enclosing.Given as goal

-- the walk is at a class, with as many steps left
abbrev pub invariant-loop : goal.invariant-loop
invariant-loop l = Rising l.sheets l.c l.at (l.c + 1 - l.counter) l.marks
