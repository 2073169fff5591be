use Rattle.std.proofs.Common.{◌≡◌}
use Rattle.second.specs.Second.{classes_refusal}
use Rattle.second.proofs.classes_pass.Given as goal

-- the classes from c on decide
abbrev pub invariant-loop-c : goal.invariant-loop-c
invariant-loop-c l = classes_refusal l.fn.sheets l.c l.fn.past ≡ classes_refusal l.fn.sheets l.fn.first l.fn.past
