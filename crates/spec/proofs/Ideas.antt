-- The claims that the failing ideas would break hold of the definitions, by computation.
-- Assumes nothing.
use mathlib.Core.Path.{refl}
use Rattle.spec.specs.Evaluate.{evaluation}
use Rattle.spec.specs.Examples.{AllHold, row_for, answer_over, row_over, answer_to, state_to}
use Rattle.spec.specs.Ideas.{ideas}
use Rattle.spec.proofs.Also.{◌also◌}

pub ideas_fail : AllHold ideas
unfolding ideas row_for answer_over row_over answer_to state_to evaluation
ideas_fail = (refl, refl) also (refl, refl) also (refl, refl) also (refl, refl) also (refl, refl) also tt
