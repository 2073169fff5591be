-- Every starred example of document 01 holds of the definitions, by computation.
-- Assumes nothing.
use mathlib.Core.Path.{refl}
use Rattle.spec.specs.Evaluate.{evaluation}
use Rattle.spec.specs.Examples.{AllHold, starred, row_for, answer_over, row_over}
use Rattle.spec.proofs.Also.{◌also◌}

pub starred_hold : AllHold starred
unfolding starred row_for answer_over row_over evaluation
starred_hold =
    (refl, refl) also (refl, refl) also (refl, refl) also (refl, refl) also (refl, refl) also (refl, refl) also (refl, refl) also (refl, refl) also refl also refl also refl also refl
    also (refl, refl) also (refl, refl) also refl also tt
