-- The examples of document 02's requests hold of the definitions, by computation.
-- Assumes nothing.
use mathlib.Core.Path.{refl}
use Rattle.spec.specs.Evaluate.{evaluation}
use Rattle.spec.specs.Examples.{AllHold, row_for, answer_over, row_over, answer_to, state_to, index_over, lookup_over, taken_places}
use Rattle.spec.specs.Changes.{changes}
use Rattle.spec.proofs.Also.{◌also◌}

pub changes_hold : AllHold changes
unfolding changes row_for answer_over row_over answer_to state_to index_over lookup_over taken_places evaluation
changes_hold =
    (refl, refl) also (refl, refl) also (refl, refl) also (refl, refl) also (refl, refl) also (refl, refl) also (refl, refl) also (refl, refl) also (refl, refl) also (refl, refl) also
    (refl, refl) also (refl, refl) also (refl, refl) also (refl, refl) also (refl, refl) also (refl, refl) also (refl, refl) also (refl, refl) also
    refl also (refl, refl) also refl also refl also refl also (refl, refl) also (refl, refl) also (refl, refl) also (refl, refl) also (refl, refl) also (refl, refl) also (refl, refl) also
    (refl, refl) also (refl, refl) also (refl, refl) also (refl, refl) also (refl, refl) also
    (refl, refl) also (refl, refl) also (refl, refl) also (refl, refl) also refl also refl also refl also tt
