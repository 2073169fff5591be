-- The examples hold of the definition, by computation.
-- Assumes nothing.
use mathlib.Core.Path.{refl}
use Rattle.spec.specs.Evaluate.{evaluation}
use Rattle.spec.proofs.Also.{◌also◌}
use Rattle.meaning.specs.Canonical.{is_set, body_number, insert, ascend, arranged, canonical_group, canonical}
use Rattle.meaning.specs.Examples.{examples, AllHold}

pub examples_hold : AllHold examples
unfolding examples is_set body_number insert ascend arranged canonical_group canonical evaluation
examples_hold = refl also refl also refl also refl also refl also refl also tt
