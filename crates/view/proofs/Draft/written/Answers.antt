-- A cut at the end, where nothing is put in: all of the bytes.
use mathlib.Core.Path.{◌∙◌}
use native.Mathlib.Nat.{le_refl}
use lib.Seq.{take-length}
use Rattle.view.proofs.Splice.{plain_fits, plain}
use Rattle.view.proofs.Draft.written.Goals as goal

pub invariant_of-result : goal.invariant_of-result
invariant_of-result c = rw c.at_end.ensures (plain_fits _ _ (le_refl _))

pub returns : goal.returns
returns c = rw c.at_end.ensures (plain _ _ ∙ take-length _)
