-- The seams of the cut are those of the parts.
use Rattle.view.proofs.Splice.{parted, tail_is}
use Rattle.view.proofs.Draft.parts.Goals as goal

pub returns : goal.returns
returns c = rw (← c.self.view_is, tail_is _ _ _ c.self.invariant) (parted _ _ _ c.self.invariant)
