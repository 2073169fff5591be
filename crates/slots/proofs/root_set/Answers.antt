-- Class 0, or one that has the markers.
use Rattle.slots.proofs.Sets.{root-zero, root-other}
use Rattle.slots.proofs.root_set.Goals as goal

pub returns-then-d-eq0 : goal.returns-then-d-eq0
returns-then-d-eq0 c = root-zero c.if-d-eq0.true

pub returns : goal.returns
returns c = root-other c.if-d-eq0.false c.known.ensures c.union.ensures
