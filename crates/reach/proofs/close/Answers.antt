use Rattle.lanes.proofs.Closing.{close_start, close_end}
use Rattle.reach.proofs.close.Goals as goal

pub loop-along-init : goal.loop-along-init
loop-along-init c = close_start _ _ _ _ _ c.requires.seeds_fit

pub returns : goal.returns
returns c = close_end c.requires.room.few c.loop-along.invariant (rw c.count-classes.ensures.count at c.sweep.ensures) c.loop-along-test.false
