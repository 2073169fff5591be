use Rattle.std.proofs.Common.{rules}
use Rattle.slots.specs.Slots.{lane_by}
use Rattle.slots.proofs.lane_set.Goals as goal

pub returns-then-is_some : goal.returns-then-is_some
unfolding lane_by
returns-then-is_some c = search rules

pub returns-else-is_some : goal.returns-else-is_some
unfolding lane_by
returns-else-is_some c = search rules
