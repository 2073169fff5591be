use Rattle.std.proofs.Common.{arith}
use Rattle.std.proofs.lemmas.List.{drop_more}
use lib.ListN.{drop_of_length-le}
use Rattle.captured.specs.declared.Lane.TheVariants.{Immutable}
use Rattle.captured.proofs.Lowering.{all_lanes}
use Rattle.slots.proofs.Sets.{lanes_start, lanes_next, lanes_end}
use Rattle.slots.proofs.captured_set.Goals as goal

pub loop-lane-init : goal.loop-lane-init
loop-lane-init c = lanes_start c.args.row.now c.args.t

pub loop-lane-preserved : goal.loop-lane-preserved
loop-lane-preserved c = lanes_next c.loop-lane.invariant (drop_more all_lanes c.loop-lane.lane-index Immutable (omega arith)) c.lane_set.ensures c.common-set.ensures

pub returns : goal.returns
returns c = lanes_end c.loop-lane.invariant (drop_of_length-le all_lanes (omega arith))
