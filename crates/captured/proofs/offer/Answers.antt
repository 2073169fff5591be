use Rattle.std.proofs.Common.{◌∙◌, ap, sym, arith, get_or, false, ℕ}
use Rattle.std.proofs.lemmas.List.{drop_more}
use lib.ListN.{drop_of_length-le}
use Rattle.captured.specs.declared.Lane.TheVariants.{Immutable}
use Rattle.captured.proofs.Lowering.{all_lanes, left_next, left_none, not_offered, all_offered}
use Rattle.captured.proofs.offer.Goals as goal

pub returns-then-not-marks-from : goal.returns-then-not-marks-from
returns-then-not-marks-from c = not_offered _ (ap (λ (o : ℕ). get_or c.args.marks.now o false) (sym c.from.ensures) ∙ c.if-not-marks-from.true)

pub loop-lane-preserved : goal.loop-lane-preserved
loop-lane-preserved c = left_next c.loop-lane.invariant (drop_more all_lanes c.loop-lane.lane-index Immutable (omega arith)) c.lower_lane.ensures

pub returns : goal.returns
returns c = all_offered (ap (λ (o : ℕ). get_or c.args.marks.now o false) (sym c.from.ensures) ∙ c.if-not-marks-from.false) (left_none c.loop-lane.invariant (drop_of_length-le all_lanes (omega arith)))
