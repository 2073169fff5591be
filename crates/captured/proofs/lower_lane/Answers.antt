use Rattle.std.proofs.Common.{◌∙◌, ◌+◌, ◌*◌, ◌<◌, length, sym, ap, arith, subst, min, ℕ}
use Rattle.lanes.specs.Lanes.{words}
use Rattle.lanes.proofs.Words.{words_long}
use Rattle.captured.specs.Seeds.{Lowering, InLane}
use Rattle.captured.proofs.Lowering.{place_low, lane_has, lane_lowered}
use Rattle.captured.proofs.lower_lane.Goals as goal

pub returns-then-has : goal.returns-then-has
returns-then-has c = lane_has c.has.ensures c.set.ensures.0 _ c.if-has.true

pub returns : goal.returns
returns c =
    let row = words c.args.row.now in
    let at = c.place.result * 256 + c.args.m in
    let l : at < length row = omega (arith, place_low c.args.lane, c.place.ensures, words_long c.args.row.now) in
    subst (Lowering (InLane c.args.set c.args.m c.args.y c.args.lane) row) (sym c.put.ensures)
    (lane_lowered c.has.ensures c.set.ensures.0 row c.if-has.false (omega (arith, c.place.ensures)) (c.min-low.ensures ∙ ap (λ (y : ℕ). min y c.args.y) c.entry.ensures) l)
