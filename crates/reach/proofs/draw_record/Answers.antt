-- What is left of the classes completes the record.
use mathlib.Core.Path.{◌∙◌}
use mathlib.Core.List.{[], ◌∷◌}
use Prim.Native.Nat.{◌*◌, ◌≤◌}
use native.Mathlib.Omega.{arith}
use lib.ListN.{length}
use Rattle.lanes.specs.Lanes.{words}
use Rattle.lanes.proofs.Words.{words_long}
use Rattle.reach.proofs.Scanning.{draws_start, draws_next, draws_end, drawn_none, drawn_one}
use Rattle.reach.proofs.draw_record.Goals as goal

pub loop-t-init : goal.loop-t-init
loop-t-init c = (tt, tt, draws_start _ (c.into_iter-t-iterator.ensures.into_iter_gives ∙ c.named_along-t-items.ensures))

pub loop-t-preserved : goal.loop-t-preserved
loop-t-preserved c =
    let room : c.args.extent.lanes * 256 ≤ length (words c.loop-t.row) = omega (arith, c.requires.room.long, c.loop-t.auto.row, words_long c.loop-t.row) in (
      tt,
      tt,
      draws_next c.loop-t.invariant.2 (c.in-Some.t ∷ []) c.in-Some.ensures.steps
          (drawn_one c.requires.room.few c.requires.there room c.draw_lanes-added.ensures.row c.draw_lanes-added.ensures.answer),
    )

pub returns : goal.returns
returns c = draws_end c.loop-t.invariant.2 (rw c.in-None.ensures.steps.0 (drawn_none _))
