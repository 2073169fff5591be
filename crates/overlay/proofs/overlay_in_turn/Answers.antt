-- In the loop the classes below the next one are known.
use Rattle.std.proofs.Common.{arith}
use Rattle.overlay.proofs.Memos.{library_low, memo_asks, memo_asked}
use Rattle.overlay.proofs.overlay_in_turn.Goals as goal

pub gathered-requires-clause-knows : goal.gathered-requires-clause-knows
gathered-requires-clause-knows c =
    let few = c.args.falling.now.passed.few in memo_asks _ _ _ c.loop-below.invariant.1 (omega arith) (omega (arith, few)) (omega (arith, few, library_low c.args.falling.now.sheets.now))

pub loop-below-preserved : goal.loop-below-preserved
loop-below-preserved c = (
  omega arith,
  memo_asked _ _ _ c.loop-below.invariant.1 (omega arith) (omega (arith, c.args.falling.now.passed.few)) c.gathered.ensures.memo _ (omega arith),
)

pub overlay-requires-clause-knows : goal.overlay-requires-clause-knows
overlay-requires-clause-knows c =
    let few = c.args.falling.now.passed.few in memo_asks _ _ _ c.loop-below.invariant.1 (omega arith) (omega (arith, few)) (omega (arith, few, library_low c.args.falling.now.sheets.now))

pub returns-clause-memo : goal.returns-clause-memo
returns-clause-memo c = memo_asked _ _ _ c.loop-below.invariant.1 (omega arith) (omega (arith, c.args.falling.now.passed.few)) c.overlay.ensures.memo _ (omega arith)
