-- The entries below the next class are right, and the memo knows those classes; past the last class there is none.
use Rattle.std.proofs.Common.{◌≡◌, ◌∙◌, ap, max, arith}
use Rattle.spec.specs.Classes.{overlay}
use Rattle.laws.proofs.Rows.{set_below}
use Rattle.sheets.specs.Sheets.{groups, library_count, count}
use Rattle.overlay.specs.Memo.{memo_of}
use Rattle.overlay.proofs.Memos.{library_low, memo_asks, memo_asked}
use Rattle.overlay.proofs.Types.{known_all}
use Rattle.overlay.proofs.overlays.Goals as goal

pub overlay-requires-clause-knows : goal.overlay-requires-clause-knows
overlay-requires-clause-knows c =
    let few = c.args.falling.now.passed.few in
    let front = c.split_at_mut-there.ensures.front_len in
    memo_asks _ _ _ c.loop-c.invariant.1 (omega arith) (omega (arith, few, front)) (omega (arith, few, library_low c.args.falling.now.sheets.now))

pub loop-c-init : goal.loop-c-init
loop-c-init c =
    let p = c.args.falling.now.sheets.now in
    let z : library_count p ≡ max (library_count p) 0 = omega arith in
    (λ i h. absurd (omega arith), c.requires.memo ∙ ap (memo_of (groups p)) z)

pub loop-c-preserved : goal.loop-c-preserved
loop-c-preserved c =
    let inv = c.loop-c.invariant in (
      set_below 0 (λ i v. v ≡ overlay (groups c.args.falling.now.sheets.now) i) _ _ _ (omega arith) inv.0 c.overlay.ensures.markers,
      memo_asked _ _ _ inv.1 (omega arith) (omega (arith, c.args.falling.now.passed.few, c.split_at_mut-there.ensures.front_len)) c.overlay.ensures.memo _ (omega arith),
    )

pub returns-clause-row : goal.returns-clause-row
returns-clause-row c =
    let split = c.split_at_mut-there.ensures in
    rw (c.fill.ensures.after (λ y e. e))
    (known_all c.args.falling.now.sheets.now _ (omega (arith, split.front_len)) _ (omega (arith, split.front_len, split.back_len)) (λ i h. c.loop-c.invariant.0 i (omega arith)))

pub returns-clause-memo : goal.returns-clause-memo
returns-clause-memo c =
    let p = c.args.falling.now.sheets.now in
    let z : max (library_count p) c.loop-c.c ≡ count p = omega (arith, library_low p, c.split_at_mut-there.ensures.front_len) in
    c.loop-c.invariant.1 ∙ ap (memo_of (groups p)) z
