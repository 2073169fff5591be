-- Each call asks lower numbers only, which the memo knows: so just the class that is asked is put into it.
use Rattle.std.proofs.Common.{◌≡◌, ◌∙◌, Option, Some, refl, sym, ap₂, arith, List, ℕ, set}
use Rattle.spec.specs.Lists.{keep}
use Rattle.spec.specs.Sheet.{of_kind}
use Rattle.spec.specs.Markers.{union_all}
use Rattle.spec.specs.Classes.{targets}
use Rattle.overlay.specs.Memo.{with_interfaces}
use Rattle.overlay.proofs.Memos.{knows_lower, set_lower}
use Rattle.overlay.proofs.Recursion.{lists, lists_none, interfaces_lower, superclass_lower, raw_above, raw_alone}
use Rattle.overlay.proofs.Unions.{union_assoc, union_zero}
use Rattle.overlay.proofs.+supertypes.Goals as goal
use Rattle.overlay.proofs.+supertypes.Goals.{gathered-in-Some-superclass, gathered-in_default-superclass}

pub gathered-bounds : goal.gathered-bounds
gathered-bounds t c = omega (arith, c.requires.there, c.requires.knows.long, c.args.falling.now.passed.few)

pub gathered-gathered-requires : goal.gathered-gathered-requires
gathered-gathered-requires t c =
    let low = superclass_lower _ c.args.falling.now.falls _ c.requires.there c.group.ensures c.head-head.ensures c.in-Some-superclass.is in
    (omega (arith, low), (omega (arith, low, c.requires.there), knows_lower c.requires.knows low))

pub gathered-returns-clause-markers : goal.gathered-returns-clause-markers
gathered-returns-clause-markers t c =
    let falls = c.args.falling.now.falls in
    elim c.match-head.branch [
      | gathered-in-Some-superclass w ↦
          raw_above _ falls _ c.requires.there c.group.ensures c.head-head.ensures w.in-Some-superclass.is
          w.gathered.ensures.markers (w.mine-is ∙ w.union-mine.ensures) c.interfaces-markers.ensures.markers
      | gathered-in_default-superclass w ↦
          raw_alone _ falls _ c.requires.there c.group.ensures c.head-head.ensures w.in_default-superclass.is w.mine-is c.interfaces-markers.ensures.markers
    ]

pub gathered-returns-clause-memo : goal.gathered-returns-clause-memo
gathered-returns-clause-memo t c =
    let kept : c.match-head.memo ≡ c.args.memo.now = elim c.match-head.branch [
      | gathered-in-Some-superclass w ↦
          let low = superclass_lower _ c.args.falling.now.falls _ c.requires.there c.group.ensures c.head-head.ensures w.in-Some-superclass.is in
          w.memo-is ∙ w.gathered.ensures.memo ∙ set_lower c.requires.knows low
      | gathered-in_default-superclass w ↦ w.memo-is
    ] in
    ap₂ (λ (m : List (Option ℕ)) (v : ℕ). set m c.args.c (Some v)) (c.interfaces-markers.ensures.memo ∙ kept) (gathered-returns-clause-markers t c)

pub interfaces-loop-record-init : goal.interfaces-loop-record-init
unfolding with_interfaces
interfaces-loop-record-init t c =
    let e = c.into_iter-record-iterator.ensures.into_iter_gives ∙ c.records-record-items.ensures.records ∙ c.group.ensures in
    rw e (tt, tt, refl, interfaces_lower _ c.args.falling.now.falls _, refl)

pub interfaces-gathered-requires : goal.interfaces-gathered-requires
interfaces-gathered-requires t c =
    let inv = c.loop-record.invariant in
    let lows = rw (lists c.in-Some.ensures.steps _ c.body.ensures c.in-Implements.is) at inv.3 in
    (omega (arith, lows.0), (omega (arith, lows.0, c.requires.there), rw inv.2 (knows_lower c.requires.knows lows.0)))

pub interfaces-loop-record-preserved-in-Implements :
    goal.interfaces-loop-record-preserved-in-Implements
unfolding union_all
interfaces-loop-record-preserved-in-Implements t c =
    let inv = c.loop-record.invariant in
    let e = lists c.in-Some.ensures.steps _ c.body.ensures c.in-Implements.is in
    let lows = rw e at inv.3 in
    let rest = rw e at inv.4 in
    let memo = rw inv.2 at c.gathered.ensures.memo in
    (tt, tt, memo ∙ set_lower c.requires.knows lows.0, lows.1, rw (c.union-markers.ensures, c.gathered.ensures.markers) (union_assoc _ _ _ ∙ rest))

pub interfaces-loop-record-preserved : goal.interfaces-loop-record-preserved
interfaces-loop-record-preserved t c =
    let e = lists_none c.in-Some.ensures.steps _ c.body.ensures c.in_default.not-Implements in
    rw (← e) c.loop-record.invariant

pub interfaces-returns-clause-markers : goal.interfaces-returns-clause-markers
unfolding targets of_kind keep union_all
interfaces-returns-clause-markers t c =
    let rest = rw c.in-None.ensures.steps.0 at c.loop-record.invariant.4 in sym (union_zero _) ∙ rest
