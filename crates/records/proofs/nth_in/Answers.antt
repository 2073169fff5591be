use Rattle.std.proofs.Common.{◌∙◌, sym, arith}
use Rattle.records.proofs.Lined.{all_lined}
use Rattle.records.proofs.Nth.{seek_start, seek_end, seek_room, seek_found, seek_passed, seek_other}
use Rattle.records.proofs.nth_in.Goals as goal
use Rattle.records.proofs.nth_in.Goals.{then-has_number+else-left-eq0, else-has_number}

pub new-record-items-requires : goal.new-record-items-requires
new-record-items-requires c = all_lined c.requires

pub loop-record-init : goal.loop-record-init
loop-record-init c = (tt, tt, seek_start _ _ (all_lined c.requires) (c.into_iter-record-iterator.ensures.into_iter_gives ∙ c.new-record-items.ensures.records))

pub returns-then-left-eq0 : goal.returns-then-left-eq0
returns-then-left-eq0 c = seek_found c.loop-record.invariant.2 c.in-Some.ensures.steps (sym c.has_number.ensures ∙ c.if-has_number.true) c.if-left-eq0.true

pub overflow_add-at : goal.overflow_add-at
overflow_add-at c = omega (arith, seek_room c.loop-record.invariant.2 c.in-Some.ensures.steps)

pub loop-record-preserved : goal.loop-record-preserved
loop-record-preserved c =
    let w = c.loop-record.invariant.2 in
    let e = c.in-Some.ensures.steps in
    elim c.if-has_number.branch [
      | then-has_number+else-left-eq0 b ↦ (tt, tt, seek_passed w e c.len-at.ensures (sym c.has_number.ensures ∙ b.if-has_number.true) b.if-left-eq0.false b.left-is)
      | else-has_number b ↦ (tt, tt, seek_other w e c.len-at.ensures (sym c.has_number.ensures ∙ b.if-has_number.false) b.left-is)
    ]

pub returns : goal.returns
returns c = seek_end c.loop-record.invariant.2 c.in-None.ensures.steps.0
