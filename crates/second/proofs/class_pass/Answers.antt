-- The first of the records that are left is the one at hand.
use Rattle.std.proofs.Common.{◌∙◌, rules}
use Rattle.second.proofs.Passing.{going_start, going_end, going_first, going_low, going_on, going_stop}
use Rattle.second.proofs.class_pass.Goals as goal

pub loop-record-init : goal.loop-record-init
loop-record-init c =
    let e = c.into_iter-record-iterator.ensures.into_iter_gives ∙ c.records-record-items.ensures.records ∙ c.group.ensures in
    (tt, tt, going_start c.args.register.now.passed c.requires c.start-byte.ensures e)

pub record_fits-requires-clause-first : goal.record_fits-requires-clause-first
record_fits-requires-clause-first c = going_first c.loop-record.invariant.2 c.in-Some.ensures.steps

pub returns-in-Err : goal.returns-in-Err
returns-in-Err c = rw c.side.ensures (going_stop c.loop-record.invariant.2 c.in-Some.ensures.steps c.in-Err.ensures)

pub overflow_add-byte : goal.overflow_add-byte
overflow_add-byte c = let l = going_low c.loop-record.invariant.2 c.in-Some.ensures.steps in search rules

pub loop-record-preserved : goal.loop-record-preserved
loop-record-preserved c =
    let w = going_on c.loop-record.invariant.2 c.in-Some.ensures.steps c.in_default.ensures in
    (tt, tt, rw c.len-byte.ensures w)

pub returns : goal.returns
returns c = (going_end c.loop-record.invariant.2 c.in-None.ensures.steps.0, tt)
