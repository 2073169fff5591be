-- The set and what is left of the records tell of all.
use Rattle.slots.proofs.Fields.{fielding_start, fielding_end, fielding_other, fielding_field}
use Rattle.slots.proofs.fields_set.Goals as goal

pub loop-record-init : goal.loop-record-init
loop-record-init c = (tt, tt, fielding_start c.into_iter-record-iterator.ensures.into_iter_gives)

pub loop-record-preserved-in-Field : goal.loop-record-preserved-in-Field
loop-record-preserved-in-Field c = (
  tt,
  tt,
  fielding_field c.loop-record.invariant.2 c.in-Some.ensures.steps (rw c.in-Field.is at c.body.ensures) c.field_set.ensures c.common-set.ensures,
)

pub loop-record-preserved : goal.loop-record-preserved
loop-record-preserved c = (tt, tt, fielding_other c.loop-record.invariant.2 c.in-Some.ensures.steps c.body.result c.body.ensures c.in_default.not-Field)

pub returns : goal.returns
returns c = fielding_end c.loop-record.invariant.2 c.in-None.ensures.steps.0
