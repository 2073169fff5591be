-- What is left of the records completes the group.
use mathlib.Core.Path.{sym, ap, ◌∙◌}
use Rattle.reach.specs.Reach.{named_in}
use Rattle.reach.proofs.Scanning.{draws_start, draws_record, draws_records, draws_end, drawn_zero}
use Rattle.reach.proofs.scan.Goals as goal

pub loop-record-init : goal.loop-record-init
loop-record-init c = (tt, tt, draws_start _ (ap (named_in c.args.along) (c.into_iter-record-iterator.ensures.into_iter_gives ∙ c.records-record-items.ensures.records)))

pub loop-record-preserved : goal.loop-record-preserved
loop-record-preserved c = (tt, tt, draws_record c.args.along c.loop-record.invariant.2 c.in-Some.ensures.steps c.draw_record-added.ensures)

pub returns-then-entry-eq0 : goal.returns-then-entry-eq0
returns-then-entry-eq0 c =
    let next = draws_record c.args.along c.loop-record.invariant.2 c.in-Some.ensures.steps c.draw_record-added.ensures in
    draws_end next (drawn_zero _ _ c.if-extent-eq1.true (sym c.entry.ensures ∙ c.if-entry-eq0.true))

pub returns : goal.returns
returns c = draws_records c.args.along c.loop-record.invariant.2 c.in-None.ensures.steps.0
