-- By the two flags of the field.
use mathlib.Core.Path.{sym, ◌∙◌}
use Rattle.slots.proofs.Sets.{slot_changing, slot_transient, slot_final}
use Rattle.slots.proofs.slot_set.Goals as goal

pub returns-then-not-has_flag : goal.returns-then-not-has_flag
returns-then-not-has_flag c = slot_changing c.args.flags c.args.m _ c.common.ensures (sym c.has_flag.ensures ∙ c.if-not-has_flag.true)

pub returns-then-has_flag : goal.returns-then-has_flag
returns-then-has_flag c =
    slot_transient c.args.flags c.args.m _ (sym c.has_flag.ensures ∙ c.if-not-has_flag.false) c.common-then-has_flag.ensures (sym c.has_flag-2.ensures ∙ c.if-has_flag.true)

pub returns : goal.returns
returns c = slot_final c.args.flags c.args.m _ (sym c.has_flag.ensures ∙ c.if-not-has_flag.false) c.union.ensures (sym c.has_flag-2.ensures ∙ c.if-has_flag.false)
