-- A static field has no slot; another one is a slot.
use mathlib.Core.Path.{sym, ◌∙◌}
use Rattle.slots.proofs.Fields.{static_set, instance_set}
use Rattle.slots.proofs.field_set.Goals as goal

pub returns-then-has_flag : goal.returns-then-has_flag
returns-then-has_flag c = static_set (sym c.has_flag.ensures ∙ c.if-has_flag.true)

pub returns : goal.returns
returns c = instance_set (sym c.has_flag.ensures ∙ c.if-has_flag.false) c.type_markers.ensures c.slot_set.ensures
