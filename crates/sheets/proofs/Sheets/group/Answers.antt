use mathlib.Core.Path.{◌∙◌}
use Rattle.theory.proofs.Form.{group_one_class}
use Rattle.sheets.proofs.Standing.{carried_class}
use Rattle.sheets.proofs.Sheets.group.Goals as goal

pub new-requires : goal.new-requires
new-requires c = (carried_class c.bytes.ensures (group_one_class _ _ _ c.requires)).0

pub returns : goal.returns
returns c = c.new.ensures ∙ (carried_class c.bytes.ensures (group_one_class _ _ _ c.requires)).1
