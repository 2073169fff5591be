use Rattle.std.proofs.Common.{rules}
use Rattle.overlay.specs.Types.{markers_by, row_markers}
use Rattle.overlay.proofs.type_markers.Goals as goal

pub returns-in-0-eq0 : goal.returns-in-0-eq0
unfolding row_markers markers_by
returns-in-0-eq0 c = search rules

pub returns-in-0-default : goal.returns-in-0-default
unfolding row_markers markers_by
returns-in-0-default c = search rules

pub returns-in_default : goal.returns-in_default
unfolding row_markers markers_by
returns-in_default c = search rules
