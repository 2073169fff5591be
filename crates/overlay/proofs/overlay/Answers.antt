-- What is gathered, closed.
use Rattle.std.proofs.Common.{◌∙◌, ap}
use Rattle.spec.specs.Markers.{closure}
use Rattle.spec.specs.Classes.{overlay}
use Rattle.overlay.specs.Memo.{raw}
use Rattle.overlay.proofs.overlay.Goals as goal

pub returns-clause-markers : goal.returns-clause-markers
unfolding overlay raw
returns-clause-markers c = c.closure.ensures ∙ ap closure c.gathered-open.ensures.markers
