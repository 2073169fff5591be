use mathlib.Core.Path.{sym, ap, ◌∙◌}
use Rattle.spec.specs.Lists.{any}
use Rattle.spec.specs.Record.{is_kind, USES}
use Rattle.captured.proofs.Seeding.{class_other}
use Rattle.captured.proofs.MarkedSheets.seed_class.Goals as goal

pub returns-else-has : goal.returns-else-has
returns-else-has c = class_other (ap (any (is_kind USES)) (sym c.group.ensures) ∙ sym c.has.ensures ∙ c.if-has.false) _
