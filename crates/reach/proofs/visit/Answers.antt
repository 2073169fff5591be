-- Each way out is a law: the class has 0 already, it has no step, it wants nothing, or it has drawn.
use mathlib.Core.Path.{sym, ◌∙◌}
use Rattle.sheets.specs.Sheets.{groups}
use Rattle.lanes.specs.Lanes.{words}
use Rattle.reach.proofs.Scanning.{scanned, visit_marked, visit_none}
use Rattle.reach.proofs.Wanting.{visit_unwanted}
use Rattle.reach.proofs.visit.Goals as goal

pub returns-then-entry-eq0 : goal.returns-then-entry-eq0
returns-then-entry-eq0 c = visit_marked _ _ c.if-extent-eq1.true (sym c.entry.ensures ∙ c.if-entry-eq0.true)

pub returns-then-steps_nowhere : goal.returns-then-steps_nowhere
returns-then-steps_nowhere c = visit_none _ _ (c.steps_nowhere.ensures c.if-steps_nowhere.true)

pub returns-then-not-wants : goal.returns-then-not-wants
returns-then-not-wants c = visit_unwanted (groups c.args.nest.now.formed.now.sheets) c.args.along (words c.args.row.now) c.group-group.ensures c.wants.ensures c.if-not-wants.true

pub returns : goal.returns
returns c =
    scanned (groups c.args.nest.now.formed.now.sheets) c.args.along c.group-group.ensures c.scan.ensures c.mark_enclosers.ensures
