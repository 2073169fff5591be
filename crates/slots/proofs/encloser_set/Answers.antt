-- No encloser is held, or one that has the markers.
use mathlib.Core.Path.{sym, ◌∙◌}
use Rattle.slots.proofs.Sets.{encloser_outer, encloser_inner}
use Rattle.slots.proofs.encloser_set.Goals as goal

pub returns-then-not-has_flag : goal.returns-then-not-has_flag
returns-then-not-has_flag c = encloser_outer c.args.head.now c.args.markers.now (sym c.has_flag.ensures ∙ c.if-not-has_flag.true)

pub returns : goal.returns
returns c = encloser_inner c.args.head.now c.args.markers.now c.unwrap_or-e.ensures (sym c.has_flag.ensures ∙ c.if-not-has_flag.false) c.known.ensures c.union.ensures
