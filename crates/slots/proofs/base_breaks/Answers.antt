-- The superclass is Selfless, or is class 0 and the flags are right.
use mathlib.Core.Path.{ap, ◌∙◌}
use mathlib.Core.Bool.{not}
use borrow.Author.Tests.{ne_eqb}
use Rattle.slots.proofs.Base.{base_selfless, base_other, base_zero}
use Rattle.slots.proofs.base_breaks.Goals as goal

pub returns-then-has : goal.returns-then-has
returns-then-has c = base_selfless c.args.head.now c.args.markers.now c.unwrap_or-s.ensures c.known.ensures c.has.ensures c.if-has.true

pub returns-then-s-ne0 : goal.returns-then-s-ne0
returns-then-s-ne0 c =
    ap not (ne_eqb _ _ c.if-s-ne0.true) ∙ base_other c.args.head.now c.args.markers.now c.unwrap_or-s.ensures c.known.ensures c.has.ensures c.if-has.false c.if-s-ne0.true

pub returns-else-s-ne0 : goal.returns-else-s-ne0
returns-else-s-ne0 c = base_zero c.args.head.now c.args.markers.now c.unwrap_or-s.ensures c.known.ensures c.has.ensures c.if-has.false c.if-s-ne0.false c.has_own_equals.ensures
