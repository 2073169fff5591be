-- One mark, or those of a search.
use mathlib.Core.Path.{◌∙◌}
use native.Mathlib.Omega.{arith}
use Rattle.verifier.proofs.Touching.{touched_one, touched_all}
use Rattle.verifier.proofs.touch.Goals as goal

pub returns-then-cut : goal.returns-then-cut
returns-then-cut c = c.mark_dependents.ensures ∙ touched_all _ _ _ _ c.if-cut.true

pub returns : goal.returns
returns c = rw c.requires.unmarked (touched_one _ _ _ _ (omega (arith, c.requires.there, c.args.formed.now.passed.few)) c.if-cut.false)
