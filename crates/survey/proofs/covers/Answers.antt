use Rattle.std.proofs.Common.{rules, ap, not, ◌&&◌}
use Rattle.std.proofs.lemmas.Iterator.{YieldsList-from_slice}
use Rattle.std.proofs.lemmas.Iterator.Search.{any_from_yields_List}
use borrow.Author.Tests.{tests}
use mathlib.Core.List.{[], ◌∷◌}
use Rattle.spec.specs.Lists.{any}
use Rattle.spec.specs.Record.{bit}
use Rattle.slots.specs.declared.Late.TheVariants.{Immutable, Powerless, Selfless, DeepSelfless}
use Rattle.slots.specs.Slots.{rule_marker}
use Rattle.survey.specs.Survey.{any_late}
use Rattle.survey.proofs.covers.Goals as goal

pub returns : goal.returns
unfolding any any_late bit
returns c =
    ap not (any_from_yields_List (λ rule. bit (rule_marker rule) c.args.m && not (bit (rule_marker rule) c.args.set)) _ _ c.any.result c.any.ensures.ran
    (YieldsList-from_slice (Immutable ∷ Powerless ∷ Selfless ∷ DeepSelfless ∷ []) cc) (λ x b q k. search (rules, tests)))
