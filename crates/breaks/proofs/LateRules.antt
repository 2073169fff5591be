-- A rule is one of 1 to 6, or one of 7 to 10.
-- Assumes nothing.
use mathlib.Core.Path.{◌≡◌, refl}
use mathlib.Core.Logic.{◌⊎◌, inl, inr}
use Rattle.std.specs.Prelude.{None}
use Rattle.slots.specs.declared.Late.{Late as LateRule}
use Rattle.breaks.specs.declared.rule.Rule.{Rule}
use Rattle.breaks.specs.declared.rule.Rule.TheVariants.{Classes, Members, Reserved, Clash, Statics, LetsOut, Late}
use Rattle.breaks.specs.Breaking.{late_of}

abbrev pub EarlyOrLate : Rule → Type 0
EarlyOrLate rule = (late_of rule ≡ None) ⊎ ((late : LateRule) × (rule ≡ Late late))

pub early_or_late : (rule : Rule) → EarlyOrLate rule
early_or_late Classes = inl refl
early_or_late Members = inl refl
early_or_late Reserved = inl refl
early_or_late Clash = inl refl
early_or_late Statics = inl refl
early_or_late LetsOut = inl refl
early_or_late (Late late) = inr (late, refl)
