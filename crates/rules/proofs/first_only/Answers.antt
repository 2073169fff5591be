use mathlib.Core.Path.{◌≡◌, refl, sym, ap}
use mathlib.Core.Bool.{Bool, true, false, ◌||◌}
use mathlib.Core.Logic.{◌⊎◌, inl, inr}
use lib.Dec.{ltb}
use Rattle.breaks.specs.declared.rule.Rule.{Rule}
use Rattle.breaks.specs.declared.rule.Rule.TheVariants.{Classes, Members, Reserved, Clash, Statics, LetsOut, Late}
use Rattle.breaks.specs.Breaking.{asks_first}
use Rattle.rules.specs.Walk.{only_first}
use Rattle.rules.proofs.first_only.Goals as goal

-- rules 3, 4 and 6
first : (rule : Rule) → (rule ≡ Reserved) ⊎ ((rule ≡ Clash) ⊎ (rule ≡ LetsOut)) → asks_first rule ≡ true
first rule (inl e) = ap asks_first e
first rule (inr (inl e)) = ap asks_first e
first rule (inr (inr e)) = ap asks_first e

pub returns-in-Reserved : goal.returns-in-Reserved
unfolding only_first
returns-in-Reserved c = ap (λ (b : Bool). b || ltb c.args.t c.args.nlib) (sym (first c.args.rule c.in-Reserved.is))

-- the other rules ask all records
others : (rule : Rule) → (rule ≡ Reserved → ⊥) → (rule ≡ Clash → ⊥) → (rule ≡ LetsOut → ⊥) → asks_first rule ≡ false
others Classes a b d = refl
others Members a b d = refl
others Reserved a b d = absurd (a refl)
others Clash a b d = absurd (b refl)
others Statics a b d = refl
others LetsOut a b d = absurd (d refl)
others (Late l) a b d = refl

pub returns-in_default : goal.returns-in_default
unfolding only_first
returns-in_default c =
    ap (λ (b : Bool). b || ltb c.args.t c.args.nlib) (sym (others c.args.rule c.in_default.not-Reserved c.in_default.not-Clash c.in_default.not-LetsOut))
