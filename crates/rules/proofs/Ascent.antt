-- The classes that a rule asks, one after the other: the class itself, and under rules 7 to 10 its superclasses up to the root.
-- Assumes nothing.
use mathlib.Core.Path.{◌≡◌, refl, sym, ap, ap₂, ◌∙◌, subst}
use mathlib.Core.Logic.{◌⊎◌, inl, inr}
use mathlib.Core.Bool.{true, not}
use mathlib.Core.List.{List, [], ◌∷◌, ◌++◌}
use Prim.Native.Nat.{ℕ, suc, ◌≤◌, ◌<◌}
use native.Mathlib.Omega.{arith}
use lib.Dec.{T, ltb, ltb→lt, nltb→le}
use borrow.Author.Tests.{ne_eqb, lt-ltb, le-ltb}
use Rattle.std.specs.Prelude.{Option, None, Some, IfSome}
use Rattle.spec.specs.Record.{superclass}
use Rattle.spec.specs.Sheet.{Group, class_record, is_interface}
use Rattle.spec.specs.Classes.{has_marker, lineage, root}
use Rattle.spec.specs.Rules.{judged_for}
use Rattle.laws.proofs.Bools.{decide, true_t, and_l}
use Rattle.theory.proofs.Lines.{lineage_library, root_library}
use Rattle.theory.proofs.Form.{Super, lineage_up, root_up}
use Rattle.records.specs.Kinds.{optional}
use Rattle.slots.specs.declared.Late.{Late as LateRule}
use Rattle.slots.specs.Slots.{rule_marker}
use Rattle.breaks.specs.declared.rule.Rule.{Rule}
use Rattle.breaks.specs.declared.rule.Rule.TheVariants.{Late}
use Rattle.breaks.proofs.LateRules.{EarlyOrLate, early_or_late}
use Rattle.rules.specs.Walk.{applies, above, order, afterward, next_class, classes_from}
use Rattle.rules.proofs.Ground.{Ground}

-- where the walk may stand: at a class that is there, under rules 7 to 10 at one that is no interface
pub record Spot (n : ℕ) (g : ℕ → Group) (rule : Rule) (t : ℕ) : Type 0 where
  pub there : t < n
  pub concrete : (l : LateRule) → rule ≡ Late l → T (not (is_interface (g t)))

-- a measure of what is left: class numbers fall
abbrev pub rank : Option ℕ → ℕ
rank None = 0
rank (Some t) = suc t

-- the walk goes from class t to the next one
pub record Onward (nlib n : ℕ) (g : ℕ → Group) (rule : Rule) (t : ℕ) (next : Option ℕ) : Type 0 where
  pub rest : afterward nlib g rule t ≡ classes_from nlib g rule next
  pub spot : IfSome next (λ u. Spot n g rule u)
  pub less : rank next < suc t

optional_is : (x : ℕ) → x < 65535 → optional x ≡ Some x
optional_is x h = rw (ne_eqb x 65535 (λ e. omega arith), optional)

module _ {nlib n : ℕ} {g : ℕ → Group} (w : Ground nlib n g) where
  abbrev pub sup : ℕ → ℕ
  sup t = superclass (class_record (g t))

  -- a superclass as the records have it
  super_is : {t : ℕ} → Super g t → t < n → optional (sup t) ≡ Some (sup t)
  super_is {t} u l = optional_is (sup t) (omega (arith, u.lower, w.few))

  above_up : (t : ℕ) → nlib ≤ t → Super g t → above nlib g t ≡ t ∷ above nlib g (sup t)
  unfolding above
  above_up t h u = ap₂ (λ (a b : List ℕ). a ++ b) (lineage_up nlib g w.falls t h u) (root_up nlib g w.falls t h u)

  above_library : (t : ℕ) → t < nlib → above nlib g t ≡ t ∷ []
  unfolding above lineage root
  above_library t h = ap₂ (λ (a b : List ℕ). a ++ b) (lineage_library nlib g w.falls t t h) (root_library nlib g w.falls t t h)

  -- what is above a class, as the walk goes
  above_from : (rule : LateRule) {t : ℕ} → t < n → T (not (is_interface (g t))) → above nlib g t ≡ classes_from nlib g (Late rule) (Some t)
  above_from rule {t} h k = go (decide (ltb t nlib))
    where
      go : T (ltb t nlib) ⊎ T (not (ltb t nlib)) → above nlib g t ≡ classes_from nlib g (Late rule) (Some t)
      go (inl x) = let l = ltb→lt t nlib x in above_library t l ∙ rw (lt-ltb t nlib l, afterward)
      go (inr x) = let l = nltb→le t nlib x in above_up t l (w.supers t l h k) ∙ rw (le-ltb t nlib l, afterward)

  late_onward : (rule : LateRule) {t : ℕ} → Spot n g (Late rule) t → Onward nlib n g (Late rule) t (next_class nlib (Late rule) t (g t))
  late_onward rule {t} s = go (decide (ltb t nlib))
    where
      go : T (ltb t nlib) ⊎ T (not (ltb t nlib)) → Onward nlib n g (Late rule) t (next_class nlib (Late rule) t (g t))
      go (inl x) = rw (lt-ltb t nlib (ltb→lt t nlib x), next_class) (record { rest = rw (lt-ltb t nlib (ltb→lt t nlib x), afterward); spot = tt; less = omega arith })
      go (inr x) =
          let l = nltb→le t nlib x in
          let u = w.supers t l s.there (s.concrete rule refl) in
          let lower : sup t < n = omega (arith, u.lower, s.there) in
          rw (le-ltb t nlib l, super_is u s.there, next_class)
          (record {
            rest = rw (le-ltb t nlib l, afterward) (above_from rule lower u.concrete);
            spot = record { there = lower; concrete = λ r e. u.concrete };
            less = omega (arith, u.lower);
          })

  pub onward : (rule : Rule) {t : ℕ} → Spot n g rule t → Onward nlib n g rule t (next_class nlib rule t (g t))
  onward rule {t} s = go (early_or_late rule)
    where
      go : EarlyOrLate rule → Onward nlib n g rule t (next_class nlib rule t (g t))
      go (inl q) = rw (q, next_class) (record { rest = rw (q, afterward) refl; spot = tt; less = omega arith })
      go (inr (late, q)) = subst (λ (r : Rule). Onward nlib n g r t (next_class nlib r t (g t))) (sym q) (late_onward late (subst (λ (r : Rule). Spot n g r t) q s))

  module _ {c : ℕ} (there : c < n) where
    -- a rule that asks slots asks no interface
    asked_concrete : (rule : LateRule) → applies g (Late rule) c ≡ true → T (not (is_interface (g c)))
    unfolding judged_for
    asked_concrete rule e = and_l (not (is_interface (g c))) (has_marker g (rule_marker rule) c) (true_t e)

    pub first_spot : (rule : Rule) → applies g rule c ≡ true → Spot n g rule c
    first_spot rule e = record { there = there; concrete = λ r q. asked_concrete r (ap (λ (x : Rule). applies g x c) (sym q) ∙ e) }

    -- the walk begins at the class itself
    pub begins : (rule : Rule) → applies g rule c ≡ true → order nlib g rule c ≡ classes_from nlib g rule (Some c)
    begins rule = go (early_or_late rule)
      where
        go : EarlyOrLate rule → applies g rule c ≡ true → order nlib g rule c ≡ classes_from nlib g rule (Some c)
        go (inl q) e = rw (q, order, afterward) refl
        go (inr (late, q)) e = rw q (above_from late there (asked_concrete late (rw q at e)))
