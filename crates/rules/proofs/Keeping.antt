-- What walks keep: of each class, under which rules nothing is found in it, or nothing in it and above it.
-- Assumes nothing.
use mathlib.Core.Path.{◌≡◌, refl, sym, ap, ◌∙◌, subst}
use mathlib.Core.Bool.{Bool, true, false}
use mathlib.Core.List.{List}
use mathlib.Core.Logic.{◌⊎◌, inl, inr}
use Prim.Native.Nat.{ℕ, ◌^◌, ◌<◌}
use native.Mathlib.Decide.{ℕ_discrete}
use native.Mathlib.Omega.{arith}
use lib.Dec.{T, T_not}
use lib.ListN.{get_or, set, replicate, length-set}
use lib.Seq.{get_or-set_same, get_or-set_other}
use Rattle.spec.specs.Record.{bit}
use Rattle.spec.specs.Markers.{union}
use Rattle.laws.proofs.Bools.{true_t, t_true, or_cases}
use Rattle.theory.proofs.Closure.{bit_union, bit_zero}
use Rattle.laws.proofs.Rows.{same_all}
use Rattle.slots.specs.declared.Late.{Late as LateRule}
use Rattle.slots.specs.declared.Late.TheVariants.{Immutable, Powerless, Selfless, DeepSelfless}
use Rattle.slots.specs.Slots.{rule_marker}
use Rattle.breaks.specs.declared.rule.Rule.{Rule}
use Rattle.breaks.specs.declared.rule.Rule.TheVariants.{Late}
use Rattle.breaks.proofs.LateRules.{EarlyOrLate, early_or_late}
use Rattle.rules.specs.Walk.{kept_at, KeptOf, sound}

-- a marker is in its own set alone
marker_in : (a b : LateRule) → bit (rule_marker a) (2 ^ rule_marker b) ≡ true → a ≡ b
unfolding bit
marker_in Immutable Immutable e = refl
marker_in Immutable Powerless e = absurd (cc)
marker_in Immutable Selfless e = absurd (cc)
marker_in Immutable DeepSelfless e = absurd (cc)
marker_in Powerless Immutable e = absurd (cc)
marker_in Powerless Powerless e = refl
marker_in Powerless Selfless e = absurd (cc)
marker_in Powerless DeepSelfless e = absurd (cc)
marker_in Selfless Immutable e = absurd (cc)
marker_in Selfless Powerless e = absurd (cc)
marker_in Selfless Selfless e = refl
marker_in Selfless DeepSelfless e = absurd (cc)
marker_in DeepSelfless Immutable e = absurd (cc)
marker_in DeepSelfless Powerless e = absurd (cc)
marker_in DeepSelfless Selfless e = absurd (cc)
marker_in DeepSelfless DeepSelfless e = refl

module _ {Q : Rule → ℕ → Type 0} where
  -- nothing is kept at first
  pub kept_none : KeptOf Q (replicate 256 0)
  unfolding kept_at
  kept_none = record {
    long = refl;
    is = λ rule t e. absurd (T_not (bit (rule_marker rule) 0) (bit_zero (rule_marker rule)) (true_t (ap (bit (rule_marker rule)) (sym (same_all 0 256 t)) ∙ e)));
  }

  module _ {row : List ℕ} (k : KeptOf Q row) where
    -- one more is kept
    pub kept_more : (rule : LateRule) {t : ℕ} → t < 256 → Q (Late rule) t → {m : ℕ} → m ≡ 2 ^ rule_marker rule → {set' : ℕ} → set' ≡ union (get_or row t 0) m
        → KeptOf Q (set row t set')
    unfolding kept_at
    kept_more rule {t} h z em es = rw (es, em) (record { long = length-set row t new ∙ k.long; is = λ late u one. go late u one (ℕ_discrete u t) })
      where
        new : ℕ
        new = union (get_or row t 0) (2 ^ rule_marker rule)

        in_new : (late : LateRule) → T (bit (rule_marker late) (get_or row t 0)) ⊎ T (bit (rule_marker late) (2 ^ rule_marker rule)) → Q (Late late) t
        in_new late (inl b) = k.is late t (t_true _ b)
        in_new late (inr b) = subst (λ (l : LateRule). Q (Late l) t) (sym (marker_in late rule (t_true _ b))) z

        go : (late : LateRule) (u : ℕ) → bit (rule_marker late) (get_or (set row t new) u 0) ≡ true → Dec (u ≡ t) → Q (Late late) u
        go late u one (no q) = k.is late u (ap (bit (rule_marker late)) (sym (get_or-set_other row t u new 0 q)) ∙ one)
        go late u one (yes q) =
            let written = sym (get_or-set_same row t new 0 (omega (arith, h, k.long))) in
            let both = sym (bit_union (rule_marker late) (get_or row t 0) (2 ^ rule_marker rule)) ∙ ap (bit (rule_marker late)) written ∙ rw q at one in
            rw q (in_new late (or_cases (bit (rule_marker late) (get_or row t 0)) (bit (rule_marker late) (2 ^ rule_marker rule)) (true_t both)))

    -- where it is kept of a class, it holds
    pub sound_none : (rule : Rule) (t : ℕ) {b : Bool} → b ≡ sound row rule t → b ≡ true → Q rule t
    sound_none rule t e one = go (early_or_late rule) (sym e ∙ one)
      where
        go : EarlyOrLate rule → sound row rule t ≡ true → Q rule t
        go (inl q) s = absurd (let z : false ≡ true = rw (q, sound) at s in cc)
        go (inr (late, q)) s = rw q (k.is late t (rw q at s))
