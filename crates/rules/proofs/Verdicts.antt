-- The verdict of a class from what the walk finds: the first rule under which it finds a fault, and the first fault there.
-- Assumes nothing.
use mathlib.Core.Path.{◌≡◌, refl, sym, ap, ◌∙◌}
use mathlib.Core.Logic.{◌⊎◌, inl, inr}
use mathlib.Core.Bool.{not}
use mathlib.Core.List.{List, [], ◌∷◌}
use Prim.Native.Nat.{ℕ, zero, suc, ◌+◌, ◌≤◌, ◌<◌}
use native.Mathlib.Nat.{add-zero}
use native.Mathlib.Omega.{arith}
use lib.Dec.{T, ltb, ltb→lt, nltb→le}
use lib.ListN.{get_or, get_or-eq_default}
use Rattle.spec.specs.Sheet.{Group}
use Rattle.spec.specs.Rules.{Fault, Verdict, clean, rules, first_broken, verdict_of}
use Rattle.laws.proofs.Bools.{decide}
use Rattle.rules.specs.Walk.{rule_at, walked}
use Rattle.rules.proofs.Ground.{Ground}
use Rattle.rules.proofs.Finding.{walked_is}

-- a rule's verdict on a fault
abbrev pub verdict : ℕ → Fault → Verdict
verdict r f = record { rule = r; record_number = f.record_number; class = f.class }

-- ---- along the lists of faults

broken_none : (n : ℕ) (fss : List (List Fault)) → ((i : ℕ) → get_or fss i [] ≡ []) → first_broken n fss ≡ clean
unfolding first_broken
broken_none n [] h = refl
broken_none n ([] ∷ fss) h = broken_none (suc n) fss (λ i. h (suc i))
broken_none n ((f ∷ fs) ∷ fss) h = absurd (let e = h 0 in cc)

broken_at : (n : ℕ) (fss : List (List Fault)) (i : ℕ) {f : Fault} {more : List Fault} → ((j : ℕ) → j < i → get_or fss j [] ≡ []) → get_or fss i [] ≡ f ∷ more
    → first_broken n fss ≡ verdict (n + i) f
unfolding first_broken
broken_at n [] i h e = absurd (cc)
broken_at n ([] ∷ fss) zero h e = absurd (cc)
broken_at n ((x ∷ xs) ∷ fss) zero {f} h e =
    let q : x ≡ f = cc in ap (verdict n) q ∙ ap (λ (m : ℕ). verdict m f) (sym (add-zero n))
broken_at n ([] ∷ fss) (suc i) {f} h e = broken_at (suc n) fss i (λ j l. h (suc j) (omega arith)) e ∙ ap (λ (m : ℕ). verdict m f) (omega arith)
broken_at n ((x ∷ xs) ∷ fss) (suc i) h e = absurd (let q = h 0 (omega arith) in cc)

-- ---- the ten rules

module _ {nlib n : ℕ} {g : ℕ → Group} (w : Ground nlib n g) {c : ℕ} (user : nlib ≤ c) (there : c < n) where
  -- nothing found under any rule
  pub none_found : ((i : ℕ) → i < 10 → walked nlib g (rule_at i) c ≡ []) → verdict_of nlib g c ≡ clean
  unfolding verdict_of rules
  none_found h = broken_none 1 (rules nlib g c) (λ i. go i (decide (ltb i 10)))
    where
      go : (i : ℕ) → T (ltb i 10) ⊎ T (not (ltb i 10)) → get_or (rules nlib g c) i [] ≡ []
      go i (inl t) = let l = ltb→lt i 10 t in sym (walked_is w user there i l) ∙ h i l
      go i (inr t) = get_or-eq_default (rules nlib g c) [] (nltb→le i 10 t)

  -- nothing under the rules before, and f the first under this one
  pub first_found : (i : ℕ) → i < 10 → ((j : ℕ) → j < i → walked nlib g (rule_at j) c ≡ []) → {f : Fault} {more : List Fault} → walked nlib g (rule_at i) c ≡ f ∷ more
      → verdict_of nlib g c ≡ verdict (i + 1) f
  unfolding verdict_of
  first_found i l h {f} e =
      broken_at 1 (rules nlib g c) i (λ j a. sym (walked_is w user there j (omega arith)) ∙ h j a) (sym (walked_is w user there i l) ∙ e)
      ∙ ap (λ (m : ℕ). verdict m f) (omega arith)
