-- The first broken rule and the first of its faults, where each rule's list holds just its faults in order. There is one such verdict.
-- Assumes nothing.
use mathlib.Core.Path.{◌≡◌, refl, sym, ap, ◌∙◌, subst}
use mathlib.Core.Logic.{◌⊎◌, inl, inr}
use mathlib.Core.Bool.{not}
use mathlib.Core.List.{List, [], ◌∷◌}
use Prim.Native.Nat.{ℕ, suc, ◌+◌, ◌≤◌, ◌<◌}
use native.Mathlib.Decide.{ℕ_discrete}
use native.Mathlib.Omega.{arith}
use lib.ListN.{length}
use lib.Dec.{T, leb, leb→le, nleb→lt}
use Rattle.spec.specs.Rules.{Fault, Verdict, clean, first_broken}
use Rattle.spec.specs.Relations.{Before}
use Rattle.spec.specs.Breaks.{Not}
use Rattle.theory.specs.Claims.{First, Right}
use Rattle.laws.proofs.Bools.{decide}
use Rattle.theory.proofs.Listed.{Head, listed_none, listed_first, listed_one, before_turn}
use Rattle.theory.proofs.Faults.{Finds}

module _ (B : ℕ → List ℕ → ℕ → ℕ → Type 0) where
  abbrev None : ℕ → Type 0
  None r = (w : List ℕ) (d k : ℕ) → Not (B r w d k)

  -- the lists hold the faults of the rules from n on
  abbrev pub Told : ℕ → List (List Fault) → Type 0
  Told n [] = Unit {0}
  Told n (fs ∷ fss) = Finds (B n) fs × Told (suc n) fss

  -- what the first broken one is of l rules from n on
  data Outcome (n l : ℕ) : Verdict → Type 0 where
    unbroken : ((r : ℕ) → n ≤ r → r < n + l → None r) → Outcome n l clean
    broken : {r : ℕ} {f : Fault} → n ≤ r → ((s : ℕ) → n ≤ s → s < r → None s) → Head (λ w f. B r w f.class f.record_number) f
        → Outcome n l (record { rule = r; record_number = f.record_number; class = f.class })

  outcome : (n : ℕ) (fss : List (List Fault)) → Told n fss → Outcome n (length fss) (first_broken n fss)
  unfolding first_broken
  outcome n [] t = unbroken (λ r h k. absurd (omega arith))
  outcome n (fs ∷ fss) t = go fs t.0 (first_broken (suc n) fss) (outcome (suc n) fss t.1)
    where
      go : (fs : List Fault) → Finds (B n) fs → (v : Verdict) → Outcome (suc n) (length fss) v
          → Outcome n (suc (length fss)) (elim fs as (λ (x : List Fault). Verdict) [ [] ↦ v | f ∷ more ↦ record { rule = n; record_number = f.record_number; class = f.class } ])
      go (f ∷ more) h v o = broken {r = n} {f = f} (omega arith) (λ s a b. absurd (omega arith)) (listed_first h)
      go [] h v o = later v o
        where
          none : (r : ℕ) → n ≤ r → (suc n ≤ r → None r) → None r
          none r a ih = at (ℕ_discrete r n)
            where
              at : Dec (r ≡ n) → None r
              at (yes e) = λ w d k b. listed_none h w (record { class = d; record_number = k }) (subst (λ (r : ℕ). B r w d k) e b)
              at (no ne) = ih (omega arith)

          later : (v : Verdict) → Outcome (suc n) (length fss) v → Outcome n (suc (length fss)) v
          later v (unbroken u) = unbroken (λ r a b. none r a (λ k. u r k (omega arith)))
          later v (broken {r} {f} a below q) = broken {r = r} {f = f} (omega arith) (λ s i j. none s i (λ k. below s k j)) q

  told_one : (n : ℕ) (fss : List (List Fault)) → Told n fss → (r : ℕ) → n ≤ r → r < n + length fss → (w : List ℕ) (e f : Fault)
      → B r w e.class e.record_number → B r w f.class f.record_number → e ≡ f
  told_one n [] t r a b w e f p q = absurd (omega arith)
  told_one n (fs ∷ fss) t r a b w e f p q = go (ℕ_discrete r n) (told_one (suc n) fss t.1 r)
    where
      go : Dec (r ≡ n) → (suc n ≤ r → r < suc n + length fss → (w : List ℕ) (e f : Fault) → B r w e.class e.record_number → B r w f.class f.record_number → e ≡ f) → e ≡ f
      go (yes i) ih = listed_one t.0 w e f (subst (λ (r : ℕ). B r w e.class e.record_number) i p) (subst (λ (r : ℕ). B r w f.class f.record_number) i q)
      go (no ne) ih = ih (omega arith) (omega arith) w e f p q

  -- so the verdict is right, where these are all rules
  module _ (fss : List (List Fault)) (told : Told 1 fss) (within : (r : ℕ) (w : List ℕ) (d k : ℕ) → B r w d k → (1 ≤ r) × (r < 1 + length fss)) where
    right_of : (v : Verdict) → Outcome 1 (length fss) v → Right B v
    right_of v (unbroken u) = record {
      cleanly = ((λ e r w d k b. let i = within r w d k b in u r i.0 i.1 w d k b), (λ h. refl));
      broken = λ ne. absurd (ne refl);
    }
    right_of v (broken {r} {f} a below h) = record {
      cleanly = (
        (λ e. absurd (omega (arith, a, ap (λ (v : Verdict). v.rule) e))),
        (λ none. absurd (none r h.place f.class f.record_number h.told)),
      );
      broken = λ ne. record {
        place = h.place;
        is = h.told;
        lowest_rule = λ s w d k b. low s w d k b (decide (leb r s));
        first = λ w d k b. h.first w (record { class = d; record_number = k }) b;
      };
    }
      where
        low : (s : ℕ) (w : List ℕ) (d k : ℕ) → B s w d k → T (leb r s) ⊎ T (not (leb r s)) → r ≤ s
        low s w d k b (inl t) = leb→le r s t
        low s w d k b (inr t) = absurd (below s (within s w d k b).0 (nleb→lt r s t) w d k b)

    pub right : Right B (first_broken 1 fss)
    right = right_of (first_broken 1 fss) (outcome 1 fss told)

    pub one_at : (r : ℕ) (w : List ℕ) (e f : Fault) → B r w e.class e.record_number → B r w f.class f.record_number → e ≡ f
    one_at r w e f p = let i = within r w e.class e.record_number p in told_one 1 fss told r i.0 i.1 w e f p

-- ---- one verdict alone is right

pub clean_or : (v : Verdict) → (v ≡ clean) ⊎ Not (v ≡ clean)
clean_or v = go (ℕ_discrete v.rule 0) (ℕ_discrete v.record_number 0) (ℕ_discrete v.class 0)
  where
    go : Dec (v.rule ≡ 0) → Dec (v.record_number ≡ 0) → Dec (v.class ≡ 0) → (v ≡ clean) ⊎ Not (v ≡ clean)
    go (yes e) (yes f) (yes h) = inl (λ i. record { rule = e i; record_number = f i; class = h i })
    go (no ne) d e = inr (λ q. ne (ap (λ (w : Verdict). w.rule) q))
    go (yes e) (no ne) d = inr (λ q. ne (ap (λ (w : Verdict). w.record_number) q))
    go (yes e) (yes f) (no ne) = inr (λ q. ne (ap (λ (w : Verdict). w.class) q))

-- where a rule has one fault at a place
module _ (B : ℕ → List ℕ → ℕ → ℕ → Type 0) (one : (r : ℕ) (w : List ℕ) (e f : Fault) → B r w e.class e.record_number → B r w f.class f.record_number → e ≡ f)
    (u v : Verdict) (a : Right B u) (b : Right B v) where
  first_same : First B u → First B v → u ≡ v
  first_same x y = go (x.first y.place v.class v.record_number there) (y.first x.place u.class u.record_number (subst (λ (r : ℕ). B r x.place u.class u.record_number) rules x.is))
    where
      rules : u.rule ≡ v.rule
      rules =
          let h = x.lowest_rule v.rule y.place v.class v.record_number y.is in
          let k = y.lowest_rule u.rule x.place u.class u.record_number x.is in
          omega arith

      there : B u.rule y.place v.class v.record_number
      there = subst (λ (r : ℕ). B r y.place v.class v.record_number) (sym rules) y.is

      alike : y.place ≡ x.place → u ≡ v
      alike e = λ i. record { rule = rules i; record_number = (faults i).record_number; class = (faults i).class }
        where
          faults : ◌≡◌ {A = Fault} (record { class = u.class; record_number = u.record_number }) (record { class = v.class; record_number = v.record_number })
          faults = one u.rule x.place _ _ x.is (subst (λ (w : List ℕ). B u.rule w v.class v.record_number) e there)

      go : (y.place ≡ x.place) ⊎ Before x.place y.place → (x.place ≡ y.place) ⊎ Before y.place x.place → u ≡ v
      go (inl e) d = alike e
      go (inr h) (inl e) = alike (sym e)
      go (inr h) (inr k) = absurd (before_turn h k)

  pub right_one : u ≡ v
  right_one = go (clean_or u) (clean_or v)
    where
      go : (u ≡ clean) ⊎ Not (u ≡ clean) → (v ≡ clean) ⊎ Not (v ≡ clean) → u ≡ v
      go (inl e) (inl f) = e ∙ sym f
      go (inl e) (inr f) = let y = b.broken f in absurd (a.cleanly.0 e v.rule y.place v.class v.record_number y.is)
      go (inr e) (inl f) = let x = a.broken e in absurd (b.cleanly.0 f u.rule x.place u.class u.record_number x.is)
      go (inr e) (inr f) = first_same (a.broken e) (b.broken f)
