-- One class draws from one other, in one lane, then lane after lane: the row and the answer are those of the definitions, and so a part of the search.
-- Assumes nothing.
use mathlib.Core.Path.{◌≡◌, refl, ◌∙◌}
use mathlib.Core.Bool.{Bool, true, false, ◌||◌, and-true, or-true}
use mathlib.Core.List.{List}
use mathlib.Core.Logic.{inl, inr, ⊎_elim}
use Prim.Native.Nat.{ℕ, zero, suc, ◌+◌, ◌*◌, ◌/◌, ◌≤◌, ◌<◌}
use native.Mathlib.Nat.{le_refl, not-suc-le-zero, le_of_suc-le-suc, eq-or-lt_of_le}
use native.Mathlib.Decide.{ℕ_discrete}
use native.Mathlib.Omega.{arith}
use lib.Dec.{eqb, ltb}
use lib.ListN.{length, set, length-set}
use Rattle.std.proofs.lemmas.Bool.{eq-eqb, ne_eqb, lt-ltb, le-ltb, ltb-true, ltb-false, and_parts, cases_Bool, cases_lt}
use Rattle.lanes.specs.Lanes.{OwnerFits, entry_at, Settled, Enclosers, fits_row, lowers, drawn, drawn_lanes, drew_lanes, lanes_of}
use Rattle.lanes.proofs.Runs.{run_none, run_then, run_lower, Offered}

-- ---- the row of marks says what fits

module _ (marks : List Bool) (outer : ℕ → ℕ) (m y : ℕ) (right : Enclosers outer m marks) where
  pub fits_only : fits_row marks y ≡ true → OwnerFits outer y m
  unfolding fits_row
  fits_only h = go (ℕ_discrete y 0)
    where
      go : Dec (y ≡ 0) → OwnerFits outer y m
      go (yes q) = inl q
      go (no q) = inr (right.only (y / 256) (rw (ne_eqb y 0 q) at h))

  pub fits_every : OwnerFits outer y m → fits_row marks y ≡ true
  unfolding fits_row
  fits_every (inl q) = rw (eq-eqb y 0 q)
  fits_every (inr i) = rw (right.every (y / 256) i) (or-true (eqb y 0))

-- ---- one lane

module _ (marks : List Bool) (m t k : ℕ) (s : List ℕ) where
  drawn_none : lowers marks m t k s ≡ false → drawn marks m t k s ≡ s
  unfolding drawn
  drawn_none h = rw (h, drawn)

  drawn_some : lowers marks m t k s ≡ true → drawn marks m t k s ≡ set s (k * 256 + m) (entry_at s k t)
  unfolding drawn
  drawn_some h = rw (h, drawn)

  drawn_long : length (drawn marks m t k s) ≡ length s
  drawn_long = ⊎_elim (λ e. rw (drawn_some e) (length-set s (k * 256 + m) (entry_at s k t))) (λ e. rw (drawn_none e)) (cases_Bool (lowers marks m t k s))

-- ---- all lanes

lanes_there : (n lanes t : ℕ) → t < n → lanes_of n lanes t ≡ lanes
unfolding lanes_of
lanes_there n lanes t h = rw (lt-ltb t n h, lanes_of)

lanes_past : (n lanes t : ℕ) → n ≤ t → lanes_of n lanes t ≡ 0
unfolding lanes_of
lanes_past n lanes t h = rw (le-ltb t n h, lanes_of)

-- the row s' and the answer r of all lanes
abbrev pub Drawn : List Bool → ℕ → ℕ → ℕ → ℕ → List ℕ → List ℕ → Bool → Type 0
Drawn marks n lanes m t s s' r = (s' ≡ drawn_lanes marks m t (lanes_of n lanes t) s) × (r ≡ drew_lanes marks m t (lanes_of n lanes t) s)

-- ---- what it does for the search

module _ {marks : List Bool} {n lanes m t : ℕ} (few : n ≤ 256) (hm : m < n) where
  module _ (ht : t < n) (s : List ℕ) (long : lanes * 256 ≤ length s) (k : ℕ) (hk : k < lanes) where
    stays : lowers marks m t k s ≡ false → Offered marks n lanes m t (λ j. j ≡ k) s s false
    unfolding Settled lowers
    stays h = record { run = λ step outer e g. run_none s (λ j q a b c. rw q (settled outer g (rw q at c))) }
      where
        settled : (outer : ℕ → ℕ) → Enclosers outer m marks → OwnerFits outer (entry_at s k t) m → entry_at s k m ≤ entry_at s k t
        settled outer g c = ltb-false (entry_at s k t) (entry_at s k m) (rw (fits_every marks outer m (entry_at s k t) g c, and-true) at h)

    takes : lowers marks m t k s ≡ true → Offered marks n lanes m t (λ j. j ≡ k) s (set s (k * 256 + m) (entry_at s k t)) true
    unfolding lowers
    takes h =
        let w = and_parts (ltb (entry_at s k t) (entry_at s k m)) (fits_row marks (entry_at s k t)) h in
        record {
          run = λ step outer e g.
              run_lower step outer n lanes s k m t few hk hm ht long (λ s. (j : ℕ) → j ≡ k → Settled outer n j m s t)
              (ltb-true (entry_at s k t) (entry_at s k m) w.0)
              (fits_only marks outer m (entry_at s k t) g w.1)
              e;
        }

    one_lane : Offered marks n lanes m t (λ j. j ≡ k) s (drawn marks m t k s) (lowers marks m t k s)
    one_lane =
        ⊎_elim (λ e. rw (drawn_some marks m t k s e, e) (takes e)) (λ e. rw (drawn_none marks m t k s e, e) (stays e)) (cases_Bool (lowers marks m t k s))

  then_lane : {s₀ s s' : List ℕ} {k : ℕ} {a b : Bool} → Offered marks n lanes m t (λ j. j < k) s₀ s a → Offered marks n lanes m t (λ j. j ≡ k) s s' b
      → Offered marks n lanes m t (λ j. j < suc k) s₀ s' (a || b)
  then_lane {k = k} f h =
      record {
        run = λ step outer x g.
            run_then (λ s. (j : ℕ) → j < suc k → Settled outer n j m s t) (f.run step outer x g) (h.run step outer x g)
            (λ p q j l. ⊎_elim (λ z. q j z) (λ z. p j z) (eq-or-lt_of_le (le_of_suc-le-suc l)));
      }

  module _ (s : List ℕ) (long : lanes * 256 ≤ length s) where
    first_lanes : t < n → (k : ℕ) → k ≤ lanes
        → (length (drawn_lanes marks m t k s) ≡ length s) × Offered marks n lanes m t (λ j. j < k) s (drawn_lanes marks m t k s) (drew_lanes marks m t k s)
    unfolding drawn_lanes drew_lanes
    first_lanes ht zero h = (refl, record { run = λ step outer e g. run_none s (λ j q. absurd (not-suc-le-zero q)) })
    first_lanes ht (suc k) h =
        let w = first_lanes ht k (omega arith) in
        let s' = drawn_lanes marks m t k s in
        (drawn_long marks m t k s' ∙ w.0, then_lane w.1 (one_lane ht s' (omega (arith, w.0)) k (omega arith)))

    -- a number that is no class has nothing to offer
    no_lanes : n ≤ t → Offered marks n lanes m t (λ j. j < lanes) s s false
    unfolding Settled
    no_lanes h = record { run = λ step outer e g. run_none s (λ j q a b c. absurd (omega arith)) }

    pub offered : {s' : List ℕ} {r : Bool} → Drawn marks n lanes m t s s' r → Offered marks n lanes m t (λ j. j < lanes) s s' r
    unfolding drawn_lanes drew_lanes
    offered q = rw (q.0, q.1) (⊎_elim (λ h. rw (lanes_there n lanes t h) (first_lanes h lanes (le_refl lanes)).1) (λ h. rw (lanes_past n lanes t h) (no_lanes h)) (cases_lt t n))
