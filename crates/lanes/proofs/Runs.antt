-- Parts of a search: one that does nothing, one after another, and one that lowers one entry.
-- Assumes nothing.
use mathlib.Core.Path.{◌≡◌, refl, ◌∙◌, subst}
use mathlib.Core.Bool.{Bool, true, false, ◌||◌}
use mathlib.Core.List.{List, Memᴰ}
use mathlib.Core.Logic.{⊎_elim}
use Prim.Native.Nat.{ℕ, ◌+◌, ◌*◌, ◌≤◌, ◌<◌}
use native.Mathlib.Nat.{le_refl}
use native.Mathlib.Decide.{ℕ_discrete}
use native.Mathlib.Omega.{arith}
use lib.ListN.{length, get_or, set}
use lib.Seq.{get_or-set_same, get_or-set_other}
use Rattle.std.proofs.lemmas.Bool.{true≢false, false≢true, cases_Bool, or_cases, or_parts}
use Rattle.lanes.specs.Lanes.{Enclosers, OwnerFits, Draws, via, entry_at, Sound, Other, Settled, Run, sum_of}
use Rattle.lanes.proofs.Rows.{sum_set}
use Rattle.lanes.proofs.Enclosing.{fits_owner}

-- ---- parts

module _ {step : ℕ → List ℕ} {outer : ℕ → ℕ} {n lanes : ℕ} where
  pub run_none : {P : List ℕ → Type 0} (s : List ℕ) → P s → Run step outer n lanes P s s false
  run_none s p = record {
    keeps = λ g h. h;
    down = λ i. le_refl (get_or s i 65535);
    kept = λ i o. refl;
    less = λ z. absurd (false≢true z);
    still = λ z. refl;
    closed = λ z. p;
  }

  -- the sum never grows
  no_more : {P : List ℕ → Type 0} {s₀ s : List ℕ} {a : Bool} → Run step outer n lanes P s₀ s a → sum_of s ≤ sum_of s₀
  no_more {s₀ = s₀} {a = a} f = ⊎_elim (λ z. omega (arith, f.less z)) (λ z. rw (f.still z) (le_refl (sum_of s₀))) (cases_Bool a)

  -- If neither part changed anything, what both say holds of the one row.
  pub run_then : {P Q : List ℕ → Type 0} (R : List ℕ → Type 0) {s₀ s s' : List ℕ} {a b : Bool} → Run step outer n lanes P s₀ s a → Run step outer n lanes Q s s' b
      → (P s₀ → Q s₀ → R s₀) → Run step outer n lanes R s₀ s' (a || b)
  run_then {Q = Q} R {a = a} {b = b} f h c = record {
    keeps = λ g x. h.keeps g (f.keeps g x);
    down = λ i. let u = f.down i in let w = h.down i in omega arith;
    kept = λ i o. h.kept i o ∙ f.kept i o;
    less = λ z. ⊎_elim (λ p. omega (arith, f.less p, no_more h)) (λ p. omega (arith, no_more f, h.less p)) (or_cases a b z);
    still = λ z. let none = or_parts a b z in h.still none.1 ∙ f.still none.0;
    closed = λ z. let none = or_parts a b z in c (f.closed none.0) (subst Q (f.still none.0) (h.closed none.1));
  }

  pub run_only : {P : List ℕ → Type 0} (R : List ℕ → Type 0) {s₀ s : List ℕ} {r : Bool} → Run step outer n lanes P s₀ s r → (P s₀ → R s₀) → Run step outer n lanes R s₀ s r
  run_only R f c =
      record { keeps = f.keeps; down = f.down; kept = f.kept; less = f.less; still = f.still; closed = λ z. c (f.closed z) }

-- The entry of m in lane k becomes that of t.
module _ (step : ℕ → List ℕ) (outer : ℕ → ℕ) (n lanes : ℕ) (s : List ℕ) (k m t : ℕ) (few : n ≤ 256) (hk : k < lanes) (hm : m < n) (ht : t < n) (long : lanes * 256 ≤ length s) where
  lower_sound : entry_at s k t < 65535 → OwnerFits outer (entry_at s k t) m → Memᴰ t (step m) → (g : List ℕ) → Sound step outer n lanes g s
      → Sound step outer n lanes g (set s (k * 256 + m) (entry_at s k t))
  unfolding Sound
  lower_sound b f e g h k' m' hk' hm' v = go (ℕ_discrete (k' * 256 + m') (k * 256 + m))
    where
      go : Dec (k' * 256 + m' ≡ k * 256 + m) → Draws step outer n (entry_at g k') (entry_at (set s (k * 256 + m) (entry_at s k t)) k' m') m'
      go (yes q) =
          let ek : k' ≡ k = omega arith in
          let em : m' ≡ m = omega arith in
          let ev : entry_at (set s (k * 256 + m) (entry_at s k t)) k m ≡ entry_at s k t = get_or-set_same s (k * 256 + m) (entry_at s k t) 65535 (omega arith) in
          rw (ek, em, ev) (via f e ht (h k t hk ht b))
      go (no q) =
          let ev : entry_at (set s (k * 256 + m) (entry_at s k t)) k' m' ≡ entry_at s k' m' =
          get_or-set_other s (k * 256 + m) (k' * 256 + m') (entry_at s k t) 65535 q in
          rw ev (h k' m' hk' hm' (rw ev at v))

  pub run_lower : (P : List ℕ → Type 0) → entry_at s k t < entry_at s k m → OwnerFits outer (entry_at s k t) m → Memᴰ t (step m)
      → Run step outer n lanes P s (set s (k * 256 + m) (entry_at s k t)) true
  unfolding Other
  run_lower P lt f e =
      let l : k * 256 + m < length s = omega arith in
      record {
        keeps = lower_sound (fits_owner (omega arith) f) f e;
        down = λ i. go i (ℕ_discrete i (k * 256 + m));
        kept = λ i o. get_or-set_other s (k * 256 + m) i (entry_at s k t) 65535 (λ q. o k m hk hm q);
        less = λ z. let u = sum_set s (k * 256 + m) (entry_at s k t) l in omega arith;
        still = λ z. absurd (true≢false z);
        closed = λ z. absurd (true≢false z);
      }
    where
      go : (i : ℕ) → Dec (i ≡ k * 256 + m) → get_or (set s (k * 256 + m) (entry_at s k t)) i 65535 ≤ get_or s i 65535
      go i (yes q) = let u = get_or-set_same s (k * 256 + m) (entry_at s k t) 65535 (omega arith) in rw (q, u) (omega arith)
      go i (no q) = let u = get_or-set_other s (k * 256 + m) i (entry_at s k t) 65535 q in omega arith

-- Class m was offered what t has, in the lanes named. Only the row of marks was asked, so it holds for all steps and enclosers that the marks are right for.
pub record Offered (marks : List Bool) (n lanes m t : ℕ) (lane : ℕ → Type 0) (s₀ s : List ℕ) (r : Bool) : Type 0 where
  pub run : (step : ℕ → List ℕ) (outer : ℕ → ℕ) → Memᴰ t (step m) → Enclosers outer m marks
      → Run step outer n lanes (λ s. (k : ℕ) → lane k → Settled outer n k m s t) s₀ s r
