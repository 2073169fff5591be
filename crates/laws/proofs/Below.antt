-- The numbers below n that meet a test: none of them, or the lowest.
-- Assumes nothing.
use mathlib.Core.Path.{◌≡◌, refl, subst}
use mathlib.Core.Bool.{Bool, true, false, ◌||◌}
use mathlib.Core.Logic.{inl, inr}
use Prim.Native.Nat.{ℕ, zero, suc, ◌+◌, ◌≤◌, ◌<◌}
use native.Mathlib.Omega.{arith}
use Rattle.std.specs.Prelude.{Option, Some, None, cond, find}
use Rattle.std.specs.Option.{is_some}
use Rattle.std.proofs.lemmas.Bool.{cases_eq}
use Rattle.spec.specs.Lists.{any, span}

pub any_none : (p : ℕ → Bool) (i n : ℕ) → ((d : ℕ) → i ≤ d → d < i + n → p d ≡ false) → any p (span i n) ≡ false
unfolding any span
any_none p i zero h = refl
any_none p i (suc n) h = rw (h i (omega arith) (omega arith)) (any_none p (suc i) n (λ d l k. h d (omega arith) (omega arith)))

-- ---- the lowest that meets it

-- from i on, if at i and from the next on
pub from_next : (P : ℕ → Type 0) (i : ℕ) → P i → ((x : ℕ) → i + 1 ≤ x → P x) → (x : ℕ) → i ≤ x → P x
from_next P i p f x l = elim (cases_eq i x) [ inl e ↦ subst P e p | inr n ↦ f x (omega arith) ]

-- of the n numbers from i on
pub data Lowest (p : ℕ → Bool) (i n : ℕ) : Option ℕ → Type 0 where
  lowest : {d : ℕ} → i ≤ d → d < i + n → p d ≡ true → ((x : ℕ) → i ≤ x → x < d → p x ≡ false) → Lowest p i n (Some d)
  no_lowest : ((x : ℕ) → i ≤ x → x < i + n → p x ≡ false) → Lowest p i n None

pub find_lowest : (p : ℕ → Bool) (i n : ℕ) → Lowest p i n (find p (span i n))
unfolding span
find_lowest p i zero = no_lowest (λ x l m. absurd (omega arith))
find_lowest p i (suc n) = go (p i) refl (find_lowest p (suc i) n)
  where
    more : {o : Option ℕ} → p i ≡ false → Lowest p (suc i) n o → Lowest p i (suc n) o
    more e (lowest l m t f) = lowest (omega arith) (omega arith) t (from_next (λ x. x < _ → p x ≡ false) i (λ k. e) (λ x l. f x (omega arith)))
    more e (no_lowest f) = no_lowest (from_next (λ x. x < i + suc n → p x ≡ false) i (λ k. e) (λ x l m. f x (omega arith) (omega arith)))

    go : (b : Bool) → p i ≡ b → Lowest p (suc i) n (find p (span (suc i) n)) → Lowest p i (suc n) (cond b (Some i) (find p (span (suc i) n)))
    go true e w = lowest (omega arith) (omega arith) e (λ x l m. absurd (omega arith))
    go false e w = more e w

-- whether there is one
pub find_any : (p : ℕ → Bool) (i n : ℕ) → is_some (find p (span i n)) ≡ any p (span i n)
unfolding span any
find_any p i zero = refl
find_any p i (suc n) = go (p i) (find_any p (suc i) n)
  where
    go : (b : Bool) → is_some (find p (span (suc i) n)) ≡ any p (span (suc i) n) → is_some (cond b (Some i) (find p (span (suc i) n))) ≡ (b || any p (span (suc i) n))
    go true e = refl
    go false e = e
