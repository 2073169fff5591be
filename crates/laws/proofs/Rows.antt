-- Rows of one value, rows of the values of a function, and rows that are filled one entry after the other.
-- Assumes nothing.
use mathlib.Core.Path.{◌≡◌, refl, sym, ap, ◌∙◌, subst}
use mathlib.Core.List.{List, map}
use Prim.Native.Nat.{ℕ, zero, suc, ◌+◌, ◌<◌}
use native.Mathlib.Nat.{zero-add}
use native.Mathlib.Omega.{arith}
use lib.ListN.{length, get_or, set, replicate, length-map}
use lib.Seq.{get_or-set_same, get_or-set_other, ext_get_or}
use borrow.Author.Count.{below_more}
use Rattle.spec.specs.Lists.{span}

pub same_all : {A : Type 0} (a : A) (n x : ℕ) → get_or (replicate n a) x a ≡ a
same_all a zero x = refl
same_all a (suc n) zero = refl
same_all a (suc n) (suc x) = same_all a n x

-- ---- the values of a function

length_span : (i n : ℕ) → length (span i n) ≡ n
unfolding span
length_span i zero = refl
length_span i (suc n) = ap suc (length_span (suc i) n)

values_from : {B : Type 0} (f : ℕ → B) (d : B) (i n k : ℕ) → k < n → get_or (map f (span i n)) k d ≡ f (i + k)
unfolding span
values_from f d i zero k h = absurd (omega arith)
values_from f d i (suc n) zero h = ap f (let e : i ≡ i + 0 = omega arith in e)
values_from f d i (suc n) (suc k) h = values_from f d (suc i) n k (omega arith) ∙ ap f (let e : suc i + k ≡ i + suc k = omega arith in e)

module _ {B : Type 0} (f : ℕ → B) (n : ℕ) where
  pub length_values : length (map f (span 0 n)) ≡ n
  length_values = length-map (span 0 n) f ∙ length_span 0 n

  pub get_or_values : (d : B) (k : ℕ) → k < n → get_or (map f (span 0 n)) k d ≡ f k
  get_or_values d k h = values_from f d 0 n k h ∙ ap f (zero-add k)

  -- a row that has them is theirs
  pub values_are : (d : B) {row : List B} → length row ≡ n → ((k : ℕ) → k < n → get_or row k d ≡ f k) → row ≡ map f (span 0 n)
  values_are d {row} long is =
      ext_get_or d row (map f (span 0 n)) (long ∙ sym length_values) (λ k l. let b : k < n = omega (arith, long) in is k b ∙ sym (get_or_values d k b))

-- ---- one entry after the other

-- the entries below c and the new one at c: so all below c + 1
pub set_below : {A : Type 0} (z : A) (P : ℕ → A → Type 0) (row : List A) (c : ℕ) (v : A) → c < length row → ((d : ℕ) → d < c → P d (get_or row d z)) → P c v
    → (d : ℕ) → d < c + 1 → P d (get_or (set row c v) d z)
set_below z P row c v h f p =
    below_more (λ d. P d (get_or (set row c v) d z)) c (λ d l. subst (P d) (sym (get_or-set_other row c d v z (λ q. omega arith))) (f d l))
    (subst (P c) (sym (get_or-set_same row c v z h)) p)
