-- Counting by a test: a part of a list is no longer; along the numbers below n, one number at a time.
-- Assumes nothing.
use mathlib.Core.Path.{◌≡◌, refl, sym, ap, ap₂, ◌∙◌}
use mathlib.Core.Bool.{Bool, true, false}
use mathlib.Core.List.{List, [], ◌∷◌, ◌++◌}
use Prim.Native.Nat.{ℕ, zero, suc, ◌+◌, ◌≤◌, ◌<◌}
use native.Mathlib.Nat.{le_refl, zero-add, add-zero, add-suc, suc-add}
use native.Mathlib.Omega.{arith}
use lib.ListN.{length}
use Rattle.spec.specs.Lists.{keep, count, numbered, span}

module _ {A : Type 0} where
  -- a part is no longer than the whole
  pub keep_short : (p : A → Bool) (xs : List A) → length (keep p xs) ≤ length xs
  unfolding keep
  keep_short p [] = le_refl 0
  keep_short p (x ∷ xs) = go (p x) (keep_short p xs)
    where
      go : (b : Bool) → length (keep p xs) ≤ length xs → length {A = A} (elim b as (λ (c : Bool). List A) [ true ↦ x ∷ keep p xs | false ↦ keep p xs ]) ≤ suc (length xs)
      go true h = omega arith
      go false h = omega arith

  pub length_numbered : (i : ℕ) (xs : List A) → length (numbered i xs) ≡ length xs
  unfolding numbered
  length_numbered i [] = refl
  length_numbered i (x ∷ xs) = ap suc (length_numbered (suc i) xs)

span_last : (i n : ℕ) → span i (suc n) ≡ span i n ++ ((i + n) ∷ [])
unfolding span
span_last i zero = ap (λ (k : ℕ). k ∷ []) (sym (add-zero i))
span_last i (suc n) = ap (λ (l : List ℕ). i ∷ l) (span_last (suc i) n ∙ ap (λ (k : ℕ). span (suc i) n ++ (k ∷ [])) (suc-add i n ∙ sym (add-suc i n)))

-- a count, and one more number that passed or failed the test
abbrev pub step : Bool → ℕ → ℕ
step true k = suc k
step false k = k

step_swap : (a b : Bool) (k : ℕ) → step a (step b k) ≡ step b (step a k)
step_swap true true k = refl
step_swap true false k = refl
step_swap false b k = refl

module _ (p : ℕ → Bool) where
  count_first : (x : ℕ) (xs : List ℕ) → count p (x ∷ xs) ≡ step (p x) (count p xs)
  unfolding count keep
  count_first x xs = go (p x)
    where
      go : (b : Bool) → length {A = ℕ} (elim b as (λ (c : Bool). List ℕ) [ true ↦ x ∷ keep p xs | false ↦ keep p xs ]) ≡ step b (length (keep p xs))
      go true = refl
      go false = refl

  count_last : (xs : List ℕ) (x : ℕ) → count p (xs ++ (x ∷ [])) ≡ step (p x) (count p xs)
  count_last [] x = count_first x []
  count_last (y ∷ xs) x =
      count_first y (xs ++ (x ∷ [])) ∙ ap (step (p y)) (count_last xs x) ∙ step_swap (p y) (p x) (count p xs) ∙ ap (step (p x)) (sym (count_first y xs))

  pub count_none : count p (span 0 0) ≡ 0
  unfolding count keep span
  count_none = refl

  pub count_more : (n : ℕ) → count p (span 0 (suc n)) ≡ step (p n) (count p (span 0 n))
  count_more n = ap (count p) (span_last 0 n ∙ ap (λ (k : ℕ). span 0 n ++ (k ∷ [])) (zero-add n)) ∙ count_last (span 0 n) n

-- two tests that agree below n
pub count_same : (p q : ℕ → Bool) (n : ℕ) → ((i : ℕ) → i < n → p i ≡ q i) → count p (span 0 n) ≡ count q (span 0 n)
count_same p q zero h = count_none p ∙ sym (count_none q)
count_same p q (suc n) h = count_more p n ∙ ap₂ step (h n (omega arith)) (count_same p q n (λ i k. h i (omega arith))) ∙ sym (count_more q n)
