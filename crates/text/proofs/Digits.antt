-- Numbers in decimal: how many digits they have, and the last digit apart from the others.
-- Assumes nothing.
use mathlib.Core.Path.{◌≡◌, refl, sym, ap, ◌∙◌}
use mathlib.Core.Bool.{Bool, true, false}
use mathlib.Core.List.{List, [], ◌∷◌, ◌++◌}
use Prim.Native.Nat.{ℕ, zero, suc, ◌+◌, ◌*◌, ◌/◌, ◌%◌, ◌≤◌, ◌<◌}
use native.Mathlib.Nat.{div-lt_iff_lt-mul}
use native.Mathlib.Omega.{arith}
use lib.Dec.{ltb}
use lib.ListN.{length, length-append}
use borrow.Author.Tests.{ltb-true, ltb-false, lt-ltb, le-ltb}
use Rattle.text.specs.Text.{digits, decimal}

-- ---- a digit, and the digits before it

module _ (k n : ℕ) where
  digits_one : n < 10 → digits (suc k) n ≡ (48 + n) ∷ []
  unfolding digits
  digits_one h = rw (digits, lt-ltb n 10 h)

  digits_more : 10 ≤ n → digits (suc k) n ≡ digits k (n / 10) ++ ((48 + n % 10) ∷ [])
  unfolding digits
  digits_more h = rw (digits, le-ltb n 10 h)

-- ---- how many there are

digits_some : (k n : ℕ) → 1 ≤ length (digits (suc k) n)
digits_some k n = go (ltb n 10) refl
  where
    go : (t : Bool) → ltb n 10 ≡ t → 1 ≤ length (digits (suc k) n)
    go true h = rw (digits_one k n (ltb-true n 10 h)) (omega arith)
    go false h = rw (digits_more k n (ltb-false n 10 h)) (simp length-append (omega arith))

digits_most : (k n : ℕ) → length (digits k n) ≤ k
unfolding digits
digits_most zero n = omega arith
digits_most (suc k) n = go (digits_most k (n / 10)) (ltb n 10) refl
  where
    go : length (digits k (n / 10)) ≤ k → (t : Bool) → ltb n 10 ≡ t → length (digits (suc k) n) ≤ suc k
    go i true h = rw (digits_one k n (ltb-true n 10 h)) (omega arith)
    go i false h = rw (digits_more k n (ltb-false n 10 h)) (simp length-append (omega arith))

-- ---- numbers below a power of ten

abbrev power : ℕ → ℕ
power zero = 1
power (suc m) = power m * 10

tenth : (m n : ℕ) → n < power (suc m) → n / 10 < power m
tenth m n h = (div-lt_iff_lt-mul {k = 10} {x = n} {y = power m} (omega arith)).1 h

-- more places than that add nothing
digits_enough : (k n : ℕ) → n < power (suc k) → digits (suc (suc k)) n ≡ digits (suc k) n
digits_enough zero n h = digits_one 1 n (omega arith) ∙ sym (digits_one 0 n (omega arith))
digits_enough (suc k) n h = go (digits_enough k (n / 10) (tenth (suc k) n h)) (ltb n 10) refl
  where
    go : digits (suc (suc k)) (n / 10) ≡ digits (suc k) (n / 10) → (t : Bool) → ltb n 10 ≡ t
        → digits (suc (suc (suc k))) n ≡ digits (suc (suc k)) n
    go i true q = let l = ltb-true n 10 q in digits_one (suc (suc k)) n l ∙ sym (digits_one (suc k) n l)
    go i false q =
        let l = ltb-false n 10 q in
        digits_more (suc (suc k)) n l ∙ ap (λ (r : List ℕ). r ++ ((48 + n % 10) ∷ [])) i ∙ sym (digits_more (suc k) n l)

-- ---- decimal

pub decimal_length : (n : ℕ) → (1 ≤ length (decimal n)) × (length (decimal n) ≤ 20)
unfolding decimal
decimal_length n = (digits_some 19 n, digits_most 20 n)

pub decimal_one : (n : ℕ) → n < 10 → decimal n ≡ (48 + n) ∷ []
unfolding decimal
decimal_one n h = digits_one 19 n h

pub decimal_more : (n : ℕ) → 10 ≤ n → n < 18446744073709551616 → decimal n ≡ decimal (n / 10) ++ ((48 + n % 10) ∷ [])
unfolding decimal
decimal_more n l h =
    digits_more 19 n l ∙ ap (λ (r : List ℕ). r ++ ((48 + n % 10) ∷ [])) (sym (digits_enough 18 (n / 10) (tenth 19 n (omega arith))))
