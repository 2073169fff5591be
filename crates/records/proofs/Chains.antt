-- What chains of iterators answer, in the words of the definitions.
-- Assumes nothing.
use mathlib.Core.Path.{◌≡◌, refl, ap}
use mathlib.Core.Bool.{Bool, true, false, ◌||◌}
use mathlib.Core.List.{List, [], ◌∷◌}
use Prim.Native.Nat.{ℕ, zero, suc}
use native.Mathlib.Numerals.{add-one}
use Rattle.std.specs.List.{list_any, filter, range_with_len}
use Rattle.spec.specs.Lists.{any, keep, span}
use Rattle.laws.proofs.All.{keep_yes, keep_no}

module _ {A : Type 0} (p : A → Bool) where
  pub any_is : (xs : List A) → list_any p xs ≡ any p xs
  unfolding any
  any_is [] = refl
  any_is (x ∷ xs) = ap (λ (b : Bool). p x || b) (any_is xs)

  pub keep_is : (xs : List A) → filter p xs ≡ keep p xs
  unfolding keep
  keep_is [] = refl
  keep_is (x ∷ xs) = go (p x) refl (keep_is xs)
    where
      go : (b : Bool) → p x ≡ b → filter p xs ≡ keep p xs → filter p (x ∷ xs) ≡ keep p (x ∷ xs)
      go true e same = rw (e, same, keep_yes p x xs e) refl
      go false e same = rw (e, same, keep_no p x xs e) refl

pub span_is : (i n : ℕ) → range_with_len i n ≡ span i n
unfolding span
span_is i zero = refl
span_is i (suc n) = rw (add-one i) (ap (λ (l : List ℕ). i ∷ l) (span_is (suc i) n))
