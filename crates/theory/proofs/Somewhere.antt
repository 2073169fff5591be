-- A test that passes somewhere in a list, and lists that hold something.
-- Assumes nothing.
use mathlib.Core.Path.{◌≡◌, refl, sym, ap, ap₂, ◌∙◌}
use mathlib.Core.Bool.{Bool, true, false, ◌&&◌, ◌||◌, or_assoc}
use mathlib.Core.List.{List, [], ◌∷◌, ◌++◌, map}
use Prim.Native.Nat.{ℕ, suc}
use Rattle.spec.specs.Lists.{any, keep, gather, numbered, only_if}

module _ {A : Type 0} (p : A → Bool) where
  pub any_append : (xs ys : List A) → any p (xs ++ ys) ≡ (any p xs || any p ys)
  unfolding any
  any_append [] ys = refl
  any_append (x ∷ xs) ys = ap (λ (b : Bool). p x || b) (any_append xs ys) ∙ sym (or_assoc (p x) (any p xs) (any p ys))

  pub any_map : {B : Type 0} (f : B → A) (xs : List B) → any p (map f xs) ≡ any (λ x. p (f x)) xs
  unfolding any
  any_map f [] = refl
  any_map f (x ∷ xs) = ap (λ (b : Bool). p (f x) || b) (any_map f xs)

  pub any_gather : {B : Type 0} (f : B → List A) (xs : List B) → any p (gather f xs) ≡ any (λ x. any p (f x)) xs
  unfolding any gather
  any_gather f [] = refl
  any_gather f (x ∷ xs) = any_append (f x) (gather f xs) ∙ ap (λ (b : Bool). any p (f x) || b) (any_gather f xs)

  pub any_keep : (q : A → Bool) (xs : List A) → any p (keep q xs) ≡ any (λ x. q x && p x) xs
  unfolding any keep
  any_keep q [] = refl
  any_keep q (x ∷ xs) = go (q x) (any_keep q xs)
    where
      go : (b : Bool) → any p (keep q xs) ≡ any (λ x. q x && p x) xs → any p (elim b as (λ (c : Bool). List A) [ true ↦ x ∷ keep q xs | false ↦ keep q xs ]) ≡ ((b && p x) || any (λ x. q x && p x) xs)
      go true e = ap (λ (b : Bool). p x || b) e
      go false e = e

  -- whatever the numbers
  pub any_numbered : (i : ℕ) (xs : List A) → any (λ n. p n.1) (numbered i xs) ≡ any p xs
  unfolding any numbered
  any_numbered i [] = refl
  any_numbered i (x ∷ xs) = ap (λ (b : Bool). p x || b) (any_numbered (suc i) xs)

pub any_same : {A : Type 0} (p q : A → Bool) → ((x : A) → p x ≡ q x) → (xs : List A) → any p xs ≡ any q xs
unfolding any
any_same p q e [] = refl
any_same p q e (x ∷ xs) = ap₂ (λ (a b : Bool). a || b) (e x) (any_same p q e xs)

pub any_either : {A : Type 0} (p q : A → Bool) (xs : List A) → any (λ x. p x || q x) xs ≡ (any p xs || any q xs)
unfolding any
any_either p q [] = refl
any_either p q (x ∷ xs) = ap (λ (b : Bool). (p x || q x) || b) (any_either p q xs) ∙ swap (p x) (q x) (any p xs) (any q xs)
  where
    swap : (a b c d : Bool) → ((a || b) || (c || d)) ≡ ((a || c) || (b || d))
    swap true b c d = refl
    swap false true true d = refl
    swap false true false d = refl
    swap false false c d = refl

pub any_never : {A : Type 0} (xs : List A) → any (λ x. false) xs ≡ false
unfolding any
any_never [] = refl
any_never (x ∷ xs) = any_never xs

-- ---- a list that holds something

unfoldable pub some : {A : Type 0} → List A → Bool
some [] = false
some (x ∷ xs) = true

module _ {A : Type 0} where
  pub some_append : (xs ys : List A) → some (xs ++ ys) ≡ (some xs || some ys)
  unfolding some
  some_append [] ys = refl
  some_append (x ∷ xs) ys = refl

  pub some_map : {B : Type 0} (f : B → A) (xs : List B) → some (map f xs) ≡ some xs
  unfolding some
  some_map f [] = refl
  some_map f (x ∷ xs) = refl

  pub some_only : (b : Bool) (xs : List A) → some (only_if b xs) ≡ (b && some xs)
  unfolding some only_if
  some_only true xs = refl
  some_only false xs = refl

  pub some_keep : (p : A → Bool) (xs : List A) → some (keep p xs) ≡ any p xs
  unfolding some keep any
  some_keep p [] = refl
  some_keep p (x ∷ xs) = go (p x) (some_keep p xs)
    where
      go : (b : Bool) → some (keep p xs) ≡ any p xs → some {A = A} (elim b as (λ (c : Bool). List A) [ true ↦ x ∷ keep p xs | false ↦ keep p xs ]) ≡ (b || any p xs)
      go true e = refl
      go false e = e

  pub some_gather : {B : Type 0} (f : B → List A) (xs : List B) → some (gather f xs) ≡ any (λ x. some (f x)) xs
  unfolding gather any some
  some_gather f [] = refl
  some_gather f (x ∷ xs) = some_append (f x) (gather f xs) ∙ ap (λ (b : Bool). some (f x) || b) (some_gather f xs)
