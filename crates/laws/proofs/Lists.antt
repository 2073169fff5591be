-- Parts of joined, mapped and gathered lists, also as the library's iterators have them.
-- Assumes nothing.
use mathlib.Core.Path.{◌≡◌, refl, sym, ap, ◌∙◌}
use mathlib.Core.Bool.{Bool, true, false, ◌&&◌}
use mathlib.Core.List.{List, [], ◌∷◌, ◌++◌, append_assoc, map}
use Prim.Native.Nat.{ℕ, suc, ◌+◌, ◌<◌}
use native.Mathlib.Numerals.{add-one}
use lib.ListN.{length, get_or}
use Rattle.std.specs.Prelude.{Option, None, Some}
use Rattle.std.specs.List.{filter_map, cons_option, enumerate_from, slice_get}
use Rattle.std.specs.Option.{option_map, unwrap_or}
use Rattle.std.proofs.lemmas.List.{map-append}
use Rattle.std.proofs.lemmas.Option.{slice_get-map, slice_get-get_or, unwrap_or-slice_get}
use Rattle.std.proofs.Math.ListN.{get_or-map}
use Rattle.spec.specs.Lists.{keep, gather, numbered, only_if}

module _ {A : Type 0} (p : A → Bool) where
  pub keep_append : (xs ys : List A) → keep p (xs ++ ys) ≡ keep p xs ++ keep p ys
  unfolding keep
  keep_append [] ys = refl
  keep_append (x ∷ xs) ys = go (p x) (keep_append xs ys)
    where
      go : (b : Bool) → keep p (xs ++ ys) ≡ keep p xs ++ keep p ys
          → elim b as (λ (c : Bool). List A) [ true ↦ x ∷ keep p (xs ++ ys) | false ↦ keep p (xs ++ ys) ]
          ≡ elim b as (λ (c : Bool). List A) [ true ↦ x ∷ keep p xs | false ↦ keep p xs ] ++ keep p ys
      go true e = ap (λ (l : List A). x ∷ l) e
      go false e = e

  -- what is kept of what was kept
  pub keep_keep : (q : A → Bool) (xs : List A) → keep p (keep q xs) ≡ keep (λ x. q x && p x) xs
  unfolding keep
  keep_keep q [] = refl
  keep_keep q (x ∷ xs) = go (q x) (keep_keep q xs)
    where
      go : (b : Bool) → keep p (keep q xs) ≡ keep (λ x. q x && p x) xs
          → keep p (elim b as (λ (c : Bool). List A) [ true ↦ x ∷ keep q xs | false ↦ keep q xs ])
          ≡ elim (b && p x) as (λ (c : Bool). List A) [ true ↦ x ∷ keep (λ x. q x && p x) xs | false ↦ keep (λ x. q x && p x) xs ]
      go true e = ap (λ (l : List A). elim (p x) as (λ (c : Bool). List A) [ true ↦ x ∷ l | false ↦ l ]) e
      go false e = e

  pub keep_map : {B : Type 0} (f : B → A) (xs : List B) → keep p (map f xs) ≡ map f (keep (λ x. p (f x)) xs)
  unfolding keep
  keep_map f [] = refl
  keep_map {B} f (x ∷ xs) = go (p (f x)) (keep_map f xs)
    where
      go : (b : Bool) → keep p (map f xs) ≡ map f (keep (λ x. p (f x)) xs)
          → elim b as (λ (c : Bool). List A) [ true ↦ f x ∷ keep p (map f xs) | false ↦ keep p (map f xs) ]
          ≡ map f (elim b as (λ (c : Bool). List B) [ true ↦ x ∷ keep (λ x. p (f x)) xs | false ↦ keep (λ x. p (f x)) xs ])
      go true e = ap (λ (l : List A). f x ∷ l) e
      go false e = e

  pub keep_gather : {B : Type 0} (f : B → List A) (xs : List B) → keep p (gather f xs) ≡ gather (λ x. keep p (f x)) xs
  unfolding gather
  keep_gather f [] = unfold keep in refl
  keep_gather f (x ∷ xs) = keep_append (f x) (gather f xs) ∙ ap (λ (l : List A). keep p (f x) ++ l) (keep_gather f xs)

  pub keep_cons : (x : A) (xs : List A) → keep p (x ∷ xs) ≡ only_if (p x) (x ∷ []) ++ keep p xs
  unfolding keep only_if
  keep_cons x xs = go (p x)
    where
      go : (b : Bool) → elim b as (λ (_ : Bool). List A) [ true ↦ x ∷ keep p xs | false ↦ keep p xs ] ≡ elim b as (λ (_ : Bool). List A) [ true ↦ x ∷ [] | false ↦ [] ] ++ keep p xs
      go true = refl
      go false = refl

module _ {A B : Type 0} where
  pub map_only : (f : A → B) (b : Bool) (xs : List A) → map f (only_if b xs) ≡ only_if b (map f xs)
  unfolding only_if
  map_only f true xs = refl
  map_only f false xs = refl

  pub gather_append : (f : A → List B) (xs ys : List A) → gather f (xs ++ ys) ≡ gather f xs ++ gather f ys
  unfolding gather
  gather_append f [] ys = refl
  gather_append f (x ∷ xs) ys = ap (λ (l : List B). f x ++ l) (gather_append f xs ys) ∙ sym (append_assoc (f x) (gather f xs) (gather f ys))

  -- one of each
  pub gather_each : (f : A → B) (xs : List A) → gather (λ x. f x ∷ []) xs ≡ map f xs
  unfolding gather
  gather_each f [] = refl
  gather_each f (x ∷ xs) = ap (λ (l : List B). f x ∷ l) (gather_each f xs)

-- ---- as the library's iterators have them

module _ {A B : Type 0} (p : A → Bool) (f : A → B) where
  -- f of what passes the test
  abbrev pub picked : A → Option B
  picked x = elim (p x) as (λ (_ : Bool). Option B) [ true ↦ Some (f x) | false ↦ None ]

  pub all_picked : (xs : List A) → filter_map picked xs ≡ map f (keep p xs)
  unfolding keep
  all_picked [] = refl
  all_picked (x ∷ xs) = go (p x) (all_picked xs)
    where
      go : (b : Bool) → filter_map picked xs ≡ map f (keep p xs)
          → cons_option (elim b as (λ (_ : Bool). Option B) [ true ↦ Some (f x) | false ↦ None ]) (filter_map picked xs)
          ≡ map f (elim b as (λ (_ : Bool). List A) [ true ↦ x ∷ keep p xs | false ↦ keep p xs ])
      go true e = ap (λ (l : List B). f x ∷ l) e
      go false e = e

  module _ (d : A) (xs : List A) (i : ℕ) where
    -- the one at i of them
    pub nth_picked : i < length (keep p xs) → slice_get (filter_map picked xs) i ≡ Some (f (get_or (keep p xs) i d))
    nth_picked l =
        ap (λ (ys : List B). slice_get ys i) (all_picked xs) ∙ slice_get-map f (keep p xs) i ∙ ap (option_map f) (slice_get-get_or (keep p xs) i d l)

    -- and what f says of the default, where there is none
    pub nth_picked_or : unwrap_or (slice_get (filter_map picked xs) i) (f d) ≡ f (get_or (keep p xs) i d)
    nth_picked_or =
        ap (λ (ys : List B). unwrap_or (slice_get ys i) (f d)) (all_picked xs) ∙ unwrap_or-slice_get (map f (keep p xs)) i (f d) ∙ get_or-map f (keep p xs) i d

pub numbered_is : {A : Type 0} (i : ℕ) (xs : List A) → enumerate_from i xs ≡ numbered i xs
unfolding numbered
numbered_is i [] = refl
numbered_is {A} i (x ∷ xs) = ap (λ (l : List (ℕ × A)). (i, x) ∷ l) (numbered_is (i + 1) xs ∙ ap (λ (j : ℕ). numbered j xs) (add-one i))

-- without their places
pub map_numbered : {A : Type 0} (i : ℕ) (xs : List A) → map (λ (n : ℕ × A). n.1) (numbered i xs) ≡ xs
unfolding numbered
map_numbered i [] = refl
map_numbered {A} i (x ∷ xs) = ap (λ (l : List A). x ∷ l) (map_numbered (suc i) xs)

pub map_gather : {A B C : Type 0} (h : B → C) (f : A → List B) (xs : List A) → map h (gather f xs) ≡ gather (λ x. map h (f x)) xs
unfolding gather
map_gather h f [] = refl
map_gather {C = C} h f (x ∷ xs) = map-append h (f x) (gather f xs) ∙ ap (λ (l : List C). map h (f x) ++ l) (map_gather h f xs)
