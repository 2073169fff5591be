-- Lists in an order: an element stands in a relation to each that comes after it. A list of at most one element is in any order.
-- Assumes nothing.
use mathlib.Core.Path.{◌≡◌, refl, sym, ap, ◌∙◌, subst}
use mathlib.Core.List.Memᴰ
use mathlib.Core.Logic.{◌⊎◌, inl, inr}
use mathlib.Core.Bool.{Bool, true, false}
use mathlib.Core.List.{List, [], ◌∷◌, ◌++◌, append-nil, map, Memᴰ}
use Prim.Native.Nat.{ℕ, zero, suc, ◌<◌}
use native.Mathlib.Nat.{le_of_suc-le-suc, not-suc-le-zero}
use native.Mathlib.Omega.{arith}
use lib.ListN.{take}
use Rattle.spec.specs.Lists.{keep, gather, numbered, only_if, span, ascending, elem}
use Rattle.spec.specs.Relations.{At, here, next}
use Rattle.laws.proofs.All.{All, all_append, all_keep, all_map, of_members, at_member, weaken}
use Rattle.laws.proofs.Members.{at_in, gather_mem}

module _ {A : Type 0} (R : A → A → Type 0) where
  abbrev pub Sorted : List A → Type 0
  Sorted [] = Unit {0}
  Sorted (x ∷ xs) = All (R x) xs × Sorted xs

  pub sorted_at : {xs : List A} {i j : ℕ} {x y : A} → At xs i x → At xs j y → i < j → Sorted xs → R x y
  sorted_at here here h s = absurd (not-suc-le-zero h)
  sorted_at (here {x} {xs}) (next b) h s = at_member (R x) xs s.0 (at_in b)
  sorted_at (next a) here h s = absurd (not-suc-le-zero h)
  sorted_at (next a) (next b) h s = sorted_at a b (le_of_suc-le-suc h) s.1

  -- of two elements one comes first, or they are the same
  pub sorted_two : {x y : A} (xs : List A) → Sorted xs → Memᴰ x xs → Memᴰ y xs → (x ≡ y) ⊎ (R x y ⊎ R y x)
  sorted_two [] s m n = absurd (Memᴰ.not-nil m)
  sorted_two {x} {y} (z ∷ xs) s m n = go (Memᴰ.cases_cons m) (Memᴰ.cases_cons n) (sorted_two xs s.1)
    where
      after : {u v : A} → u ≡ z → Memᴰ v xs → R u v
      after {v = v} e k = subst (λ (w : A). R w v) (sym e) (at_member (R z) xs s.0 k)

      go : (x ≡ z) ⊎ Memᴰ x xs → (y ≡ z) ⊎ Memᴰ y xs → (Memᴰ x xs → Memᴰ y xs → (x ≡ y) ⊎ (R x y ⊎ R y x)) → (x ≡ y) ⊎ (R x y ⊎ R y x)
      go (inl e) (inl f) ih = inl (e ∙ sym f)
      go (inl e) (inr l) ih = inr (inl (after e l))
      go (inr k) (inl f) ih = inr (inr (after f k))
      go (inr k) (inr l) ih = ih k l

  pub sorted_append : (xs ys : List A) → Sorted xs → Sorted ys → ((x y : A) → Memᴰ x xs → Memᴰ y ys → R x y) → Sorted (xs ++ ys)
  sorted_append [] ys s t across = t
  sorted_append (x ∷ xs) ys s t across =
      (all_append (R x) xs ys s.0 (of_members (R x) ys (λ y m. across x y (Memᴰ.head refl) m)), sorted_append xs ys s.1 t (λ z y m n. across z y (Memᴰ.tail m) n))

  pub sorted_keep : (p : A → Bool) (xs : List A) → Sorted xs → Sorted (keep p xs)
  unfolding keep
  sorted_keep p [] s = tt
  sorted_keep p (x ∷ xs) s = go (p x) (sorted_keep p xs s.1)
    where
      go : (b : Bool) → Sorted (keep p xs) → Sorted (elim b [ true ↦ x ∷ keep p xs | false ↦ keep p xs ])
      go true t = (all_keep (R x) p xs s.0, t)
      go false t = t

-- ---- from one order to another

pub sorted_weaken : {A : Type 0} (R S : A → A → Type 0) → ((x y : A) → R x y → S x y) → (xs : List A) → Sorted R xs → Sorted S xs
sorted_weaken R S h [] s = tt
sorted_weaken R S h (x ∷ xs) s = (weaken (R x) (S x) (h x) xs s.0, sorted_weaken R S h xs s.1)

pub sorted_map : {A B : Type 0} (R : A → A → Type 0) (S : B → B → Type 0) (f : A → B) → ((x y : A) → R x y → S (f x) (f y)) → (xs : List A) → Sorted R xs → Sorted S (map f xs)
sorted_map R S f h [] s = tt
sorted_map R S f h (x ∷ xs) s = (all_map (R x) (S (f x)) f (h x) xs s.0, sorted_map R S f h xs s.1)

pub sorted_gather : {A B : Type 0} (R : A → A → Type 0) (S : B → B → Type 0) (f : A → List B) → ((x : A) → Sorted S (f x))
    → (xs : List A) → ((x y : A) (a b : B) → Memᴰ x xs → Memᴰ y xs → R x y → Memᴰ a (f x) → Memᴰ b (f y) → S a b) → Sorted R xs → Sorted S (gather f xs)
unfolding gather
sorted_gather R S f each [] across s = tt
sorted_gather R S f each (x ∷ xs) across s =
    sorted_append S (f x) (gather f xs) (each x) (sorted_gather R S f each xs (λ y z a b m n. across y z a b (Memᴰ.tail m) (Memᴰ.tail n)) s.1)
    (λ a b m n. let q = gather_mem f xs b n in across x q.source a b (Memᴰ.head refl) (Memᴰ.tail q.member) (at_member (R x) xs s.0 q.member) m q.part)

-- ---- numbers that ascend

span_above : (m i n : ℕ) → m < i → All (λ k. m < k) (span i n)
unfolding span
span_above m i zero h = tt
span_above m i (suc n) h = (h, span_above m (suc i) n (omega arith))

sorted_span : (i n : ℕ) → Sorted (λ j k. j < k) (span i n)
unfolding span
sorted_span i zero = tt
sorted_span i (suc n) = (span_above i (suc i) n (omega arith), sorted_span (suc i) n)

pub sorted_ascending : (n : ℕ) (xs : List ℕ) → Sorted (λ j k. j < k) (ascending n xs)
unfolding ascending
sorted_ascending n xs = sorted_keep (λ j k. j < k) (λ k. elem k xs) (span 0 n) (sorted_span 0 n)

module _ {A : Type 0} where
  pub numbered_above : (m i : ℕ) (xs : List A) → m < i → All (λ n. m < n.0) (numbered i xs)
  unfolding numbered
  numbered_above m i [] h = tt
  numbered_above m i (x ∷ xs) h = (h, numbered_above m (suc i) xs (omega arith))

  pub sorted_numbered : (i : ℕ) (xs : List A) → Sorted (λ m n. m.0 < n.0) (numbered i xs)
  unfolding numbered
  sorted_numbered i [] = tt
  sorted_numbered i (x ∷ xs) = (numbered_above i (suc i) xs (omega arith), sorted_numbered (suc i) xs)

-- ---- at most one element

pub data Lone {A : Type 0} : List A → Type 0 where
  empty : Lone []
  single : {x : A} → Lone (x ∷ [])

pub lone_sorted : {A : Type 0} (R : A → A → Type 0) {xs : List A} → Lone xs → Sorted R xs
lone_sorted R empty = tt
lone_sorted R single = (tt, tt)

module _ {A : Type 0} where
  pub lone_first : (xs : List A) → Lone (take 1 xs)
  lone_first [] = empty
  lone_first (x ∷ xs) = single

  pub lone_if : (b : Bool) {xs : List A} → Lone xs → Lone (only_if b xs)
  unfolding only_if
  lone_if true l = l
  lone_if false l = empty

module _ {A B : Type 0} where
  pub lone_map : (f : A → B) {xs : List A} → Lone xs → Lone (map f xs)
  lone_map f empty = empty
  lone_map f single = single

  pub lone_gather : (f : A → List B) → ((x : A) → Lone (f x)) → {xs : List A} → Lone xs → Lone (gather f xs)
  unfolding gather
  lone_gather f each empty = empty
  lone_gather f each (single {x}) = subst Lone (sym (append-nil (f x))) (each x)

  -- what such a list gathers is what its one element gives
  pub lone_at : (f : A → List B) {xs : List A} {k : ℕ} {b : B} → Lone xs → At (gather f xs) k b → (x : A) × Memᴰ x xs × At (f x) k b
  unfolding gather
  lone_at f empty a = elim a [ ]
  lone_at f {k = k} {b = b} (single {x}) a = (x, Memᴰ.head refl, subst (λ (l : List B). At l k b) (append-nil (f x)) a)

  pub at_lone : (f : A → List B) {x : A} {xs : List A} {k : ℕ} {b : B} → Lone xs → Memᴰ x xs → At (f x) k b → At (gather f xs) k b
  unfolding gather
  at_lone f empty m a = absurd (Memᴰ.not-nil m)
  at_lone f {x = x} {k = k} {b = b} (single {x = y}) m a =
      subst (λ (l : List B). At l k b) (ap f (Memᴰ.eq_of_singleton m) ∙ sym (append-nil (f y))) a
