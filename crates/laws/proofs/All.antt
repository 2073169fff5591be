-- A statement at every element of a list, and what depends on a list's elements alone.
-- Assumes nothing.
use mathlib.Core.Path.{◌≡◌, refl, sym, ap, ap₂, ◌∙◌, subst}
use mathlib.Core.Bool.{Bool, true, false, not, ◌&&◌, ◌||◌}
use mathlib.Core.List.Memᴰ
use mathlib.Core.List.{List, [], ◌∷◌, ◌++◌, map, Memᴰ}
use mathlib.Core.Logic.{◌⊎◌, inl, inr}
use Prim.Native.Nat.{ℕ, zero, suc, ◌+◌, ◌<◌}
use native.Mathlib.Nat.{add-zero, add-suc, suc-add, le_of_suc-le-suc, not-suc-le-zero}
use native.Mathlib.Omega.{arith}
use lib.Dec.{T}
use lib.ListN.{length, get_or, take, drop, set}
use Rattle.std.specs.Coded.{×_prop, Unit-prop}
use Rattle.spec.specs.Lists.{any, all, concat, keep, gather, numbered, span}
use Rattle.laws.proofs.Bools.{and_l, and_r, t_and, not_or, not_or_l, not_or_r}

module _ {A : Type 0} (P : A → Type 0) where
  abbrev pub All : List A → Type 0
  All [] = Unit {0}
  All (x ∷ xs) = P x × All xs

  abbrev pub Any : List A → Type 0
  Any [] = ⊥
  Any (x ∷ xs) = P x ⊎ Any xs

  pub all_prop : ((x : A) → IsProp (P x)) → (xs : List A) → IsProp (All xs)
  all_prop each [] = Unit-prop
  all_prop each (x ∷ xs) = ×_prop (each x) (all_prop each xs)

  pub all_append : (xs ys : List A) → All xs → All ys → All (xs ++ ys)
  all_append [] ys h k = k
  all_append (x ∷ xs) ys h k = (h.0, all_append xs ys h.1 k)

  pub all_left : (xs ys : List A) → All (xs ++ ys) → All xs
  all_left [] ys h = tt
  all_left (x ∷ xs) ys h = (h.0, all_left xs ys h.1)

  pub all_right : (xs ys : List A) → All (xs ++ ys) → All ys
  all_right [] ys h = h
  all_right (x ∷ xs) ys h = all_right xs ys h.1

  pub all_keep : (p : A → Bool) (xs : List A) → All xs → All (keep p xs)
  unfolding keep
  all_keep p [] h = tt
  all_keep p (x ∷ xs) h = go (p x) (all_keep p xs h.1)
    where
      go : (b : Bool) → All (keep p xs) → All (elim b [ true ↦ x ∷ keep p xs | false ↦ keep p xs ])
      go true k = (h.0, k)
      go false k = k

  pub all_take : (n : ℕ) (xs : List A) → All xs → All (take n xs)
  all_take zero xs h = tt
  all_take (suc n) [] h = tt
  all_take (suc n) (x ∷ xs) h = (h.0, all_take n xs h.1)

  pub all_drop : (n : ℕ) (xs : List A) → All xs → All (drop n xs)
  all_drop zero xs h = h
  all_drop (suc n) [] h = tt
  all_drop (suc n) (x ∷ xs) h = all_drop n xs h.1

  pub all_if : (b : Bool) (xs ys : List A) → All xs → All ys → All (elim b as (λ (c : Bool). List A) [ true ↦ xs | false ↦ ys ])
  all_if true xs ys h k = h
  all_if false xs ys h k = k

  pub of_members : (xs : List A) → ((x : A) → Memᴰ x xs → P x) → All xs
  of_members [] h = tt
  of_members (x ∷ xs) h = (h x (Memᴰ.head refl), of_members xs (λ y m. h y (Memᴰ.tail m)))

  pub at_member : {x : A} (xs : List A) → All xs → Memᴰ x xs → P x
  at_member [] h m = absurd (mathlib.Core.List.Memᴰ.not-nil m)
  at_member {x} (y ∷ xs) h m = go (Memᴰ.cases_cons m) (at_member xs h.1)
    where
      go : (x ≡ y) ⊎ Memᴰ x xs → (Memᴰ x xs → P x) → P x
      go (inl e) ih = subst P (sym e) h.0
      go (inr k) ih = ih k

  -- past the end a list reads as the default
  pub all_get : (d : A) (xs : List A) → All xs → P d → (i : ℕ) → P (get_or xs i d)
  all_get d [] h k i = k
  all_get d (x ∷ xs) h k zero = h.0
  all_get d (x ∷ xs) h k (suc i) = all_get d xs h.1 k i

  pub all_at : (d : A) (xs : List A) → All xs → (i : ℕ) → i < length xs → P (get_or xs i d)
  all_at d [] h i k = absurd (not-suc-le-zero k)
  all_at d (x ∷ xs) h zero k = h.0
  all_at d (x ∷ xs) h (suc i) k = all_at d xs h.1 i (le_of_suc-le-suc k)

pub weaken : {A : Type 0} (P Q : A → Type 0) → ((x : A) → P x → Q x) → (xs : List A) → All P xs → All Q xs
weaken P Q f [] h = tt
weaken P Q f (x ∷ xs) h = (f x h.0, weaken P Q f xs h.1)

-- from two statements a third
pub weaken₂ : {A : Type 0} (P Q R : A → Type 0) → ((x : A) → P x → Q x → R x) → (xs : List A) → All P xs → All Q xs → All R xs
weaken₂ P Q R f [] h k = tt
weaken₂ P Q R f (x ∷ xs) h k = (f x h.0 k.0, weaken₂ P Q R f xs h.1 k.1)

module _ {A : Type 0} (p : A → Bool) (x : A) (xs : List A) where
  pub keep_yes : p x ≡ true → keep p (x ∷ xs) ≡ x ∷ keep p xs
  unfolding keep
  keep_yes e = rw (e, keep)

  pub keep_no : p x ≡ false → keep p (x ∷ xs) ≡ keep p xs
  unfolding keep
  keep_no e = rw (e, keep)

-- a passed test, beside what held before
module _ {A : Type 0} (P : A → Type 0) (p : A → Bool) where
  pub all_kept : (xs : List A) → All P xs → All (λ x. P x × T (p x)) (keep p xs)
  unfolding keep
  all_kept [] h = tt
  all_kept (x ∷ xs) h = go (p x) (λ t. t) (all_kept xs h.1)
    where
      go : (b : Bool) → (T b → T (p x)) → All (λ x. P x × T (p x)) (keep p xs)
          → All (λ x. P x × T (p x)) (elim b [ true ↦ x ∷ keep p xs | false ↦ keep p xs ])
      go true f k = ((h.0, f tt), k)
      go false f k = k

module _ {A B : Type 0} (P : A → Type 0) (Q : B → Type 0) where
  pub all_gather : (f : A → List B) → ((x : A) → P x → All Q (f x)) → (xs : List A) → All P xs → All Q (gather f xs)
  unfolding gather
  all_gather f h [] k = tt
  all_gather f h (x ∷ xs) k = all_append Q (f x) (gather f xs) (h x k.0) (all_gather f h xs k.1)

  pub all_map : (f : A → B) → ((x : A) → P x → Q (f x)) → (xs : List A) → All P xs → All Q (map f xs)
  all_map f h [] k = tt
  all_map f h (x ∷ xs) k = (h x k.0, all_map f h xs k.1)

-- what holds of all that f gives holds of all that is gathered, and of all that is mapped
module _ {A B : Type 0} (Q : B → Type 0) where
  pub every_gather : (f : A → List B) → ((x : A) → All Q (f x)) → (xs : List A) → All Q (gather f xs)
  every_gather f h xs = all_gather (λ x. Unit {0}) Q f (λ x _. h x) xs (of_members (λ x. Unit {0}) xs (λ x _. tt))

  pub every_map : (f : A → B) → ((x : A) → Q (f x)) → (xs : List A) → All Q (map f xs)
  every_map f h xs = all_map (λ x. Unit {0}) Q f (λ x _. h x) xs (of_members (λ x. Unit {0}) xs (λ x _. tt))

-- what holds of a gathered list holds of each part
pub all_parts : {A B : Type 0} (Q : B → Type 0) (f : A → List B) (xs : List A) → All Q (gather f xs) → All (λ x. All Q (f x)) xs
unfolding gather
all_parts Q f [] h = tt
all_parts Q f (x ∷ xs) h = (all_left Q (f x) (gather f xs) h, all_parts Q f xs (all_right Q (f x) (gather f xs) h))

-- ---- lists end to end

module _ {A : Type 0} (P : A → Type 0) where
  pub all_concat : (xs : List (List A)) → All (All P) xs → All P (concat xs)
  unfolding concat
  all_concat [] h = tt
  all_concat (x ∷ xs) h = all_append P x (concat xs) h.0 (all_concat xs h.1)

  pub each_concat : (xs : List (List A)) → All P (concat xs) → All (All P) xs
  unfolding concat
  each_concat [] h = tt
  each_concat (x ∷ xs) h = (all_left P x (concat xs) h, each_concat xs (all_right P x (concat xs) h))

-- ---- functions that agree on a list's elements

module _ {A : Type 0} (P : A → Type 0) where
  module _ {B : Type 0} where
    pub map_cong : (f f' : A → B) → ((x : A) → P x → f x ≡ f' x) → (xs : List A) → All P xs → map f xs ≡ map f' xs
    map_cong f f' h [] k = refl
    map_cong f f' h (x ∷ xs) k = ap₂ (λ (y : B) (ys : List B). y ∷ ys) (h x k.0) (map_cong f f' h xs k.1)

    pub gather_cong : (f f' : A → List B) → ((x : A) → P x → f x ≡ f' x) → (xs : List A) → All P xs → gather f xs ≡ gather f' xs
    unfolding gather
    gather_cong f f' h [] k = refl
    gather_cong f f' h (x ∷ xs) k = ap₂ (λ (y : List B) (ys : List B). y ++ ys) (h x k.0) (gather_cong f f' h xs k.1)

  pub any_cong : (p p' : A → Bool) → ((x : A) → P x → p x ≡ p' x) → (xs : List A) → All P xs → any p xs ≡ any p' xs
  unfolding any
  any_cong p p' h [] k = refl
  any_cong p p' h (x ∷ xs) k = ap₂ (λ (a b : Bool). a || b) (h x k.0) (any_cong p p' h xs k.1)

  pub all_cong : (p p' : A → Bool) → ((x : A) → P x → p x ≡ p' x) → (xs : List A) → All P xs → all p xs ≡ all p' xs
  unfolding all
  all_cong p p' h [] k = refl
  all_cong p p' h (x ∷ xs) k = ap₂ (λ (a b : Bool). a && b) (h x k.0) (all_cong p p' h xs k.1)

  pub keep_cong : (p p' : A → Bool) → ((x : A) → P x → p x ≡ p' x) → (xs : List A) → All P xs → keep p xs ≡ keep p' xs
  unfolding keep
  keep_cong p p' h [] k = refl
  keep_cong p p' h (x ∷ xs) k =
      ap₂ (λ (b : Bool) (l : List A). elim b as (λ (c : Bool). List A) [ true ↦ x ∷ l | false ↦ l ]) (h x k.0) (keep_cong p p' h xs k.1)

-- ---- a test that passes at every element
pub all_true : {A : Type 0} (p : A → Bool) (xs : List A) → T (all p xs) → All (λ x. T (p x)) xs
unfolding all
all_true p [] t = tt
all_true p (x ∷ xs) t = (and_l (p x) (all p xs) t, all_true p xs (and_r (p x) (all p xs) t))

pub true_all : {A : Type 0} (p : A → Bool) (xs : List A) → All (λ x. T (p x)) xs → T (all p xs)
unfolding all
true_all p [] h = tt
true_all p (x ∷ xs) h = t_and (p x) (all p xs) h.0 (true_all p xs h.1)

-- ---- a test that fails at every element
pub not_any : {A : Type 0} (p : A → Bool) (xs : List A) → T (not (any p xs)) → All (λ x. T (not (p x))) xs
unfolding any
not_any p [] t = tt
not_any p (x ∷ xs) t = (not_or_l (p x) (any p xs) t, not_any p xs (not_or_r (p x) (any p xs) t))

pub none_any : {A : Type 0} (p : A → Bool) (xs : List A) → All (λ x. T (not (p x))) xs → T (not (any p xs))
unfolding any
none_any p [] h = tt
none_any p (x ∷ xs) h = not_or (p x) (any p xs) h.0 (none_any p xs h.1)

-- ---- a span of numbers
pub at_span : (P : ℕ → Type 0) (i n : ℕ) → All P (span i n) → (k : ℕ) → k < n → P (i + k)
unfolding span
at_span P i zero h k l = absurd (not-suc-le-zero l)
at_span P i (suc n) h zero l = subst P (sym (add-zero i)) h.0
at_span P i (suc n) h (suc k) l = subst P (suc-add i k ∙ sym (add-suc i k)) (at_span P (suc i) n h.1 k (le_of_suc-le-suc l))

pub below_span : (i n : ℕ) → All (λ k. k < i + n) (span i n)
unfolding span
below_span i zero = tt
below_span i (suc n) = (omega arith, subst (λ (m : ℕ). All (λ k. k < m) (span (suc i) n)) (suc-add i n ∙ sym (add-suc i n)) (below_span (suc i) n))

-- a test computed over it holds at each of them
pub all_span : (p : ℕ → Bool) (i n : ℕ) → T (all p (span i n)) → (k : ℕ) → k < n → T (p (i + k))
all_span p i n t = at_span (λ k. T (p k)) i n (all_true p (span i n) t)

-- ---- numbered elements
pub all_numbered : {A : Type 0} (P : A → Type 0) (i : ℕ) (xs : List A) → All P xs → All (λ n. P n.1) (numbered i xs)
unfolding numbered
all_numbered P i [] h = tt
all_numbered P i (x ∷ xs) h = (h.0, all_numbered P (suc i) xs h.1)

-- ---- functions that agree on the elements gather the same from the same list
pub gather_same : {A B : Type 0} (P : A → Type 0) (f f' : A → List B) → ((x : A) → P x → f x ≡ f' x) → {xs xs' : List A} → xs ≡ xs' → All P xs → gather f xs ≡ gather f' xs'
gather_same P f f' h {xs} e k = gather_cong P f f' h xs k ∙ ap (gather f') e

-- ---- one element replaced
pub all_set : {A : Type 0} (P : A → Type 0) (xs : List A) (i : ℕ) (a : A) → All P xs → P a → All P (set xs i a)
all_set P [] i a h k = tt
all_set P (x ∷ xs) zero a h k = (k, h.1)
all_set P (x ∷ xs) (suc i) a h k = (h.0, all_set P xs i a h.1 k)
