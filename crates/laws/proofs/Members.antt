-- Membership in lists that are gathered, kept, mapped and numbered.
-- Assumes nothing.
use mathlib.Core.Path.{◌≡◌, refl, sym, ap, ◌∙◌, subst}
use mathlib.Core.Logic.{◌⊎◌, inl, inr, ◌≢◌}
use mathlib.Core.Bool.{Bool, true, false, not, ◌||◌}
use mathlib.Core.List.Memᴰ
use mathlib.Core.List.{List, [], ◌∷◌, Memᴰ}
use Prim.Native.Nat.{ℕ, zero, suc, ◌+◌, ◌≤◌, ◌<◌}
use native.Mathlib.Nat.{add-zero, suc-add, add-suc, zero-add}
use native.Mathlib.Omega.{arith}
use lib.Dec.{T, T_not, eqb, eqb→eq, eqb_refl}
use lib.ListN.{length, drop}
use Rattle.spec.specs.Lists.{any, keep, gather, numbered, only_if, elem, span, ascending}
use Rattle.spec.specs.Relations.{At, here, next}
use Rattle.laws.proofs.Bools.{or_cases, or_l, or_r, decide}
use Rattle.laws.proofs.All.{All, of_members}

-- ---- a test for membership, and membership

pub all_elem : (P : ℕ → Type 0) (xs : List ℕ) (d : ℕ) → All P xs → T (elem d xs) → P d
unfolding elem any
all_elem P [] d h t = absurd t
all_elem P (x ∷ xs) d h t = go (or_cases (eqb d x) (any (eqb d) xs) t) (all_elem P xs d h.1)
  where
    go : T (eqb d x) ⊎ T (any (eqb d) xs) → (T (any (eqb d) xs) → P d) → P d
    go (inl u) ih = subst P (sym (eqb→eq d x u)) h.0
    go (inr u) ih = ih u

pub elem_mem : {d : ℕ} {xs : List ℕ} → Memᴰ d xs → T (elem d xs)
unfolding elem any
elem_mem {d} (Memᴰ.head {x} {xs} e) = or_l (eqb d x) (any (eqb d) xs) (subst (λ (y : ℕ). T (eqb d y)) e (eqb_refl d))
elem_mem {d} (Memᴰ.tail {x} {xs} m) = or_r (eqb d x) (any (eqb d) xs) (elem_mem m)

pub elem_span : (i n y : ℕ) → i ≤ y → y < i + n → T (elem y (span i n))
unfolding elem any span
elem_span i zero y h k = absurd (let z : suc y ≤ y = omega arith in go y z)
  where
    go : (y : ℕ) → suc y ≤ y → ⊥
    go y z = omega arith
elem_span i (suc n) y h k = go (decide (eqb y i)) (elem_span (suc i) n y)
  where
    ne : T (not (eqb y i)) → y ≡ i → ⊥
    ne u e = T_not (eqb y i) u (subst (λ (z : ℕ). T (eqb y z)) e (eqb_refl y))

    go : T (eqb y i) ⊎ T (not (eqb y i)) → (suc i ≤ y → y < suc i + n → T (any (eqb y) (span (suc i) n))) → T (eqb y i || any (eqb y) (span (suc i) n))
    go (inl u) ih = or_l (eqb y i) (any (eqb y) (span (suc i) n)) u
    go (inr u) ih = or_r (eqb y i) (any (eqb y) (span (suc i) n)) (ih (let q : y ≢ i = ne u in omega arith) (omega arith))

pub mem_elem : (d : ℕ) (xs : List ℕ) → T (elem d xs) → Memᴰ d xs
mem_elem d xs t = all_elem (λ e. Memᴰ e xs) xs d (of_members (λ e. Memᴰ e xs) xs (λ e m. m)) t

-- b stands in the part that f gives for an element
pub record Among {A B : Type 0} (f : A → List B) (xs : List A) (b : B) : Type 0 where
  pub source : A
  pub member : Memᴰ source xs
  pub part : Memᴰ b (f source)

module _ {A B : Type 0} (f : A → List B) where
  pub gather_mem : (xs : List A) (b : B) → Memᴰ b (gather f xs) → Among f xs b
  unfolding gather
  gather_mem [] b m = absurd (Memᴰ.not-nil m)
  gather_mem (x ∷ xs) b m = go (Memᴰ.append_cases (f x) m) (gather_mem xs b)
    where
      go : Memᴰ b (f x) ⊎ Memᴰ b (gather f xs) → (Memᴰ b (gather f xs) → Among f xs b) → Among f (x ∷ xs) b
      go (inl k) ih = record { source = x; member = Memᴰ.head refl; part = k }
      go (inr k) ih = let r = ih k in record { source = r.source; member = Memᴰ.tail r.member; part = r.part }

  pub mem_gather : {x : A} {b : B} {xs : List A} → Memᴰ x xs → Memᴰ b (f x) → Memᴰ b (gather f xs)
  unfolding gather
  mem_gather {b = b} (Memᴰ.head {x} {xs} e) k = Memᴰ.append_left (gather f xs) (subst (λ y. Memᴰ b (f y)) e k)
  mem_gather (Memᴰ.tail {x} {xs} m) k = Memᴰ.append_right (f x) (mem_gather m k)

module _ {A : Type 0} (p : A → Bool) where
  pub keep_mem : (xs : List A) (x : A) → Memᴰ x (keep p xs) → Memᴰ x xs × T (p x)
  unfolding keep
  keep_mem [] x m = absurd (Memᴰ.not-nil m)
  keep_mem (y ∷ xs) x m = go (p y) refl m (keep_mem xs x)
    where
      go : (b : Bool) → p y ≡ b → Memᴰ x (elim b as (λ (c : Bool). List A) [ true ↦ y ∷ keep p xs | false ↦ keep p xs ])
          → (Memᴰ x (keep p xs) → Memᴰ x xs × T (p x)) → Memᴰ x (y ∷ xs) × T (p x)
      go true e m ih = at (Memᴰ.cases_cons m)
        where
          at : (x ≡ y) ⊎ Memᴰ x (keep p xs) → Memᴰ x (y ∷ xs) × T (p x)
          at (inl q) = (Memᴰ.head q, subst (λ z. T (p z)) (sym q) (subst T (sym e) tt))
          at (inr k) = (Memᴰ.tail (ih k).0, (ih k).1)
      go false e m ih = (Memᴰ.tail (ih m).0, (ih m).1)

  pub mem_keep : {x : A} {xs : List A} → Memᴰ x xs → T (p x) → Memᴰ x (keep p xs)
  unfolding keep
  mem_keep {x = x} (Memᴰ.head {x = y} {xs = xs} e) t = go (p y) (subst (λ z. T (p z)) e t)
    where
      go : (b : Bool) → T b → Memᴰ x (elim b as (λ (c : Bool). List A) [ true ↦ y ∷ keep p xs | false ↦ keep p xs ])
      go true u = Memᴰ.head e
      go false u = absurd u
  mem_keep {x = x} (Memᴰ.tail {x = y} {xs = xs} m) t = go (p y) (mem_keep m t)
    where
      go : (b : Bool) → Memᴰ x (keep p xs) → Memᴰ x (elim b as (λ (c : Bool). List A) [ true ↦ y ∷ keep p xs | false ↦ keep p xs ])
      go true k = Memᴰ.tail k
      go false k = k

module _ {A : Type 0} where
  pub only_mem : (b : Bool) (xs : List A) {x : A} → Memᴰ x (only_if b xs) → T b × Memᴰ x xs
  unfolding only_if
  only_mem true xs m = (tt, m)
  only_mem false xs m = absurd (Memᴰ.not-nil m)

  pub mem_only : (b : Bool) (xs : List A) {x : A} → T b → Memᴰ x xs → Memᴰ x (only_if b xs)
  unfolding only_if
  mem_only true xs t m = m
  mem_only false xs t m = absurd t

  -- ---- an element's place

  pub at_in : {xs : List A} {k : ℕ} {x : A} → At xs k x → Memᴰ x xs
  at_in here = Memᴰ.head refl
  at_in (next a) = Memᴰ.tail (at_in a)

  pub in_at : {x : A} {xs : List A} → Memᴰ x xs → (k : ℕ) × At xs k x
  in_at {x} (Memᴰ.head {xs = xs} e) = (0, subst (λ (y : A). At (y ∷ xs) 0 x) e here)
  in_at (Memᴰ.tail m) = let r = in_at m in (suc r.0, next r.1)

  pub at_low : {xs : List A} {k : ℕ} {x : A} → At xs k x → k < length xs
  at_low here = omega arith
  at_low (next a) = let h = at_low a in omega arith

  -- what is left from a place on begins with what stands there
  pub at_drop : (xs : List A) (k : ℕ) {y : A} {ys : List A} → y ∷ ys ≡ drop k xs → At xs k y
  at_drop [] zero e = absurd (cc)
  at_drop [] (suc k) e = absurd (cc)
  at_drop (x ∷ xs) zero {y} e = subst (At (x ∷ xs) 0) (let q : x ≡ y = cc in q) here
  at_drop (x ∷ xs) (suc k) e = next (at_drop xs k e)

  -- ---- numbered elements

  pub record Placed (i : ℕ) (xs : List A) (n : ℕ × A) : Type 0 where
    pub number : ℕ
    pub is : n.0 ≡ i + number
    pub at : At xs number n.1

  pub numbered_at : (i : ℕ) (xs : List A) (n : ℕ × A) → Memᴰ n (numbered i xs) → Placed i xs n
  unfolding numbered
  numbered_at i [] n m = absurd (Memᴰ.not-nil m)
  numbered_at i (x ∷ xs) n m = go (Memᴰ.cases_cons m) (numbered_at (suc i) xs n)
    where
      go : (n ≡ (i, x)) ⊎ Memᴰ n (numbered (suc i) xs) → (Memᴰ n (numbered (suc i) xs) → Placed (suc i) xs n) → Placed i (x ∷ xs) n
      go (inl e) ih =
          record { number = 0; is = ap (λ (p : ℕ × A). p.0) e ∙ sym (add-zero i); at = subst (λ (y : A). At (x ∷ xs) 0 y) (sym (ap (λ (p : ℕ × A). p.1) e)) here }
      go (inr k) ih = let r = ih k in record { number = suc r.number; is = r.is ∙ suc-add i r.number ∙ sym (add-suc i r.number); at = next r.at }

  pub at_numbered : {xs : List A} {k : ℕ} {x : A} → At xs k x → (i : ℕ) → Memᴰ (i + k, x) (numbered i xs)
  unfolding numbered
  at_numbered (here {x}) i = Memᴰ.head (ap (λ (k : ℕ). (k, x)) (add-zero i))
  at_numbered (next {x} {xs = xs} {k = k} a) i =
      Memᴰ.tail (subst (λ (j : ℕ). Memᴰ (j, x) (numbered (suc i) xs)) (suc-add i k ∙ sym (add-suc i k)) (at_numbered a (suc i)))

-- ---- a test that passes somewhere

pub any_mem : {A : Type 0} (p : A → Bool) (xs : List A) → T (any p xs) → (x : A) × Memᴰ x xs × T (p x)
unfolding any
any_mem p [] t = absurd t
any_mem {A} p (x ∷ xs) t = go (or_cases (p x) (any p xs) t) (any_mem p xs)
  where
    go : T (p x) ⊎ T (any p xs) → (T (any p xs) → (y : A) × Memᴰ y xs × T (p y)) → (y : A) × Memᴰ y (x ∷ xs) × T (p y)
    go (inl u) ih = (x, Memᴰ.head refl, u)
    go (inr u) ih = let r = ih u in (r.0, Memᴰ.tail r.1, r.2)

pub mem_any : {A : Type 0} (p : A → Bool) {x : A} {xs : List A} → Memᴰ x xs → T (p x) → T (any p xs)
unfolding any
mem_any p (Memᴰ.head {x = y} {xs} e) t = or_l (p y) (any p xs) (subst (λ z. T (p z)) e t)
mem_any p (Memᴰ.tail {x = y} {xs} m) t = or_r (p y) (any p xs) (mem_any p m t)

-- ---- ascending numbers

pub ascending_mem : (n : ℕ) (xs : List ℕ) (k : ℕ) → Memᴰ k (ascending n xs) → Memᴰ k xs
unfolding ascending
ascending_mem n xs k m = mem_elem k xs (keep_mem (λ i. elem i xs) (span 0 n) k m).1

pub mem_ascending : (n : ℕ) (xs : List ℕ) {k : ℕ} → k < n → Memᴰ k xs → Memᴰ k (ascending n xs)
unfolding ascending
mem_ascending n xs {k} h m =
    mem_keep (λ i. elem i xs) (mem_elem k (span 0 n) (elem_span 0 n k Prim.Native.Nat.zero-le (omega (arith, zero-add n)))) (elem_mem m)
