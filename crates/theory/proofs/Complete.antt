-- The set that grows by steps holds all that chains of steps reach, where the steps stay below 256.
-- Assumes nothing.
use mathlib.Core.Path.{◌≡◌, refl, sym, subst}
use mathlib.Core.Logic.{◌⊎◌, inl, inr}
use mathlib.Core.Bool.{Bool, true, false, not, ◌||◌}
use mathlib.Core.List.{List, [], ◌∷◌, ◌++◌, cons≢nil, Memᴰ}
use Prim.Native.Nat.{ℕ, zero, suc, ◌≤◌, ◌<◌, zero-le, suc-le-suc}
use native.Mathlib.Nat.{not-suc-le-zero, le_refl, le_trans, zero-add}
use native.Mathlib.Omega.{arith}
use lib.Dec.{T, eqb, eqb→eq, eqb_refl}
use lib.ListN.{length}
use Rattle.spec.specs.Lists.{any, keep, count, gather, elem, span, fresh, rounds, reach}
use Rattle.laws.proofs.Members.{all_elem, elem_mem, elem_span}
use Rattle.laws.proofs.All.{All, all_append, all_parts, of_members}
use Rattle.theory.proofs.Reach.{fresh_in, reach_in, Steps, here, onward}
use Rattle.laws.proofs.Bools.{or_cases, or_l, or_r, decide, not_mono, not_not, not_or_r}

-- ---- membership

In : List ℕ → ℕ → Type 0
In s e = T (elem e s)

all_mem : (P : ℕ → Type 0) {d : ℕ} {xs : List ℕ} → All P xs → Memᴰ d xs → P d
all_mem P {d} {xs} h m = all_elem P xs d h (elem_mem m)

elem_left : (d : ℕ) (xs ys : List ℕ) → T (elem d xs) → T (elem d (xs ++ ys))
unfolding elem any
elem_left d [] ys t = absurd t
elem_left d (x ∷ xs) ys t = go (or_cases (eqb d x) (any (eqb d) xs) t) (elem_left d xs ys)
  where
    go : T (eqb d x) ⊎ T (any (eqb d) xs) → (T (any (eqb d) xs) → T (any (eqb d) (xs ++ ys))) → T (eqb d x || any (eqb d) (xs ++ ys))
    go (inl u) ih = or_l (eqb d x) (any (eqb d) (xs ++ ys)) u
    go (inr u) ih = or_r (eqb d x) (any (eqb d) (xs ++ ys)) (ih u)

elem_seam : (d : ℕ) (xs ys : List ℕ) → T (elem d (xs ++ (d ∷ ys)))
unfolding elem any
elem_seam d [] ys = or_l (eqb d d) (any (eqb d) ys) (eqb_refl d)
elem_seam d (x ∷ xs) ys = or_r (eqb d x) (any (eqb d) (xs ++ (d ∷ ys))) (elem_seam d xs ys)

-- ---- what a round adds

fresh_nil : (seen xs : List ℕ) → fresh seen xs ≡ [] → All (In seen) xs
unfolding fresh In
fresh_nil seen [] h = tt
fresh_nil seen (x ∷ xs) h = go (elem x seen) refl h (fresh_nil seen xs)
  where
    go : (b : Bool) → elem x seen ≡ b → ◌≡◌ {A = List ℕ} (elim b as (λ (c : Bool). List ℕ) [ true ↦ fresh seen xs | false ↦ x ∷ fresh (x ∷ seen) xs ]) []
        → (fresh seen xs ≡ [] → All (In seen) xs) → T (elem x seen) × All (In seen) xs
    go true e h ih = (subst T (sym e) tt, ih h)
    go false e h ih = absurd (cons≢nil h)

Out : List ℕ → ℕ → Type 0
Out s e = T (not (elem e s))

all_weaken : (P Q : ℕ → Type 0) → ((x : ℕ) → P x → Q x) → (xs : List ℕ) → All P xs → All Q xs
all_weaken P Q f [] h = tt
all_weaken P Q f (x ∷ xs) h = (f x h.0, all_weaken P Q f xs h.1)

fresh_out : (seen xs : List ℕ) → All (Out seen) (fresh seen xs)
unfolding fresh Out elem any
fresh_out seen [] = tt
fresh_out seen (x ∷ xs) = go (elem x seen) refl (fresh_out seen xs) (fresh_out (x ∷ seen) xs)
  where
    go : (b : Bool) → elem x seen ≡ b → All (Out seen) (fresh seen xs) → All (Out (x ∷ seen)) (fresh (x ∷ seen) xs)
        → All (Out seen) (elim b as (λ (c : Bool). List ℕ) [ true ↦ fresh seen xs | false ↦ x ∷ fresh (x ∷ seen) xs ])
    go true e h k = h
    go false e h k = (
      subst (λ (b : Bool). T (not b)) (sym e) tt,
      all_weaken (Out (x ∷ seen)) (Out seen) (λ y o. not_or_r (eqb y x) (any (eqb y) seen) o) (fresh (x ∷ seen) xs) k,
    )

-- ---- how many numbers are left

abbrev cons_if : Bool → ℕ → List ℕ → List ℕ
cons_if b x l = elim b [ true ↦ x ∷ l | false ↦ l ]

keep_step : (p q : Bool) (x : ℕ) (a b : List ℕ) → (T p → T q) → length a ≤ length b → length (cons_if p x a) ≤ length (cons_if q x b)
keep_step true true x a b f h = suc-le-suc h
keep_step true false x a b f h = absurd (f tt)
keep_step false true x a b f h = omega arith
keep_step false false x a b f h = h

keep_step_lt : (p q : Bool) (x : ℕ) (a b : List ℕ) → (T p → T q) → length a < length b → length (cons_if p x a) < length (cons_if q x b)
keep_step_lt true true x a b f h = suc-le-suc h
keep_step_lt true false x a b f h = absurd (f tt)
keep_step_lt false true x a b f h = omega arith
keep_step_lt false false x a b f h = h

keep_here : (p q : Bool) (x : ℕ) (a b : List ℕ) → T (not p) → T q → length a ≤ length b → length (cons_if p x a) < length (cons_if q x b)
keep_here true q x a b t u h = absurd t
keep_here false true x a b t u h = suc-le-suc h
keep_here false false x a b t u h = absurd u

module _ (p q : ℕ → Bool) (f : (k : ℕ) → T (p k) → T (q k)) where
  count_le : (xs : List ℕ) → count p xs ≤ count q xs
  unfolding count keep
  count_le [] = le_refl 0
  count_le (x ∷ xs) = keep_step (p x) (q x) x (keep p xs) (keep q xs) (f x) (count_le xs)

  count_lt : (y : ℕ) → T (not (p y)) → T (q y) → (xs : List ℕ) → T (elem y xs) → count p xs < count q xs
  unfolding count keep elem any
  count_lt y np qy [] t = absurd t
  count_lt y np qy (x ∷ xs) t = go (or_cases (eqb y x) (any (eqb y) xs) t) (count_lt y np qy xs)
    where
      go : T (eqb y x) ⊎ T (any (eqb y) xs) → (T (any (eqb y) xs) → length (keep p xs) < length (keep q xs))
          → length (cons_if (p x) x (keep p xs)) < length (cons_if (q x) x (keep q xs))
      go (inl u) ih =
          let e : y ≡ x = eqb→eq y x u in
          keep_here (p x) (q x) x (keep p xs) (keep q xs) (subst (λ (z : ℕ). T (not (p z))) e np) (subst (λ (z : ℕ). T (q z)) e qy) (count_le xs)
      go (inr u) ih = keep_step_lt (p x) (q x) x (keep p xs) (keep q xs) (f x) (ih u)

left : List ℕ → ℕ
left seen = count (λ k. not (elem k seen)) (span 0 256)

left_drops : (seen : List ℕ) (y : ℕ) (ys : List ℕ) → Out seen y → y < 256 → left (seen ++ (y ∷ ys)) < left seen
unfolding left Out
left_drops seen y ys o h =
    count_lt (λ k. not (elem k (seen ++ (y ∷ ys)))) (λ k. not (elem k seen)) (λ k t. not_mono (elem k seen) (elem k (seen ++ (y ∷ ys))) (elem_left k seen (y ∷ ys)) t)
    y (not_not (elem y (seen ++ (y ∷ ys))) (elem_seam y seen ys)) o (span 0 256) (elem_span 0 256 y zero-le (omega (arith, zero-add 256)))

left_none : (seen : List ℕ) (y : ℕ) → left seen ≤ 0 → y < 256 → In seen y
unfolding left In
left_none seen y z h = go (decide (elem y seen))
  where
    go : T (elem y seen) ⊎ T (not (elem y seen)) → T (elem y seen)
    go (inl t) = t
    go (inr o) =
        absurd (not-suc-le-zero (le_trans
        (count_lt (λ k. false) (λ k. not (elem k seen)) (λ k t. absurd t) y tt o (span 0 256) (elem_span 0 256 y zero-le (omega (arith, zero-add 256)))) (le_trans z zero-le)))

span_256 : count (λ (k : ℕ). true) (span 0 256) ≤ 256
unfolding count keep span
span_256 = le_refl 256

-- ---- the rounds end in a closed set

module _ (step : ℕ → List ℕ) (bound : (d : ℕ) → All (λ e. e < 256) (step d)) where
  Closed : List ℕ → Type 0
  Closed s = All (In s) (gather step s)

  bound_all : (s : List ℕ) → All (λ e. e < 256) (gather step s)
  unfolding gather
  bound_all [] = tt
  bound_all (x ∷ xs) = all_append (λ e. e < 256) (step x) (gather step xs) (bound x) (bound_all xs)

  rounds_closed : (n : ℕ) (seen : List ℕ) → left seen ≤ n → Closed (rounds step n seen)
  unfolding rounds Closed
  rounds_closed zero seen h = all_weaken (λ e. e < 256) (In seen) (λ e k. left_none seen e h k) (gather step seen) (bound_all seen)
  rounds_closed (suc n) seen h = go (fresh seen (gather step seen)) refl (rounds_closed n)
    where
      go : (l : List ℕ) → fresh seen (gather step seen) ≡ l → ((s : List ℕ) → left s ≤ n → Closed (rounds step n s))
          → Closed (elim l as (λ (k : List ℕ). List ℕ) [ [] ↦ seen | x ∷ xs ↦ rounds step n (seen ++ (x ∷ xs)) ])
      go [] e ih = fresh_nil seen (gather step seen) e
      go (y ∷ ys) e ih =
          let o : All (Out seen) (y ∷ ys) = subst (All (Out seen)) e (fresh_out seen (gather step seen)) in
          let b : All (λ e. e < 256) (y ∷ ys) = subst (All (λ e. e < 256)) e (fresh_in (λ e. e < 256) seen (gather step seen) (bound_all seen)) in
          ih (seen ++ (y ∷ ys)) (omega (arith, left_drops seen y ys o.0 b.0))

  rounds_keep : (n : ℕ) (seen : List ℕ) (d : ℕ) → In seen d → In (rounds step n seen) d
  unfolding rounds In
  rounds_keep zero seen d h = h
  rounds_keep (suc n) seen d h = go (fresh seen (gather step seen)) (rounds_keep n)
    where
      go : (l : List ℕ) → ((s : List ℕ) (d : ℕ) → T (elem d s) → T (elem d (rounds step n s)))
          → T (elem d (elim l as (λ (k : List ℕ). List ℕ) [ [] ↦ seen | x ∷ xs ↦ rounds step n (seen ++ (x ∷ xs)) ]))
      go [] ih = h
      go (y ∷ ys) ih = ih (seen ++ (y ∷ ys)) d (elem_left d seen (y ∷ ys) h)

  left_bound : (seen : List ℕ) → left seen ≤ 256
  unfolding left
  left_bound seen = le_trans (count_le (λ k. not (elem k seen)) (λ k. true) (λ k t. tt) (span 0 256)) span_256

  reach_closed : (c : ℕ) → Closed (reach step c)
  unfolding reach
  reach_closed c = rounds_closed 256 (c ∷ []) (left_bound (c ∷ []))

  reach_start : (c : ℕ) → In (reach step c) c
  unfolding reach In
  reach_start c = rounds_keep 256 (c ∷ []) c (elem_seam c [] [])

-- ---- the computed set and the chains

pub reach_sound : (step : ℕ → List ℕ) (c d : ℕ) → T (elem d (reach step c)) → Steps step c d
reach_sound step c d t =
    all_elem (Steps step c) (reach step c) d (reach_in (Steps step c) step (λ k p. of_members (Steps step c) (step k) (λ e m. onward p m)) c here) t

module _ (step : ℕ → List ℕ) (bound : (d : ℕ) → All (λ e. e < 256) (step d)) where
  pub reach_complete : {c d : ℕ} → Steps step c d → T (elem d (reach step c))
  unfolding Closed In
  reach_complete {c} here = reach_start step bound c
  reach_complete {c} (onward {d} {e} p m) =
      all_mem (In (reach step c))
      (all_elem (λ k. All (In (reach step c)) (step k)) (reach step c) d (all_parts (In (reach step c)) step (reach step c) (reach_closed step bound c)) (reach_complete p))
      m
