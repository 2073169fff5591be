-- The closure of a set of markers, bit by bit: what the computed tests over the table say at each entry.
-- Assumes nothing.
use mathlib.Core.Path.{◌≡◌, sym, ap, ◌∙◌, subst}
use mathlib.Core.Logic.{◌⊎◌, inl, inr, ◌≢◌}
use mathlib.Core.Bool.{Bool, not, ◌||◌}
use mathlib.Core.List.{List, [], ◌∷◌, map, Memᴰ}
use Prim.Native.Nat.{ℕ, ◌/◌, ◌%◌, ◌^◌, ◌<◌}
use native.Mathlib.Nat.{zero-add, zero-div}
use native.Mathlib.Omega.{arith}
use lib.Bits.{bit_or, or_shr, or_mod, or_lt}
use lib.Dec.{T, T_not, eqb, eqb→eq, lit<}
use Rattle.spec.specs.Lists.{all, keep, elem, span, reach}
use Rattle.spec.specs.Record.{bit}
use Rattle.spec.specs.Markers.{markers, gives, implies, is_closed, contains, union, union_all, closure, sets, singles}
use Rattle.spec.specs.Evaluate.{evaluation}
use Rattle.spec.proofs.Table.{entries_closed, entries_contain, entries_union}
use Rattle.laws.proofs.Bools.{decide, or_cases, or_l, or_r, eq→eqb, T-implies}
use Rattle.laws.proofs.All.{All, Any, all_kept, at_member, all_true, all_span}
use Rattle.theory.proofs.Reach.{Steps}
use Rattle.theory.proofs.Complete.{reach_sound}

-- ---- bits of a union

half_cases : (n : ℕ) → (n % 2 ≡ 0) ⊎ (n % 2 ≡ 1)
half_cases n = go (decide (eqb (n % 2) 0))
  where
    go : T (eqb (n % 2) 0) ⊎ T (not (eqb (n % 2) 0)) → (n % 2 ≡ 0) ⊎ (n % 2 ≡ 1)
    go (inl t) = inl (eqb→eq (n % 2) 0 t)
    go (inr t) = inr (let ne : n % 2 ≢ 0 = λ e. T_not (eqb (n % 2) 0) t (eq→eqb e) in omega arith)

or_digits : (x y : ℕ) → (x ≡ 0) ⊎ (x ≡ 1) → (y ≡ 0) ⊎ (y ≡ 1) → eqb (bit_or x y) 1 ≡ (eqb x 1 || eqb y 1)
or_digits x y (inl p) (inl q) = rw (p, q)
or_digits x y (inl p) (inr q) = rw (p, q)
or_digits x y (inr p) (inl q) = rw (p, q)
or_digits x y (inr p) (inr q) = rw (p, q)

pub bit_union : (k a b : ℕ) → bit k (union a b) ≡ (bit k a || bit k b)
unfolding bit union
bit_union k a b =
    ap (λ (x : ℕ). eqb (x % 2) 1) (or_shr a b k)
    ∙ ap (λ (x : ℕ). eqb x 1) (or_mod (a / 2 ^ k) (b / 2 ^ k) 1)
    ∙ or_digits (a / 2 ^ k % 2) (b / 2 ^ k % 2) (half_cases (a / 2 ^ k)) (half_cases (b / 2 ^ k))

pub bit_zero : (k : ℕ) → T (not (bit k 0))
unfolding bit
bit_zero k = subst (λ (x : ℕ). T (not (eqb (x % 2) 1))) (sym (zero-div (2 ^ k))) tt

pub union_in : (k : ℕ) (ms : List ℕ) → T (bit k (union_all ms)) → Any (λ m. T (bit k m)) ms
unfolding union_all
union_in k [] t = absurd (T_not (bit k 0) (bit_zero k) t)
union_in k (m ∷ ms) t = go (or_cases (bit k m) (bit k (union_all ms)) (subst T (bit_union k m (union_all ms)) t)) (union_in k ms)
  where
    go : T (bit k m) ⊎ T (bit k (union_all ms)) → (T (bit k (union_all ms)) → Any (λ m. T (bit k m)) ms) → T (bit k m) ⊎ Any (λ m. T (bit k m)) ms
    go (inl u) ih = inl u
    go (inr u) ih = inr (ih u)

pub in_union : (k : ℕ) (ms : List ℕ) → Any (λ m. T (bit k m)) ms → T (bit k (union_all ms))
unfolding union_all
in_union k [] a = absurd a
in_union k (m ∷ ms) (inl t) = subst T (sym (bit_union k m (union_all ms))) (or_l (bit k m) (bit k (union_all ms)) t)
in_union k (m ∷ ms) (inr a) = subst T (sym (bit_union k m (union_all ms))) (or_r (bit k m) (bit k (union_all ms)) (in_union k ms a))

pub union_all_low : (ms : List ℕ) → All (λ m. m < 256) ms → union_all ms < 256
unfolding union_all union
union_all_low [] h = lit< tt
union_all_low (m ∷ ms) h = or_lt 8 m (union_all ms) h.0 (union_all_low ms h.1)

-- ---- the tests at each entry

contains_bit : (s m k : ℕ) → k < 8 → T (contains s m) → T (bit k m) → T (bit k s)
unfolding contains markers
contains_bit s m k h c t =
    T-implies (bit k m) (bit k s) (subst (λ (i : ℕ). T (implies (bit i m) (bit i s))) (zero-add k) (all_span (λ i. implies (bit i m) (bit i s)) 0 8 c k h)) t

-- a test that passes at every set
at_set : (p : ℕ → Bool) → T (all p sets) → (m : ℕ) → m < 256 → T (p m)
unfolding sets
at_set p t m h = subst (λ (i : ℕ). T (p i)) (zero-add m) (all_span p 0 256 t m h)

-- the closure holds its set
pub closure_holds : (m k : ℕ) → m < 256 → k < 8 → T (bit k m) → T (bit k (closure m))
closure_holds m k h hk t = contains_bit (closure m) m k hk (at_set (λ m. contains (closure m) m) entries_contain m h) t

-- it holds what its markers give
pub closure_closed : (m j k : ℕ) → m < 256 → Memᴰ (j, k) gives → T (bit j (closure m)) → T (bit k (closure m))
unfolding is_closed
closure_closed m j k h g t =
    T-implies (bit j (closure m)) (bit k (closure m))
    (at_member (λ (p : ℕ × ℕ). T (implies (bit p.0 (closure m)) (bit p.1 (closure m)))) gives
    (all_true (λ (p : ℕ × ℕ). implies (bit p.0 (closure m)) (bit p.1 (closure m))) gives (at_set (λ m. is_closed (closure m)) entries_closed m h)) g) t

-- ---- and nothing else: each of its markers is given by one of the set's, in steps

unfoldable pub given_by : ℕ → List ℕ
given_by j = map (λ (p : ℕ × ℕ). p.1) (keep (λ (p : ℕ × ℕ). eqb p.0 j) gives)

-- the closure of a single marker holds only what chains of "gives" reach
single : ℕ → ℕ → Bool
single j k = implies (bit k (closure (2 ^ j))) (elem k (reach given_by j))

singles_pass : T (all (λ j. all (single j) markers) markers)
unfolding single given_by evaluation
singles_pass = tt

single_steps : (j k : ℕ) → j < 8 → k < 8 → T (bit k (closure (2 ^ j))) → Steps given_by j k
unfolding markers single
single_steps j k hj hk t =
    reach_sound given_by j k
    (T-implies (bit k (closure (2 ^ j))) (elem k (reach given_by j))
    (subst (λ (i : ℕ). T (single j i)) (zero-add k)
    (all_span (single j) 0 8 (subst (λ (i : ℕ). T (all (single i) (span 0 8))) (zero-add j) (all_span (λ j. all (single j) markers) 0 8 singles_pass j hj)) k hk)) t)

pub record Given (m k : ℕ) : Type 0 where
  pub giver : ℕ
  pub marker : giver < 8
  pub held : T (bit giver m)
  pub steps : Steps given_by giver k

closures_in : (m k : ℕ) → k < 8 → (js : List ℕ) → All (λ j. (j < 8) × T (bit j m)) js → Any (λ s. T (bit k s)) (map closure (map (λ j. 2 ^ j) js)) → Given m k
closures_in m k hk [] h a = absurd a
closures_in m k hk (j ∷ js) h (inl t) = record { giver = j; marker = h.0.0; held = h.0.1; steps = single_steps j k h.0.0 hk t }
closures_in m k hk (j ∷ js) h (inr a) = closures_in m k hk js h.1 a

markers_low : All (λ j. j < 8) markers
unfolding markers span
markers_low = (lit< tt, (lit< tt, (lit< tt, (lit< tt, (lit< tt, (lit< tt, (lit< tt, (lit< tt, tt))))))))

pub closure_given : (m k : ℕ) → m < 256 → k < 8 → T (bit k (closure m)) → Given m k
unfolding singles
closure_given m k h hk t =
    let js : List ℕ = keep (λ j. bit j m) markers in
    let e : closure m ≡ union_all (map closure (map (λ j. 2 ^ j) js)) =
    eqb→eq (closure m) (union_all (map closure (singles m))) (at_set (λ m. eqb (closure m) (union_all (map closure (singles m)))) entries_union m h) in
    closures_in m k hk js (all_kept (λ j. j < 8) (λ j. bit j m) markers markers_low) (union_in k (map closure (map (λ j. 2 ^ j) js)) (subst (λ (s : ℕ). T (bit k s)) e t))
