-- How long a record of each kind may be: as `spec` has it, by kind, and as a table.
-- Assumes nothing.
use mathlib.Core.Path.{◌≡◌, refl}
use mathlib.Core.Bool.{Bool, true, false, ◌&&◌}
use mathlib.Core.List.{List, [], ◌∷◌}
use Prim.Native.Nat.{ℕ, zero, suc, ◌≤◌, ◌<◌}
use native.Mathlib.Nat.{not-suc-le-zero, le_of_suc-le-suc}
use native.Mathlib.Omega.{arith}
use lib.Dec.{eqb, leb, eqb→eq, leb→le, le→leb}
use lib.ListN.{length, get_or, get_or-eq_default}
use borrow.Author.Tests.{leb-true, leb-false, le-leb, lt-leb}
use Rattle.spec.specs.Record.{kind, by_kind, with_name, length_fits}
use Rattle.laws.proofs.Bools.{t_same, t_and, and_l, and_r, true_t, eq→eqb}
use Rattle.records.specs.Records.{size_fits}

-- ---- numbers below a bound, one by one

abbrev pub Each : (ℕ → Type 0) → ℕ → Type 0
Each P zero = Unit {0}
Each P (suc n) = P 0 × Each (λ k. P (suc k)) n

pub each : (P : ℕ → Type 0) (n : ℕ) → Each P n → (k : ℕ) → k < n → P k
each P zero h k l = absurd (not-suc-le-zero l)
each P (suc n) h zero l = h.0
each P (suc n) h (suc k) l = each (λ k. P (suc k)) n h.1 k (le_of_suc-le-suc l)

-- ---- the table

abbrev pub shortest : List ℕ
shortest = 1 ∷ 13 ∷ 6 ∷ 11 ∷ 9 ∷ 8 ∷ 6 ∷ 7 ∷ 8 ∷ []

abbrev pub longest : List ℕ
longest = 0 ∷ 112 ∷ 6 ∷ 110 ∷ 108 ∷ 8 ∷ 6 ∷ 106 ∷ 8 ∷ []

pub length_fits_lem : (r : List ℕ) → length_fits r ≡ size_fits (kind r) (length r)
unfolding length_fits by_kind with_name size_fits
length_fits_lem r = refl

-- one length alone, and none
exactly : (m n : ℕ) → eqb n m ≡ (leb m n && leb n m)
exactly m n =
    t_same (eqb n m) (leb m n && leb n m)
    (λ t. let e : n ≡ m = eqb→eq n m t in t_and (leb m n) (leb n m) (le→leb m n (omega arith)) (le→leb n m (omega arith)))
    (λ t. let p : m ≤ n = leb→le m n (and_l (leb m n) (leb n m) t) in let q : n ≤ m = leb→le n m (and_r (leb m n) (leb n m) t) in eq→eqb {m = n} {n = m} (omega arith))

never : (n : ℕ) → false ≡ (leb 1 n && leb n 0)
never zero = refl
never (suc n) = rw (le-leb 1 (suc n) (omega arith), lt-leb (suc n) 0 (omega arith))

pub size_row : (k n : ℕ) → k < 9 → size_fits k n ≡ (leb (get_or shortest k 0) n && leb n (get_or longest k 0))
unfolding size_fits
size_row k n h =
    each (λ j. size_fits j n ≡ (leb (get_or shortest j 0) n && leb n (get_or longest j 0))) 9
    (never n, (refl, (exactly 6 n, (refl, (refl, (exactly 8 n, (exactly 6 n, (refl, (exactly 8 n, tt))))))))) k h

pub size_known : (k n : ℕ) → size_fits k n ≡ true → k < 9
unfolding size_fits
size_known k n e = go (leb 9 k) refl
  where
    go : (b : Bool) → leb 9 k ≡ b → k < 9
    go true h = absurd (true_t (rw (get_or-eq_default _ _ (leb-true 9 k h)) at e))
    go false h = leb-false 9 k h

-- the length of a record that fits its kind j
pub at_least : (j : ℕ) {k n : ℕ} → k ≡ j → size_fits k n ≡ true → get_or shortest j 0 ≤ n
at_least j {k} {n} e h =
    leb→le _ n (and_l (leb (get_or shortest j 0) n) (leb n (get_or longest j 0)) (true_t (rw (size_row k n (size_known k n h), e) at h)))

-- ---- each kind has at least six bytes, and none is 0

pub no_kind : (n : ℕ) → size_fits 0 n ≡ true → ⊥
unfolding size_fits
no_kind n e = true_t e

pub six_long : (k : ℕ) → k < 9 → (k ≡ 0 → ⊥) → 6 ≤ get_or shortest k 0
six_long k h n =
    each (λ j. (j ≡ 0 → ⊥) → 6 ≤ get_or shortest j 0) 9
    (λ z. absurd (z refl), (λ z. omega arith, (λ z. omega arith, (λ z. omega arith, (λ z. omega arith, (λ z. omega arith, (λ z. omega arith, (λ z. omega arith, (λ z. omega arith, tt))))))))) k h n

-- the length of a record that fits its kind
pub kind_sixes : (k n : ℕ) → size_fits k n ≡ true → 6 ≤ n
kind_sixes k n h =
    let l = six_long k (size_known k n h) (λ q. no_kind n (rw q at h)) in
    let m = at_least k refl h in
    omega arith
