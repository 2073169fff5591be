-- Counting along a row: faulted verdicts, marked classes.
-- Assumes nothing.
use mathlib.Core.Path.{◌≡◌, refl, sym, ap, ap₂, ◌∙◌, subst}
use mathlib.Core.Bool.{Bool, true, false, not}
use mathlib.Core.List.{List, [], ◌∷◌}
use Prim.Native.Nat.{ℕ, zero, suc, ◌+◌, ◌*◌, ◌/◌, ◌≤◌, min}
use native.Mathlib.Nat.{zero-add, add-zero, suc-add, add-suc, not-suc-le-zero, le_of_suc-le-suc}
use native.Mathlib.Omega.{arith}
use lib.Dec.{eqb}
use lib.ListN.{length, get_or, take, drop}
use lib.Seq.{take-nil, get_or-drop}
use Rattle.std.specs.List.{filter}
use Rattle.std.specs.Simd.{first_chunks}
use Rattle.std.proofs.lemmas.List.{take_min}
use Rattle.spec.specs.Lists.{count, keep, span}
use Rattle.spec.specs.Verdicts.{verdict_bytes, flat_lines, flat_at}
use Rattle.flat.specs.Row.{faulted_in, marked_in}

-- ---- lines

abbrev pub is_faulted : List ℕ → Bool
is_faulted line = not (eqb (get_or line 0 0) 0)

abbrev pub faulted_at : List ℕ → ℕ → Bool
faulted_at row i = not (eqb (flat_at row i).rule 0)

front : (xs : List ℕ) → get_or (take verdict_bytes xs) 0 0 ≡ get_or xs 0 0
front [] = refl
front (x ∷ xs) = refl

-- along a part of the row whose first line is number k
lines_from : (all xs : List ℕ) (k m n : ℕ) → ((i : ℕ) → get_or all (verdict_bytes * k + i) 0 ≡ get_or xs i 0) → n ≤ m
    → length (filter is_faulted (take n (first_chunks verdict_bytes m xs))) ≡ count (faulted_at all) (span k n)
unfolding count span keep flat_at
lines_from all xs k m zero h l = refl
lines_from all xs k zero (suc n) h l = absurd (not-suc-le-zero l)
lines_from all xs k (suc m) (suc n) h l =
    go (is_faulted (take verdict_bytes xs)) refl
    (lines_from all (drop verdict_bytes xs) (suc k) m n (λ i. ap (λ (j : ℕ). get_or all j 0) (omega arith) ∙ h (verdict_bytes + i) ∙ sym (get_or-drop verdict_bytes xs i 0)) (le_of_suc-le-suc l))
  where
    here : faulted_at all k ≡ is_faulted (take verdict_bytes xs)
    here = ap (λ (x : ℕ). not (eqb x 0)) (ap (λ (j : ℕ). get_or all j 0) (omega arith) ∙ h 0 ∙ sym (front xs))

    go : (b : Bool) → is_faulted (take verdict_bytes xs) ≡ b
        → length (filter is_faulted (take n (first_chunks verdict_bytes m (drop verdict_bytes xs)))) ≡ length (keep (faulted_at all) (span (suc k) n))
        → length (filter is_faulted (take verdict_bytes xs ∷ take n (first_chunks verdict_bytes m (drop verdict_bytes xs)))) ≡ length (keep (faulted_at all) (k ∷ span (suc k) n))
    go true e f = rw (here, e, keep) (ap suc f)
    go false e f = rw (here, e, keep) f

-- the lines are the row's, and there are as many of them as it has
pub faulted_is : (row : List ℕ) (n : ℕ) {lines : List (List ℕ)} → lines ≡ first_chunks verdict_bytes (length row / verdict_bytes) row → length lines ≡ length row / verdict_bytes
    → length (filter is_faulted (take n lines)) ≡ faulted_in row (min n (flat_lines row))
unfolding faulted_in flat_lines
faulted_is row n {lines} e l =
    ap (λ (xs : List (List ℕ)). length (filter is_faulted xs)) (sym (take_min n lines) ∙ ap₂ (λ (k : ℕ) (xs : List (List ℕ)). take (min n k) xs) l e)
    ∙ lines_from row row 0 (length row / verdict_bytes) (min n (length row / verdict_bytes)) (λ i. ap (λ (j : ℕ). get_or row j 0) (omega arith)) (omega arith)

-- ---- marks

mark_here : (all : List Bool) (k : ℕ) {m : Bool} → get_or all (k + 0) false ≡ m → get_or all k false ≡ m
mark_here all k e = ap (λ (j : ℕ). get_or all j false) (sym (add-zero k)) ∙ e

mark_later : (all : List Bool) (k i : ℕ) {m : Bool} → get_or all (k + suc i) false ≡ m → get_or all (suc k + i) false ≡ m
mark_later all k i e = ap (λ (j : ℕ). get_or all j false) (suc-add k i ∙ sym (add-suc k i)) ∙ e

-- along a part of the marks whose first is number k; past their end there is none
marks_from : (all xs : List Bool) (k n : ℕ) → ((i : ℕ) → get_or all (k + i) false ≡ get_or xs i false)
    → length (filter (λ m. m) (take n xs)) ≡ count (λ c. get_or all c false) (span k n)
unfolding count span keep
marks_from all xs k zero h = refl
marks_from all [] k (suc n) h =
    rw (mark_here all k (h 0), keep) (ap (λ (xs : List Bool). length (filter (λ m. m) xs)) (sym (take-nil n)) ∙ marks_from all [] (suc k) n (λ i. mark_later all k i (h (suc i))))
marks_from all (x ∷ xs) k (suc n) h =
    subst (λ (y : Bool). length (filter (λ m. m) (y ∷ take n xs)) ≡ length (keep (λ c. get_or all c false) (k ∷ span (suc k) n))) (mark_here all k (h 0))
    (go (get_or all k false) refl (marks_from all xs (suc k) n (λ i. mark_later all k i (h (suc i)))))
  where
    go : (b : Bool) → get_or all k false ≡ b → length (filter (λ m. m) (take n xs)) ≡ length (keep (λ c. get_or all c false) (span (suc k) n))
        → length (filter (λ m. m) (get_or all k false ∷ take n xs)) ≡ length (keep (λ c. get_or all c false) (k ∷ span (suc k) n))
    go true e f = rw (e, keep) (ap suc f)
    go false e f = rw (e, keep) f

pub marked_is : (marks : List Bool) (n : ℕ) → length (filter (λ m. m) (take n marks)) ≡ marked_in marks n
unfolding marked_in
marked_is marks n = marks_from marks marks 0 n (λ i. ap (λ (j : ℕ). get_or marks j false) (zero-add i))
