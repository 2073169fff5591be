-- A list with zeros up to a place.
-- Assumes nothing.
use mathlib.Core.Path.{◌≡◌, sym, ap, ◌∙◌}
use mathlib.Core.List.{List, ◌++◌, append_assoc}
use Prim.Native.Nat.{ℕ, ◌+◌, ◌-◌, ◌<◌}
use native.Mathlib.Decide.{dec_lt}
use native.Mathlib.Omega.{arith}
use lib.ListN.{drop, replicate, length-replicate, replicate-append-replicate}
use lib.Seq.{drop_at, drop-append-add, drop-drop}

-- what stands past a place, where zeros stand up to the used length: it may lie beyond them or among them
pub past_zeros : (u : List ℕ) (used n : ℕ) → drop (used + n) (replicate used 0 ++ drop used u) ≡ drop (used + n) u
past_zeros u used n =
    ap (λ (k : ℕ). drop (k + n) (replicate used 0 ++ drop used u)) (sym (length-replicate {A = ℕ} used 0))
    ∙ drop-append-add (replicate used 0) (drop used u) n
    ∙ drop-drop n used u

pub among_zeros : (u : List ℕ) (end z : ℕ) → drop end (replicate (end + z) 0 ++ drop (end + z) u) ≡ replicate z 0 ++ drop (end + z) u
among_zeros u end z =
    ap (λ (l : List ℕ). drop end (l ++ drop (end + z) u)) (sym (replicate-append-replicate {A = ℕ} end z 0))
    ∙ ap (drop end) (append_assoc (replicate end 0) (replicate z 0) (drop (end + z) u))
    ∙ drop_at (replicate end 0) (replicate z 0 ++ drop (end + z) u) end (length-replicate {A = ℕ} end 0)

pub past_sheet : (u : List ℕ) (end used : ℕ) → drop end (replicate used 0 ++ drop used u) ≡ replicate (used - end) 0 ++ drop (end + (used - end)) u
past_sheet u end used = go (dec_lt used end)
  where
    go : Dec (used < end) → drop end (replicate used 0 ++ drop used u) ≡ replicate (used - end) 0 ++ drop (end + (used - end)) u
    go (yes h) =
        let z : used - end ≡ 0 = omega arith in
        let a : end + 0 ≡ end = omega arith in
        let e : used + (end - used) ≡ end = omega arith in
        rw (z, a) (rw e at (past_zeros u used (end - used)))
    go (no h) = let e : end + (used - end) ≡ used = omega arith in rw e (rw e at (among_zeros u end (used - end)))
