-- Counting by a test along the numbers below n is counting those that a statement holds of, where the test decides the statement.
-- Assumes nothing.
use mathlib.Core.Path.{sym, subst}
use mathlib.Core.Logic.{◌↔◌}
use mathlib.Core.Bool.{Bool, true, false}
use Prim.Native.Nat.{ℕ, zero, suc, ◌<◌}
use native.Mathlib.Omega.{arith}
use lib.Dec.{T}
use Rattle.spec.specs.Lists.{keep, count, span}
use Rattle.laws.proofs.Count.{step, count_more}
use Rattle.history.specs.Demand3.{Counted, empty, counted, skipped}

module _ (p : ℕ → Bool) (P : ℕ → Type 0) where
  one_more : (n k : ℕ) (b : Bool) → T b ↔ P n → Counted P n k → Counted P (suc n) (step b k)
  one_more n k true h c = counted c (h.0 tt)
  one_more n k false h c = skipped c h.1

  pub counted_by : (n : ℕ) → ((i : ℕ) → i < n → T (p i) ↔ P i) → Counted P n (count p (span 0 n))
  counted_by zero h = unfold count keep span in empty
  counted_by (suc n) h =
      subst (Counted P (suc n)) (sym (count_more p n)) (one_more n (count p (span 0 n)) (p n) (h n (omega arith)) (counted_by n (λ i k. h i (omega arith))))
