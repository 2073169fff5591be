-- Each class draws once, in rising or in falling order.
-- Assumes nothing.
use mathlib.Core.Path.{◌≡◌, refl, subst}
use mathlib.Core.Bool.{Bool, true, false}
use mathlib.Core.List.{List}
use Prim.Native.Nat.{ℕ, ◌≤◌, ◌<◌}
use native.Mathlib.Omega.{arith}
use Rattle.lanes.specs.Lanes.{Run, SettledAt, AllSettled, swept_of}
use Rattle.lanes.proofs.Runs.{run_only}

-- ---- the order: each class has its turn

place_back : (up : Bool) (n m : ℕ) → m < n → swept_of up n (swept_of up n m) ≡ m
unfolding swept_of
place_back true n m h = refl
place_back false n m h = omega arith

pub place_low : (up : Bool) (n m : ℕ) → m < n → swept_of up n m < n
unfolding swept_of
place_low true n m h = h
place_low false n m h = omega arith

-- ---- the sweep: the first i classes of the order have drawn

pub record SweepAt (step : ℕ → List ℕ) (outer : ℕ → ℕ) (n lanes : ℕ) (up : Bool) (s₀ s : List ℕ) (a : Bool) (i : ℕ) : Type 0 where
  pub run : Run step outer n lanes (λ s. (j : ℕ) → j < i → SettledAt step outer n lanes (swept_of up n j) s) s₀ s a

module _ {step : ℕ → List ℕ} {outer : ℕ → ℕ} {n lanes : ℕ} {up : Bool} {s₀ s : List ℕ} {a : Bool} {i : ℕ} (f : SweepAt step outer n lanes up s₀ s a i) where
  pub sweep_end : n ≤ i → Run step outer n lanes (AllSettled step outer n lanes) s₀ s a
  unfolding AllSettled
  sweep_end h =
      run_only (AllSettled step outer n lanes) f.run
      (λ p m l.
      let b = place_low up n m l in
      subst (λ (x : ℕ). SettledAt step outer n lanes x s₀) (place_back up n m l) (p (swept_of up n m) (omega arith)))
