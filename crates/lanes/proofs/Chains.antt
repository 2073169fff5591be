-- Chains of steps: the entry's owner fits.
-- Assumes nothing.
use mathlib.Core.List.{List}
use Prim.Native.Nat.{ℕ}
use Rattle.lanes.specs.Lanes.{OwnerFits, Draws, own, via}

pub draws_fit : {step : ℕ → List ℕ} {outer : ℕ → ℕ} {n : ℕ} {seed : ℕ → ℕ} {y m : ℕ} → Draws step outer n seed y m → OwnerFits outer y m
draws_fit (own e f) = f
draws_fit (via f e l d) = f
