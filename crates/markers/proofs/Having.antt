-- A marker that is asked of a set as the set of that marker alone.
-- Assumes nothing.
use mathlib.Core.Path.{◌≡◌}
use mathlib.Core.Bool.{Bool}
use Prim.Native.Nat.{ℕ, ◌/◌, ◌%◌, ◌^◌}
use lib.Dec.{eqb}
use Rattle.spec.specs.Record.{bit}

pub has_is : (k set : ℕ) {s : ℕ} → s ≡ 2 ^ k → {b : Bool} → b ≡ eqb (set / s % 2) 1 → b ≡ bit k set
unfolding bit
has_is k set es eb = rw (eb, es)
