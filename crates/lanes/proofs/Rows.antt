-- What one write changes in a row.
-- Assumes nothing.
use mathlib.Core.Path.{◌≡◌, sym, ◌∙◌}
use mathlib.Core.Bool.{Bool, true, false}
use mathlib.Core.List.{List, [], ◌∷◌}
use mathlib.Core.Logic.{◌⊎◌, inl, inr}
use Prim.Native.Nat.{ℕ, zero, suc, ◌+◌, ◌<◌}
use native.Mathlib.Nat.{not-suc-le-zero, le_of_suc-le-suc}
use native.Mathlib.Decide.{ℕ_discrete}
use native.Mathlib.Omega.{arith}
use lib.ListN.{length, get_or, set}
use lib.Seq.{get_or-set_same, get_or-set_other}
use Rattle.lanes.specs.Lanes.{sum_of}

-- ---- a mark is set

pub marked_by : (s : List Bool) (i x : ℕ) → get_or (set s i true) x false ≡ true → (x ≡ i) ⊎ (get_or s x false ≡ true)
marked_by s i x h = go (ℕ_discrete x i)
  where
    go : Dec (x ≡ i) → (x ≡ i) ⊎ (get_or s x false ≡ true)
    go (yes q) = inl q
    go (no q) = inr (sym (get_or-set_other s i x true false q) ∙ h)

pub marked_still : (s : List Bool) (i x : ℕ) → i < length s → (x ≡ i) ⊎ (get_or s x false ≡ true) → get_or (set s i true) x false ≡ true
marked_still s i x l h = go (ℕ_discrete x i) h
  where
    go : Dec (x ≡ i) → (x ≡ i) ⊎ (get_or s x false ≡ true) → get_or (set s i true) x false ≡ true
    go (yes q) h = rw q (get_or-set_same s i true false l)
    go (no q) (inl e) = absurd (q e)
    go (no q) (inr e) = get_or-set_other s i x true false q ∙ e

-- ---- an entry is written

pub sum_set : (s : List ℕ) (i x : ℕ) → i < length s → sum_of (set s i x) + get_or s i 65535 ≡ sum_of s + x
unfolding sum_of
sum_set [] i x h = absurd (not-suc-le-zero h)
sum_set (y ∷ s) zero x h = omega arith
sum_set (y ∷ s) (suc i) x h = let r = sum_set s i x (le_of_suc-le-suc h) in omega arith
