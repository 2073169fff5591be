-- Sweeps until one changes nothing: then each entry is the least that its class draws from the seeds.
-- Assumes nothing.
use mathlib.Core.Path.{◌≡◌, refl}
use mathlib.Core.Bool.{Bool, false}
use mathlib.Core.List.{List}
use Prim.Native.Nat.{ℕ, ◌+◌, ◌*◌, ◌≤◌, ◌<◌}
use native.Mathlib.Nat.{le_refl}
use native.Mathlib.Omega.{arith}
use lib.ListN.{get_or}
use Rattle.lanes.specs.Lanes.{Draws, own, via, entry_at, Sound, Other, Settled, Run, Least, SettledAt, AllSettled, SeedsFit}
use Rattle.lanes.proofs.Enclosing.{fits_lower, fits_owner}
use Rattle.lanes.proofs.Chains.{draws_fit}

-- The row s came of the seeds in g by sweeps.
pub record CloseAt (step : ℕ → List ℕ) (outer : ℕ → ℕ) (n lanes : ℕ) (g s : List ℕ) : Type 0 where
  pub sound : Sound step outer n lanes g s
  pub down : (i : ℕ) → get_or s i 65535 ≤ get_or g i 65535
  pub kept : (i : ℕ) → Other n lanes i → get_or s i 65535 ≡ get_or g i 65535

pub close_start : (step : ℕ → List ℕ) (outer : ℕ → ℕ) (n lanes : ℕ) (g : List ℕ) → SeedsFit outer n lanes g → CloseAt step outer n lanes g g
unfolding Sound SeedsFit
close_start step outer n lanes g f =
    record { sound = λ k m hk hm v. own refl (f k m hk hm v); down = λ i. le_refl (get_or g i 65535); kept = λ i o. refl }

module _ {step : ℕ → List ℕ} {outer : ℕ → ℕ} {n lanes : ℕ} {g s : List ℕ} where
  module _ (few : n ≤ 256) (f : CloseAt step outer n lanes g s) (settled : AllSettled step outer n lanes s) where
    -- Along a chain: t has an entry no higher than y, it fits m since y does, and m has taken it.
    close_least : (k y m : ℕ) → k < lanes → m < n → Draws step outer n (entry_at g k) y m → entry_at s k m ≤ y
    unfolding Sound AllSettled SettledAt Settled
    close_least k y m hk hm (own e z) = let d = f.down (k * 256 + m) in omega arith
    close_least k y m hk hm (via {t = t} z e l d) =
        let r = close_least k y t hk l d in
        let b = fits_owner (omega arith) z in
        let v : entry_at s k t < 65535 = omega arith in
        let w = settled m hm k t hk e l v (fits_lower r (draws_fit (f.sound k t hk l v)) (draws_fit d) z) in
        omega arith

    close_least_row : Least step outer n lanes g s
    unfolding Sound
    close_least_row = record { sound = f.sound; least = λ k m y hk hm d. close_least k y m hk hm d; down = f.down; kept = f.kept }

  -- the last sweep changed nothing
  pub close_end : {s' : List ℕ} {a : Bool} → n ≤ 256 → CloseAt step outer n lanes g s → Run step outer n lanes (AllSettled step outer n lanes) s s' a → a ≡ false
      → Least step outer n lanes g s'
  close_end few f r z = rw (r.still z) (close_least_row few f (r.closed z))
