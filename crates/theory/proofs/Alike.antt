-- Overlay markers are those of a class and of its supertypes: where two rows of groups are alike on some classes and on what is above them, so are the markers of these.
-- Assumes nothing.
use mathlib.Core.Path.{◌≡◌, refl, ap}
use mathlib.Core.List.{List}
use Prim.Native.Nat.{ℕ, zero, suc, ◌<◌}
use native.Mathlib.Omega.{arith}
use Rattle.spec.specs.Record.{own_markers}
use Rattle.spec.specs.Sheet.{Group, class_record}
use Rattle.spec.specs.Markers.{closure, union, union_all}
use Rattle.spec.specs.Classes.{supertypes, gathered, overlay}
use Rattle.laws.proofs.All.{All, weaken, map_cong}
use Rattle.theory.proofs.Falls.{Falls}
use Rattle.theory.proofs.Overlay.{supertypes_lower}

module _ (g g' : ℕ → Group) (P : ℕ → Type 0) (above : (c : ℕ) → P c → All P (supertypes (g c))) (same : (c : ℕ) → P c → g c ≡ g' c) where
  pub gathered_same : (k c : ℕ) → P c → gathered g k c ≡ gathered g' k c
  unfolding gathered
  gathered_same zero c p = refl
  gathered_same (suc k) c p =
      rw (← same c p)
      (ap (λ (ms : List ℕ). union (own_markers (class_record (g c))) (union_all ms))
      (map_cong P (gathered g k) (gathered g' k) (gathered_same k) (supertypes (g c)) (above c p)))

  pub overlay_same : (c : ℕ) → P c → overlay g c ≡ overlay g' c
  unfolding overlay
  overlay_same c p = ap closure (gathered_same (suc c) c p)

-- the classes below a number are such classes
pub below_above : {g : ℕ → Group} → Falls g → (n c : ℕ) → c < n → All (λ d. d < n) (supertypes (g c))
below_above {g} f n c h = weaken (λ d. d < c) (λ d. d < n) (λ d l. omega arith) (supertypes (g c)) (supertypes_lower g f c)
