-- A spliced sheet's length and its parts, and the sheets that Judge, Add and Replace see.
-- Assumes nothing.
use mathlib.Core.Path.{◌≡◌, refl, sym, ap}
use mathlib.Core.Logic.{◌⊎◌, inl, inr}
use Prim.Native.Nat.{ℕ, ◌+◌, ◌-◌, ◌≤◌}
use native.Mathlib.Nat.{zero-add}
use native.Mathlib.Omega.{arith}
use mathlib.Core.List.{List, [], ◌++◌, append-nil}
use lib.ListN.{length, take, drop, length-append, length-take, length-drop, drop_of_length-le}
use Rattle.laws.proofs.Parts.{part_rest}
use Rattle.theory.proofs.Cut.{IsGroup}
use Rattle.view.specs.declared.Cut.{Cut}
use Rattle.view.specs.View.{Around, Sits, Seamed, Fits, Parted, before_cut, after_cut, spliced}

module _ (u g : List ℕ) (cut : Cut) (h : Fits cut u g) where
  pub length_spliced : length (spliced u g cut) ≡ cut.from + length g + (cut.used - cut.to)
  unfolding spliced
  length_spliced =
      simp (length-append, length-take, length-drop) (omega (arith, h.ordered, h.within, h.there))

  -- the bytes after the cut, as they are sliced
  pub tail_is : take (cut.used - cut.to) (drop cut.to u) ≡ after_cut cut u
  tail_is = sym (rw (zero-add cut.to) at (part_rest u 0 cut.used cut.to))

  -- a group put between whole groups
  abbrev Put : Type 0
  Put = Around (before_cut cut u) (after_cut cut u) × IsGroup g

  pub parted : Parted (spliced u g cut) (before_cut cut u) g (after_cut cut u)
  unfolding spliced Seamed
  parted = record { joined = refl; seams = go h.seams }
    where
      go : ((g ≡ []) × (cut.from ≡ cut.used)) ⊎ Put → ((g ≡ []) × (after_cut cut u ≡ [])) ⊎ Put
      go (inl e) = inl (e.0, drop_of_length-le (take cut.used u) (omega (arith, length-take cut.used u, e.1, h.ordered)))
      go (inr e) = inr e

-- the used bytes with nothing put in
pub plain_fits : (u : List ℕ) (n : ℕ) → n ≤ length u → Fits (record { from = n; to = n; used = n }) u []
plain_fits u n h = record { ordered = omega arith; within = omega arith; there = h; seams = unfold Seamed in inl (refl, refl) }

-- a whole group put between whole groups
pub sits_fits : {u g : List ℕ} {cut : Cut} → Sits cut u → IsGroup g → Fits cut u g
sits_fits s w = record { ordered = s.ordered; within = s.within; there = s.there; seams = unfold Seamed in inr (s.around, w) }

-- a whole part with no group: the used bytes
pub plain : (u : List ℕ) (n : ℕ) → spliced u [] (record { from = n; to = n; used = n }) ≡ take n u
unfolding spliced
plain u n = let h : length (take n u) ≤ n = simp length-take (omega arith) in rw (drop_of_length-le (take n u) h) (append-nil (take n u))

-- a group after the used bytes
pub added : (u g : List ℕ) (n : ℕ) → spliced u g (record { from = n; to = n; used = n }) ≡ take n u ++ g
unfolding spliced
added u g n =
    let h : length (take n u) ≤ n = simp length-take (omega arith) in
    rw (drop_of_length-le (take n u) h) (ap (λ (x : List ℕ). take n u ++ x) (append-nil g))
