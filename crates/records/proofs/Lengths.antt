-- The length of the record that begins at a byte, as the code reads it, and the records from that byte on.
-- Assumes nothing.
use mathlib.Core.Path.{◌≡◌, refl, sym, ◌∙◌}
use mathlib.Core.Bool.{Bool, true, false}
use mathlib.Core.List.{List, ◌∷◌}
use Prim.Native.Nat.{ℕ, ◌+◌, ◌≤◌}
use native.Mathlib.Omega.{arith}
use lib.ListN.{length, take, drop, length-drop}
use lib.Seq.{drop-drop}
use Rattle.std.specs.Prelude.{Some, None}
use Rattle.std.proofs.lemmas.Option.{none-some}
use Rattle.spec.specs.Record.{u16}
use Rattle.spec.specs.Sheet.{whole_first, records_of}
use Rattle.laws.proofs.Bools.{true_t}
use Rattle.laws.proofs.Parts.{u16_here}
use Rattle.theory.proofs.Cut.{first_is, is_first, records_step}
use Rattle.records.specs.Lengths.{whole_length}

-- a whole record begins at `at`, n bytes long
pub record Stands (s : List ℕ) (at n : ℕ) : Type 0 where
  pub size : n ≡ u16 s at
  pub four : 4 ≤ n
  pub ends : at + n ≤ length s

-- ---- lengths that the code reads

module _ (s : List ℕ) where
  pub whole_some : {n : ℕ} → Some n ≡ whole_length s → (whole_first s ≡ true) × (n ≡ u16 s 0)
  unfolding whole_length
  whole_some {n} e = go (whole_first s) refl
    where
      go : (b : Bool) → whole_first s ≡ b → (b ≡ true) × (n ≡ u16 s 0)
      go true f = (refl, let q : Some n ≡ Some (u16 s 0) = rw (f, whole_length) at e in cc q)
      go false f = absurd (none-some n (sym (rw (f, whole_length) at e)))

  pub whole_none : None ≡ whole_length s → whole_first s ≡ false
  unfolding whole_length
  whole_none e = go (whole_first s) refl
    where
      go : (b : Bool) → whole_first s ≡ b → b ≡ false
      go true f = absurd (none-some (u16 s 0) (rw (f, whole_length) at e))
      go false f = refl

module _ (s : List ℕ) (at : ℕ) where
  first_here : {n : ℕ} → Stands s at n → whole_first (drop at s) ≡ true
  first_here w =
      let l = length-drop at s in
      let u = u16_here s at in
      is_first (drop at s) (record { left = omega (arith, w); four = omega (arith, w); ends = omega (arith, w) })

  pub length_some : {n : ℕ} → Some n ≡ whole_length (drop at s) → Stands s at n
  length_some e =
      let w = whole_some (drop at s) e in
      let f = first_is (drop at s) (true_t w.0) in
      let l = length-drop at s in
      let u = u16_here s at in
      record { size = w.1 ∙ u; four = omega (arith, w.1); ends = omega (arith, w.1) }

module _ {s : List ℕ} {at n : ℕ} (w : Stands s at n) where
  pub records_here : records_of (drop at s) ≡ take n (drop at s) ∷ records_of (drop (at + n) s)
  records_here = records_step (drop at s) (first_here s at w) ∙ rw (u16_here s at ∙ sym w.size, drop-drop n at s)
