-- Number i of a kind among records: a walk that counts down to it.
-- Assumes nothing.
use mathlib.Core.Path.{◌≡◌, sym, ap, ◌∙◌}
use mathlib.Core.Bool.{true, false}
use mathlib.Core.List.{List, [], ◌∷◌}
use Prim.Native.Nat.{ℕ, ◌+◌, ◌-◌, ◌≤◌}
use native.Mathlib.Omega.{arith}
use lib.ListN.{length, length-append}
use borrow.Author.Tests.{eq-eqb, ne_eqb}
use Rattle.spec.specs.Lists.{concat}
use Rattle.spec.specs.Record.{is_kind}
use Rattle.spec.specs.Sheet.{Group, records_of, whole_end}
use Rattle.records.specs.Kinds.{Lined}
use Rattle.records.specs.Records.{between, nth_byte}
use Rattle.records.proofs.Lined.{all_between}

-- ---- one step of the definition

module _ (kind i at : ℕ) (r : List ℕ) (rs : Group) where
  pub nth_found : is_kind kind r ≡ true → i ≡ 0 → nth_byte kind i at (r ∷ rs) ≡ at
  unfolding nth_byte
  nth_found e z = rw (e, eq-eqb i 0 z, nth_byte)

  pub nth_passed : is_kind kind r ≡ true → (i ≡ 0 → ⊥) → nth_byte kind i at (r ∷ rs) ≡ nth_byte kind (i - 1) (at + length r) rs
  unfolding nth_byte
  nth_passed e z = rw (e, ne_eqb i 0 z, nth_byte)

  pub nth_other : is_kind kind r ≡ false → nth_byte kind i at (r ∷ rs) ≡ nth_byte kind i (at + length r) rs
  unfolding nth_byte
  nth_other e = rw (e, nth_byte)

-- ---- the walk

-- of the records that are left, of which the first begins at `at`, number `left` is the one that is sought; they end within the bytes
pub record Seeking (kind whole end at left : ℕ) (rs : Group) : Type 0 where
  pub within : at + length (concat rs) ≤ end
  pub rest : nth_byte kind left at rs ≡ whole

pub seek_start : {s : List ℕ} (kind i : ℕ) {rs : Group} → Lined s → rs ≡ records_of s → Seeking kind (nth_byte kind i 0 (between s 0 (length s))) (length s) 0 i rs
unfolding whole_end
seek_start {s} kind i w e = rw e (record { within = omega (arith, w.whole); rest = ap (nth_byte kind i 0) (sym (all_between s)) })

module _ {kind whole end at left : ℕ} {rs : Group} (w : Seeking kind whole end at left rs) where
  pub seek_end : rs ≡ [] → at ≡ whole
  unfolding nth_byte
  seek_end e = sym (ap (nth_byte kind left at) e) ∙ w.rest

  module _ {r : List ℕ} {others : Group} (e : rs ≡ r ∷ others) where
    rest_here : nth_byte kind left at (r ∷ others) ≡ whole
    rest_here = sym (ap (nth_byte kind left at) e) ∙ w.rest

    pub seek_room : at + length r + length (concat others) ≤ end
    unfolding concat
    seek_room = omega (arith, w.within, ap (λ (g : Group). length (concat g)) e, length-append r (concat others))

    pub seek_found : is_kind kind r ≡ true → left ≡ 0 → at ≡ whole
    seek_found k z = sym (nth_found kind left at r others k z) ∙ rest_here

    pub seek_passed : {n : ℕ} → n ≡ length r → is_kind kind r ≡ true → (left ≡ 0 → ⊥) → {left' : ℕ} → left' ≡ left - 1 → Seeking kind whole end (at + n) left' others
    seek_passed en k z el = rw (en, el) (record { within = seek_room; rest = sym (nth_passed kind left at r others k z) ∙ rest_here })

    pub seek_other : {n : ℕ} → n ≡ length r → is_kind kind r ≡ false → {left' : ℕ} → left' ≡ left → Seeking kind whole end (at + n) left' others
    seek_other en k el = rw (en, el) (record { within = seek_room; rest = sym (nth_other kind left at r others k) ∙ rest_here })
