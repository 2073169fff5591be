-- Where a reader moves, and that it finds the records of the sheet.
-- Assumes nothing.
use mathlib.Core.Path.{◌≡◌, refl, sym, ap, ap₂, ◌∙◌}
use mathlib.Core.Bool.{false}
use mathlib.Core.List.{List, [], ◌∷◌}
use Prim.Native.Nat.{ℕ, zero, suc, ◌+◌, ◌-◌, ◌≤◌, ◌<◌}
use native.Mathlib.Nat.{zero-add, suc-add}
use native.Mathlib.Numerals.{add-one}
use native.Mathlib.Decide.{ℕ_discrete}
use native.Mathlib.Omega.{arith}
use lib.ListN.{length, get_or, take, drop, length-append, drop_of_length-le}
use lib.Seq.{take-suc, drop-cons, take-length, drop-length}
use borrow.Author.Tests.{lt-leb}
use Rattle.std.specs.Prelude.{Option, Some, None}
use Rattle.std.specs.Option.{unwrap_or}
use Rattle.spec.specs.Lists.{concat}
use Rattle.spec.specs.Sheet.{whole_first, records_of, whole_end}
use Rattle.laws.proofs.Parts.{part_length}
use Rattle.theory.proofs.Cut.{concat_append, records_stop}
use Rattle.records.specs.Lengths.{whole_length}
use Rattle.records.proofs.Lengths.{Stands, length_some, whole_none, records_here}
use Rattle.reader.specs.Reading.{found_at, after_at, nth_at}
use Rattle.reader.specs.declared.Found.TheVariants.{Record}

-- ---- where record n begins

module _ (s : List ℕ) where
  pub nth_zero : 0 ≡ nth_at s 0
  unfolding nth_at
  nth_zero = refl

  nth_suc : (i : ℕ) → after_at s (nth_at s i) ≡ nth_at s (suc i)
  unfolding nth_at
  nth_suc i = refl

  pub nth_step : (i : ℕ) → after_at s (nth_at s i) ≡ nth_at s (i + 1)
  nth_step i = nth_suc i ∙ ap (nth_at s) (sym (add-one i))

  -- a reader that does not move stays
  stays_for : (i k : ℕ) → after_at s (nth_at s i) ≡ nth_at s i → nth_at s (k + i) ≡ nth_at s i
  stays_for i zero e = ap (nth_at s) (zero-add i)
  stays_for i (suc k) e = ap (nth_at s) (suc-add k i) ∙ sym (nth_suc (k + i)) ∙ ap (after_at s) (stays_for i k e) ∙ e

  pub nth_stays : (i n : ℕ) → i ≤ n → after_at s (nth_at s i) ≡ nth_at s i → nth_at s i ≡ nth_at s n
  nth_stays i n h e = sym (stays_for i (n - i) e) ∙ ap (nth_at s) (omega arith)

-- ---- the records of the sheet

-- past the end no record stands
pub none_past : (s : List ℕ) (at : ℕ) → length s < at → whole_length (drop at s) ≡ None
unfolding whole_length whole_first
none_past s at h = let e = drop_of_length-le s {i = at} (omega arith) in rw (whole_length, e, whole_first) refl

-- how far a reader goes from there
abbrev step : List ℕ → ℕ → ℕ
step s at = unwrap_or (whole_length (drop at s)) 0

module _ (s : List ℕ) (at : ℕ) where
  step_some : (o : Option ℕ) → o ≡ whole_length (drop at s) → (unwrap_or o 0 ≡ 0 → ⊥) → Stands s at (unwrap_or o 0)
  step_some None e h = absurd (h refl)
  step_some (Some n) e h = length_some s at e

  step_none : (o : Option ℕ) → o ≡ whole_length (drop at s) → unwrap_or o 0 ≡ 0 → whole_first (drop at s) ≡ false
  step_none None e z = whole_none (drop at s) e
  step_none (Some n) e z = absurd (omega (arith, (length_some s at e).four, z))

  found_some : at < length s → (o : Option ℕ) → o ≡ whole_length (drop at s) → (unwrap_or o 0 ≡ 0 → ⊥) → found_at s at ≡ Record at (unwrap_or o 0)
  unfolding found_at
  found_some h None e z = absurd (z refl)
  found_some h (Some n) e z = rw (found_at, lt-leb (length s) at h, sym e)

-- n moves from the first byte pass the first n records, and leave the others
record Passed (s : List ℕ) (n : ℕ) : Type 0 where
  pub begins : nth_at s n ≡ length (concat (take n (records_of s)))
  pub left : records_of (drop (nth_at s n) s) ≡ drop n (records_of s)

module _ {s : List ℕ} {n : ℕ} (p : Passed s n) where
  abbrev at : ℕ
  at = nth_at s n

  abbrev len : ℕ
  len = step s (nth_at s n)

  -- while a record is left, it stands here
  module _ (h : n < length (records_of s)) where
    others : records_of (drop at s) ≡ get_or (records_of s) n [] ∷ drop (suc n) (records_of s)
    others = p.left ∙ drop-cons (records_of s) n [] h

    stands : Stands s at len
    stands = step_some s at _ refl (λ z. let e = sym (records_stop (drop at s) (step_none s at _ refl z)) ∙ others in let f : ◌≡◌ {A = ℕ} 0 1 = cc in omega arith)

    the_first : take len (drop at s) ∷ records_of (drop (at + len) s) ≡ get_or (records_of s) n [] ∷ drop (suc n) (records_of s)
    the_first = sym (records_here stands) ∙ others

    size : length (get_or (records_of s) n []) ≡ len
    size = let f : get_or (records_of s) n [] ≡ take len (drop at s) = cc the_first in ap length f ∙ part_length s at len stands.ends

    one_more : Passed s (suc n)
    unfolding concat
    one_more = record {
      begins = sym (nth_suc s n) ∙ rw (take-suc (records_of s) n [] h, concat_append, length-append, length-append (get_or (records_of s) n []) []) (omega (arith, p.begins, size));
      left = ap (λ (i : ℕ). records_of (drop i s)) (sym (nth_suc s n)) ∙ cc the_first;
    }

  -- once none is left, none stands here
  none_left : n ≡ length (records_of s) → len ≡ 0
  none_left e = go (ℕ_discrete len 0)
    where
      go : Dec (len ≡ 0) → len ≡ 0
      go (yes z) = z
      go (no z) =
          let f = sym (records_here (step_some s at _ refl z)) ∙ p.left ∙ ap (λ (i : ℕ). drop i (records_of s)) e ∙ drop-length (records_of s) in
          let g : ◌≡◌ {A = ℕ} 0 1 = cc in
          absurd (omega arith)

passed : (s : List ℕ) (n : ℕ) → n ≤ length (records_of s) → Passed s n
unfolding nth_at concat
passed s zero h = record { begins = refl; left = refl }
passed s (suc n) h = one_more (passed s n (omega arith)) (omega arith)

-- Record n of the sheet is what a reader finds after n moves, its first byte and its length; after the last record a reader stays at the byte after it.
pub reader_finds : (s : List ℕ) (n : ℕ)
    → (n < length (records_of s) → found_at s (nth_at s n) ≡ Record (length (concat (take n (records_of s)))) (length (get_or (records_of s) n [])))
    × (length (records_of s) ≤ n → nth_at s n ≡ whole_end s)
unfolding whole_end
reader_finds s n = (record_n, after)
  where
    record_n : n < length (records_of s) → found_at s (nth_at s n) ≡ Record (length (concat (take n (records_of s)))) (length (get_or (records_of s) n []))
    record_n h =
        let p = passed s n (omega arith) in
        let w = stands p h in
        found_some s (nth_at s n) (omega (arith, w)) _ refl (λ z. omega (arith, w)) ∙ ap₂ Record p.begins (sym (size p h))

    after : length (records_of s) ≤ n → nth_at s n ≡ whole_end s
    after h =
        let p = passed s (length (records_of s)) (omega arith) in
        sym (nth_stays s (length (records_of s)) n h (omega (arith, none_left p refl))) ∙ p.begins ∙ ap (λ (rs : List (List ℕ)). length (concat rs)) (take-length (records_of s))
