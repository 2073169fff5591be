-- Records end to end: the first of them, and what follows it.
-- Assumes nothing.
use Rattle.std.proofs.lemmas.List.{drop-take}
use mathlib.Core.Path.{◌≡◌, refl, sym, ap, ◌∙◌, subst}
use mathlib.Core.Bool.{Bool, true, false}
use mathlib.Core.List.{List, [], ◌∷◌, ◌++◌}
use Prim.Native.Nat.{ℕ, zero, suc, ◌+◌, ◌-◌, ◌≤◌, ◌<◌}
use native.Mathlib.Omega.{arith}
use lib.ListN.{length, get_or, take, drop, length-append, length-drop}
use lib.Dec.{eqb→eq}
use native.Mathlib.Decide.{ℕ_discrete}
use lib.Seq.{length-take-le, get_or-take, take-length}
use native.Mathlib.Nat.{sub-zero}
use Rattle.spec.specs.Lists.{concat}
use Rattle.spec.specs.Record.{u8, u16, kind, is_class, flags, own_markers, superclass, encloser, class_name, length_fits}
use Rattle.spec.specs.Sheet.{whole_first, records_in, records_of, whole_end, class_record}
use Rattle.laws.proofs.Bools.{true_t}
use lib.Dec.{T}
use Rattle.spec.specs.Refusals.{one_class}
use Rattle.theory.proofs.Form.{class_first}
use Rattle.laws.proofs.All.{All, weaken₂}
use Rattle.theory.proofs.Cut.{Whole, First, first_is, records_step, records_stop, records_of_whole}
use Rattle.records.specs.Records.{between, AtRecord}
use Rattle.records.specs.Kinds.{Fits, Lined, OneClass, head_of}
use Rattle.records.proofs.Fits.{long}

-- no bytes are left
pub lined_end : (s : List ℕ) → length s ≡ 0 → records_of s ≡ []
lined_end [] e = unfold records_of records_in in refl
lined_end (b ∷ bs) e = absurd (omega arith)

module _ {s : List ℕ} (w : Lined s) (h : 0 < length s) where
  first : whole_first s ≡ true
  first = go (whole_first s) refl
    where
      go : (b : Bool) → whole_first s ≡ b → b ≡ true
      go true e = refl
      go false e = absurd (let z : whole_end s ≡ 0 = unfold whole_end concat in ap (λ (rs : List (List ℕ)). length (concat rs)) (records_stop s e) in omega (arith, h, w.whole))

  pub first_lem : First s
  first_lem = first_is s (true_t first)

  pub here : records_of s ≡ take (u16 s 0) s ∷ records_of (drop (u16 s 0) s)
  here = records_step s first

  fits_here : All Fits (take (u16 s 0) s ∷ records_of (drop (u16 s 0) s))
  fits_here = subst (All Fits) here w.fits

  pub first_fits : Fits (take (u16 s 0) s)
  first_fits = fits_here.0

  pub rest : Lined (drop (u16 s 0) s)
  unfolding whole_end
  rest = record {
    whole =
        let f = first_lem in
        let e : length (concat (records_of s)) ≡ length (take (u16 s 0) s ++ concat (records_of (drop (u16 s 0) s))) =
        unfold concat in ap (λ (rs : List (List ℕ)). length (concat rs)) here in
        omega (
          arith,
          w.whole,
          e,
          length-append (take (u16 s 0) s) (concat (records_of (drop (u16 s 0) s))),
          length-take-le (u16 s 0) s f.ends,
          length-drop (u16 s 0) s,
        );
    fits = fits_here.1;
  }

-- ---- one class's bytes begin with its CLASS record

open_lem : (s : List ℕ) → length s ≡ 0 → T (one_class (records_of s)) → ⊥
unfolding one_class
open_lem s e o = rw (lined_end s e) at o

pub some_bytes : {s : List ℕ} → OneClass s → 0 < length s
some_bytes {s} w = go (ℕ_discrete (length s) 0)
  where
    go : Dec (length s ≡ 0) → 0 < length s
    go (yes e) = absurd (open_lem s e w.one)
    go (no n) = omega arith

all_tt : (rs : List (List ℕ)) → All (λ _. Unit {0}) rs
all_tt [] = tt
all_tt (r ∷ rs) = (tt, all_tt rs)

module _ {s : List ℕ} (w : OneClass s) where
  pub class_here : class_record (records_of s) ≡ take (u16 s 0) s
  unfolding class_record
  class_here = ap (λ (g : List (List ℕ)). get_or g 0 []) (here w.lined (some_bytes w))

  class_fits : Fits (take (u16 s 0) s)
  class_fits = first_fits w.lined (some_bytes w)

  -- the first record's length is what stands there, within the bytes and at least thirteen
  pub class_long : (13 ≤ u16 s 0) × (u16 s 0 ≤ length s)
  class_long =
      let f = first_lem w.lined (some_bytes w) in
      let k : 1 ≡ kind (take (u16 s 0) s) = sym (eqb→eq (kind (take (u16 s 0) s)) 1
      (subst (λ (r : List ℕ). T (is_class r)) class_here (class_first (λ _. Unit {0}) (records_of s) w.one (all_tt (records_of s))).1)) in
      let l = long class_fits 1 k in
      (omega (arith, l, length-take-le (u16 s 0) s f.ends), f.ends)

  -- what stands in the CLASS record stands in the bytes
  pub class_byte : (i : ℕ) → i < u16 s 0 → get_or (class_record (records_of s)) i 0 ≡ get_or s i 0
  class_byte i l = ap (λ (r : List ℕ). get_or r i 0) class_here ∙ get_or-take (u16 s 0) s i 0 l

  pub class_head : head_of (class_record (records_of s)) ≡ head_of s
  unfolding flags own_markers superclass encloser u8 u16
  class_head =
      let l = class_long in
      rw (
        class_byte 4 (omega arith),
        class_byte 5 (omega arith),
        class_byte 6 (omega arith),
        class_byte 8 (omega arith),
        class_byte 9 (omega arith),
        class_byte 10 (omega arith),
        class_byte 11 (omega arith),
      ) refl

  pub name_here : class_name (class_record (records_of s)) ≡ take (u16 s 0 - 12) (drop 12 s)
  unfolding class_name
  name_here = ap (drop 12) class_here ∙ (let e : u16 s 0 ≡ 12 + (u16 s 0 - 12) = (let l = class_long in omega arith) in ap (λ (n : ℕ). drop 12 (take n s)) e ∙ drop-take 12 (u16 s 0 - 12) s)

-- ---- no more records than bytes

if_le : (b : Bool) (x : List ℕ) (xs : List (List ℕ)) (n : ℕ) → length xs ≤ n → length (elim b as (λ (_ : Bool). List (List ℕ)) [ true ↦ x ∷ xs | false ↦ [] ]) ≤ suc n
if_le true x xs n h = omega arith
if_le false x xs n h = omega arith

few_in : (n : ℕ) (s : List ℕ) → length (records_in n s) ≤ n
unfolding records_in
few_in zero s = omega arith
few_in (suc n) s = if_le (whole_first s) (take (u16 s 0) s) (records_in n (drop (u16 s 0) s)) n (few_in n (drop (u16 s 0) s))

pub few_records : (s : List ℕ) → length (records_of s) ≤ length s
unfolding records_of
few_records s = few_in (length s) s

-- ---- the bytes from the first record to the end

pub all_between : (s : List ℕ) → between s 0 (length s) ≡ records_of s
unfolding between
all_between s = ap (λ (n : ℕ). records_of (take n s)) (sub-zero (length s)) ∙ ap records_of (take-length s)

pub all_lined : {s : List ℕ} → AtRecord s (length s) 0 → Lined s
all_lined {s} w = record {
  whole = ap whole_end (sym (ap (λ (n : ℕ). take n s) (sub-zero (length s)) ∙ take-length s)) ∙ w.tiled.whole ∙ sub-zero (length s);
  fits = weaken₂ Whole (λ r. T (length_fits r)) Fits (λ r a b. record { whole = a.own; fits = b }) (records_of s) (records_of_whole s)
      (subst (All (λ r. T (length_fits r))) (all_between s) w.sizes);
}
