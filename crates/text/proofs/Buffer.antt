-- What a buffer holds after bytes were put into it, part by part.
-- Assumes nothing.
use mathlib.Core.Path.{◌≡◌, refl, sym, ap, ◌∙◌}
use mathlib.Core.List.{List, [], ◌∷◌, ◌++◌, append-nil}
use mathlib.Core.Logic.{⊎_elim}
use Prim.Native.Nat.{ℕ, suc, min, ◌+◌, ◌-◌, ◌≤◌, ◌<◌}
use native.Mathlib.Nat.{add-zero}
use native.Mathlib.Omega.{arith}
use lib.ListN.{length, set, take, drop, length-set, length-append}
use lib.Seq.{take-nil, append_snoc}
use borrow.Rule.Slice.PartMut.{put_mid}
use Rattle.std.proofs.lemmas.Bool.{cases_lt}
use Rattle.std.proofs.lemmas.List.{append_assoc, take-append-drop, take_all, take_more_set, drop-set-lt, set_past, take_min, drop_min, drop-drop}
use Rattle.text.specs.Text.{put_all, overlaid}
use Rattle.text.specs.Written.{Written}

-- ---- lengths

pub put_length : (out : List ℕ) (at : ℕ) (bs : List ℕ) → length (put_all out at bs) ≡ length out
unfolding put_all
put_length out at [] = refl
put_length out at (b ∷ bs) = put_length (set out at b) (at + 1) bs ∙ length-set out at b

-- ---- one part after another

pub put_append : (out : List ℕ) (at : ℕ) (xs ys : List ℕ) → put_all out at (xs ++ ys) ≡ put_all (put_all out at xs) (at + length xs) ys
unfolding put_all
put_append out at [] ys = rw add-zero
put_append out at (x ∷ xs) ys =
    put_append (set out at x) (at + 1) xs ys ∙ ap (λ (k : ℕ). put_all (put_all (set out at x) (at + 1) xs) k ys) (omega arith)

-- ---- a text that grows

pub put_nothing : (out : List ℕ) → overlaid [] out ≡ out
unfolding overlaid
put_nothing out = rw take-nil

pub put_byte : (text out : List ℕ) (b : ℕ) → set (overlaid text out) (length text) b ≡ overlaid (text ++ (b ∷ [])) out
unfolding overlaid
put_byte [] [] b = refl
put_byte [] (y ∷ ys) b = rw (take-nil {A = ℕ} (length ys))
put_byte (x ∷ xs) [] b = refl
put_byte (x ∷ xs) (y ∷ ys) b = ap (λ (r : List ℕ). x ∷ r) (put_byte xs ys b)

pub put_text : (text out bs : List ℕ) → put_all (overlaid text out) (length text) bs ≡ overlaid (text ++ bs) out
unfolding put_all
put_text text out [] = rw append-nil
put_text text out (b ∷ bs) =
    rw (put_byte text out b)
    (ap (λ (k : ℕ). put_all (overlaid (text ++ (b ∷ [])) out) k bs) (simp length-append)
    ∙ put_text (text ++ (b ∷ [])) out bs
    ∙ rw append_snoc)

-- ---- what fits

-- the byte at the place, then the others
module _ (b : ℕ) (bs out : List ℕ) (at : ℕ)
    (rest : (o : List ℕ) → put_all o (at + 1) bs ≡ take (at + 1) o ++ (take (length o - (at + 1)) bs ++ drop (at + 1 + length bs) o)) where
  put_inside : at < length out → put_all (set out at b) (at + 1) bs ≡ take at out ++ (take (length out - at) (b ∷ bs) ++ drop (at + suc (length bs)) out)
  put_inside h =
      let one : length out - at ≡ suc (length out - (at + 1)) = omega arith in
      let on : at + 1 + length bs ≡ at + suc (length bs) = omega arith in
      rest (set out at b)
      ∙ rw (length-set, take_more_set out at b h, one, on, drop-set-lt (at + suc (length bs)) out at b (omega arith)) (append_assoc (take at out) (b ∷ []) _)

  put_past : length out ≤ at → put_all (set out at b) (at + 1) bs ≡ take at out ++ (take (length out - at) (b ∷ bs) ++ drop (at + suc (length bs)) out)
  put_past h =
      let none : length out - at ≡ 0 = omega arith in
      let none_next : length out - (at + 1) ≡ 0 = omega arith in
      let on : at + 1 + length bs ≡ at + suc (length bs) = omega arith in
      rw (set_past out at b h) (rest out ∙ rw (none, none_next, on, take_all (at + 1) out (omega arith), take_all at out h))

put_is : (bs out : List ℕ) (at : ℕ) → put_all out at bs ≡ take at out ++ (take (length out - at) bs ++ drop (at + length bs) out)
unfolding put_all
put_is [] out at = rw (add-zero, take-nil) (sym (take-append-drop at out))
put_is (b ∷ bs) out at =
    let rest = λ (o : List ℕ). put_is bs o (at + 1) in ⊎_elim (λ h. put_inside b bs out at rest h) (λ h. put_past b bs out at rest h) (cases_lt at (length out))

-- as many bytes as there is room for, copied
pub put_part : {out bytes ys : List ℕ} (at : ℕ) {from to : ℕ} → from ≡ min at (length out) → to ≡ min (at + length bytes) (length out) → ys ≡ take (to - from) bytes
    → Written out at bytes (put_mid from (to - from) out ys) (at + length bytes)
put_part {out} {bytes} at {from} {to} f t e =
    let back : from + (to - from) ≡ to = omega arith in
    let some : to - from ≡ min (length out - at) (length bytes) = omega arith in
    record {
      place = refl;
      bytes = rw (put_is bytes out at, e, drop-drop, back, t, drop_min, ← t, some, take_min, f, take_min);
    }
