-- A later part moved, a group copied in and freed bytes made zero: the buffer with the new sheet.
-- Assumes nothing.
use mathlib.Core.Path.{◌≡◌, sym, ap, ◌∙◌, subst}
use mathlib.Core.List.{List, ◌++◌, append_assoc}
use Prim.Native.Nat.{ℕ, ◌+◌, ◌-◌, ◌≤◌}
use native.Mathlib.Nat.{add-zero}
use native.Mathlib.Omega.{arith}
use lib.ListN.{length, take, drop, replicate, length-append, length-drop, take-append-drop}
use lib.Seq.{paste, length-take-le, take-add, take-take, take-append-le, take_at, drop_at}
use borrow.Rule.Slice.PartMut.{put_mid}
use Rattle.std.specs.List.{between}
use Rattle.std.proofs.lemmas.List.{drop-drop}
use Rattle.std.proofs.lemmas.List.Edits.{length-between}
use Rattle.spec.specs.Promises.{buffer_with}
use Rattle.laws.proofs.Parts.{part_rest}
use Rattle.laws.proofs.Zeros.{past_sheet}
use Rattle.view.specs.declared.Cut.{Cut}
use Rattle.view.specs.View.{Fits, spliced}
use Rattle.view.proofs.Splice.{length_spliced}

-- ---- the bytes from a sheet's end up to the used length

-- made zero by `fill`
zeroed : (u s : List ℕ) (used : ℕ) {end : ℕ} {part : List ℕ} → length s ≡ end → end ≤ used → used ≤ length u
    → part ≡ replicate (length (between end used (s ++ drop end u))) 0 → put_mid end (used - end) (s ++ drop end u) part ≡ buffer_with s u used
unfolding buffer_with
zeroed u s used {end} l h w e =
    let z = length-between (s ++ drop end u) end used (simp (length-append, length-drop) (omega arith)) in
    rw (e, z, take_at s (drop end u) end l, drop_at s (drop end u) end l, drop-drop, l, past_sheet u end used)

-- there are none
none_freed : (u s : List ℕ) (used : ℕ) {end : ℕ} → length s ≡ end → used ≤ end → s ++ drop end u ≡ buffer_with s u used
unfolding buffer_with
none_freed u s used {end} l h = let z : used - end ≡ 0 = omega arith in rw (l, past_sheet u end used, z, add-zero)

-- the end of a sheet made zero: the buffer with the bytes before it as its sheet
pub cut_off : (u : List ℕ) (used end : ℕ) {part : List ℕ} → end ≤ used → used ≤ length u → part ≡ replicate (length (between end used u)) 0
    → put_mid end (used - end) u part ≡ buffer_with (take end u) u used
cut_off u used end {part} h w e =
    subst (λ (v : List ℕ). part ≡ replicate (length (between end used v)) 0 → put_mid end (used - end) v part ≡ buffer_with (take end u) u used) (take-append-drop end u)
    (zeroed u (take end u) used (length-take-le end u (omega arith)) h w)
    e

-- bytes that stay where they are
pub paste_same : (d : List ℕ) {from to : ℕ} → from ≡ to → (n : ℕ) → d ≡ paste d to (drop from d) n
paste_same d {from} {to} e n = sym (ap (λ (k : ℕ). paste d to (drop k d) n) e ∙ ap (λ (l : List ℕ). l ++ drop (to + n) d) (sym (take-add to n d)) ∙ take-append-drop (to + n) d)

module _ (u g : List ℕ) (cut : Cut) (f : Fits cut u g) (room : length (spliced u g cut) ≤ length u) where
  abbrev later : ℕ
  later = cut.from + length g

  abbrev rest : ℕ
  rest = cut.used - cut.to

  pub sheet_room : later + rest ≤ length u
  sheet_room = omega (arith, length_spliced u g cut f)

  rest_is : take rest (drop cut.to u) ≡ drop cut.to (take cut.used u)
  rest_is = let z : 0 + cut.to ≡ cut.to = omega arith in sym (part_rest u 0 cut.used cut.to ∙ ap (λ (k : ℕ). take rest (drop k u)) z)

  moved : List ℕ
  moved = paste u later (drop cut.to u) rest

  head_kept : take cut.from moved ≡ take cut.from u
  unfolding moved
  head_kept =
      let t : List ℕ = take rest (drop cut.to u) in
      let l = length-take-le later u (omega (arith, sheet_room)) in
      ap (take cut.from) (append_assoc (take later u) t (drop (later + rest) u))
      ∙ take-append-le cut.from (take later u) (t ++ drop (later + rest) u) (omega arith)
      ∙ take-take cut.from later u (omega arith)

  tail_moved : drop later moved ≡ drop cut.to (take cut.used u) ++ drop (later + rest) u
  unfolding moved
  tail_moved =
      let t : List ℕ = take rest (drop cut.to u) in
      ap (drop later) (append_assoc (take later u) t (drop (later + rest) u))
      ∙ drop_at (take later u) (t ++ drop (later + rest) u) later (length-take-le later u (omega (arith, sheet_room)))
      ∙ ap (λ (l : List ℕ). l ++ drop (later + rest) u) rest_is

  -- the later part moved, then the group copied in
  pub spliced_in : {m part : List ℕ} → m ≡ paste u later (drop cut.to u) rest → part ≡ g → put_mid cut.from (later - cut.from) m part ≡ spliced u g cut ++ drop (later + rest) u
  unfolding spliced moved
  spliced_in q e =
      let n : later - cut.from ≡ length g = omega arith in
      rw (q, e, n, head_kept, drop-drop, tail_moved) (simp append_assoc)

  module _ {v : List ℕ} (q : v ≡ spliced u g cut ++ drop (later + rest) u) where
    pub edit_made : {part : List ℕ} → later + rest ≤ cut.used → part ≡ replicate (length (between (later + rest) cut.used v)) 0
        → put_mid (later + rest) (cut.used - (later + rest)) v part ≡ buffer_with (spliced u g cut) u cut.used
    edit_made h e = rw q (zeroed u (spliced u g cut) cut.used (length_spliced u g cut f) h f.there (rw q at e))

    pub edit_longer : cut.used ≤ later + rest → v ≡ buffer_with (spliced u g cut) u cut.used
    edit_longer h = q ∙ none_freed u (spliced u g cut) cut.used (length_spliced u g cut f) h
