-- Where the bytes of a user class's name stand in the user sheet.
-- Assumes nothing.
use mathlib.Core.Path.{◌≡◌, sym, ap, ◌∙◌}
use mathlib.Core.List.{List, []}
use Prim.Native.Nat.{ℕ, ◌+◌, ◌-◌, ◌≤◌, ◌<◌}
use native.Mathlib.Omega.{arith}
use lib.ListN.{length, get_or, take, drop}
use Rattle.spec.specs.Record.{u16, class_name}
use Rattle.spec.specs.Sheet.{Group, groups_of, class_count, group_start, class_record}
use Rattle.laws.proofs.Parts.{part_rest}
use Rattle.groups.proofs.Held.{first_within, group_placed, class_fits, class_here, class_long_here}
use Rattle.groups.specs.Sheets.{UserSheet}

-- the CLASS record of class i begins at `at`, is `size` bytes long, and its name is the sheet's bytes from its byte 12 on
pub record NameAt (sheet : List ℕ) (i at size : ℕ) : Type 0 where
  pub long : 13 ≤ size
  pub short : size ≤ 112
  pub within : at + size ≤ length sheet
  pub is : take (at + size - (at + 12)) (drop (at + 12) sheet) ≡ class_name (class_record (get_or (groups_of sheet) i []))

pub name_at_lem : {nlib : ℕ} {sheet : List ℕ} → UserSheet nlib sheet → {i : ℕ} → i < class_count sheet
    → {at size : ℕ} → at ≡ group_start sheet i → size ≡ u16 sheet at → NameAt sheet i at size
unfolding class_name
name_at_lem {nlib} {sheet} u {i} h {at} {size} a es =
    let g : Group = get_or (groups_of sheet) i [] in
    let z : size ≡ u16 sheet (group_start sheet i) = es ∙ ap (u16 sheet) a in
    let e : size ≡ length (class_record g) = z ∙ sym (class_long_here u.clear i h) in
    let whole : class_record g ≡ take size (drop at sheet) = class_here u.clear i h ∙ rw (← a, ← es) in
    let k : at + size - (at + 12) ≡ size - 12 = omega arith in
    record {
      long = omega (arith, e, (class_fits u.clear i h).0);
      short = omega (arith, e, (class_fits u.clear i h).1);
      within = omega (arith, a, e, first_within g, (group_placed u.clear i h).0.within);
      is = ap (λ (j : ℕ). take j (drop (at + 12) sheet)) k ∙ sym (ap (drop 12) whole ∙ part_rest sheet at size 12);
    }
