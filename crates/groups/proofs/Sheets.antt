-- The bytes from the start of a group on, how long that group is and that its records are the bytes; and how many classes a sheet has.
-- Assumes nothing.
use mathlib.Core.Path.{◌≡◌, refl, sym, ap, ◌∙◌, subst}
use mathlib.Core.Bool.{Bool, true, false}
use mathlib.Core.List.{List, [], ◌∷◌}
use mathlib.Core.Option.{none}
use Prim.Native.Nat.{ℕ, ◌+◌, ◌-◌, ◌≤◌, ◌<◌}
use native.Mathlib.Nat.{add-zero, sub-zero}
use native.Mathlib.Decide.{ℕ_discrete}
use native.Mathlib.Omega.{arith}
use lib.Dec.{T}
use lib.ListN.{length, get_or, take, drop, length-append, length-drop}
use lib.Seq.{take-length}
use Rattle.spec.specs.Lists.{concat, keep}
use Rattle.spec.specs.Record.{is_class, length_fits, CLASS}
use Rattle.spec.specs.Sheet.{Group, Split, records_of, whole_end, split_groups, groups_of, class_count, group_start, total, of_kind}
use Rattle.spec.specs.Refusals.{present_refusal}
use Rattle.theory.specs.Claims.{first_length, running}
use Rattle.laws.proofs.All.{All, keep_yes, keep_no}
use Rattle.theory.proofs.Cut.{split_class, split_other}
use Rattle.theory.proofs.Accept.{Clear, Sound}
use Rattle.theory.proofs.Form.{accepted_sound}
use Rattle.theory.proofs.Unrefused.{present_facts}
use Rattle.theory.proofs.Running.{group_next, running_next, begins, group_last, rest_all, rest_bytes, rest_records, rest_loose}
use Rattle.records.specs.Records.{between, nth_byte, AtRecord}
use Rattle.records.proofs.Nth.{nth_found, nth_passed, nth_other}
use Rattle.records.proofs.Lined.{all_between}
use Rattle.groups.proofs.Held.{first_within, record_lengths, group_placed, class_fits}
use Rattle.groups.specs.Sheets.{UserSheet, AtGroup}

-- ---- CLASS records and groups

-- the first one stands behind the records that are in no group
first_class_lem : (rs : Group) (at : ℕ) → nth_byte CLASS 0 at rs ≡ at + length (concat (split_groups rs).loose)
unfolding nth_byte split_groups concat
first_class_lem [] at = sym (add-zero at)
first_class_lem (r ∷ rs) at = go (is_class r) refl (first_class_lem rs (at + length r))
  where
    go : (b : Bool) → is_class r ≡ b → nth_byte CLASS 0 (at + length r) rs ≡ at + length r + length (concat (split_groups rs).loose)
        → nth_byte CLASS 0 at (r ∷ rs) ≡ at + length (concat (split_groups (r ∷ rs)).loose)
    go true e ih = nth_found CLASS 0 at r rs e refl ∙ sym (ap (λ (t : Split). at + length (concat t.loose)) (split_class r rs e) ∙ add-zero at)
    go false e ih =
        nth_other CLASS 0 at r rs e ∙ ih ∙ omega (arith, length-append r (concat (split_groups rs).loose))
        ∙ sym (ap (λ (t : Split). at + length (concat t.loose)) (split_other r rs e))

-- the second one behind the first group
second_class : (rs : Group) → (split_groups rs).loose ≡ [] → nth_byte CLASS 1 0 rs ≡ length (concat (get_or (split_groups rs).groups 0 []))
unfolding nth_byte split_groups concat
second_class [] e = refl
second_class (r ∷ rs) e = go (is_class r) refl
  where
    go : (b : Bool) → is_class r ≡ b → nth_byte CLASS 1 0 (r ∷ rs) ≡ length (concat (get_or (split_groups (r ∷ rs)).groups 0 []))
    go true q =
        nth_passed CLASS 1 0 r rs q (λ z. omega arith) ∙ first_class_lem rs (0 + length r) ∙ omega (arith, length-append r (concat (split_groups rs).loose))
        ∙ sym (ap (λ (t : Split). length (concat (get_or t.groups 0 []))) (split_class r rs q))
    go false q = absurd (omega (arith, ap length (sym (ap (λ (t : Split). t.loose) (split_other r rs q)) ∙ e)))

-- as many as there are groups
class_groups : (rs : Group) → length (of_kind CLASS rs) ≡ length (split_groups rs).groups
unfolding of_kind keep split_groups
class_groups [] = refl
class_groups (r ∷ rs) = go (is_class r) refl (class_groups rs)
  where
    go : (b : Bool) → is_class r ≡ b → length (keep is_class rs) ≡ length (split_groups rs).groups → length (keep is_class (r ∷ rs)) ≡ length (split_groups (r ∷ rs)).groups
    go true e ih = omega (arith, ap length (keep_yes is_class r rs e), ap (λ (t : Split). length t.groups) (split_class r rs e), ih)
    go false e ih = omega (arith, ap length (keep_no is_class r rs e), ap (λ (t : Split). length t.groups) (split_other r rs e), ih)

-- ---- bytes that are whole records to their end

all_bytes : (s : List ℕ) → take (length s - 0) (drop 0 s) ≡ s
all_bytes s = ap (λ (k : ℕ). take k s) (sub-zero (length s)) ∙ take-length s

whole_place : (s : List ℕ) → whole_end s ≡ length s → length s ≤ 32768 → All (λ r. T (length_fits r)) (records_of s) → AtRecord s (length s) 0
whole_place s e l a = record {
  tiled = record { ordered = omega arith; within = omega arith; whole = ap whole_end (all_bytes s) ∙ e ∙ sym (sub-zero (length s)) };
  small = l;
  sizes = subst (All (λ r. T (length_fits r))) (sym (all_between s)) a;
}

pub group_length : {rest : List ℕ} → AtGroup rest → {r : ℕ} → r ≡ nth_byte CLASS 1 0 (between rest 0 (length rest)) → r ≡ first_length rest
unfolding first_length groups_of
group_length {rest} w e = e ∙ ap (nth_byte CLASS 1 0) (all_between rest) ∙ second_class (records_of rest) w.loose

-- ---- accepted sheets

module _ (library sheet : List ℕ) (e : present_refusal library sheet (length sheet) ≡ none) where
  both : Sound library sheet
  both = subst (Sound library) (take-length sheet) (accepted_sound library sheet (length sheet) e)

  pub library_place : AtRecord library (length library) 0
  library_place = whole_place library both.library_sheet.end (present_facts library sheet (length sheet) e).library_size (record_lengths both.library_sheet)

  pub library_count : {nlib : ℕ} → nlib ≡ length (of_kind CLASS (between library 0 (length library))) → nlib ≡ class_count library
  unfolding class_count groups_of
  library_count q = q ∙ ap (λ (rs : Group). length (of_kind CLASS rs)) (all_between library) ∙ class_groups (records_of library)

  pub user_sheet_lem : {nlib : ℕ} → nlib ≡ class_count library → UserSheet nlib sheet
  unfolding total
  user_sheet_lem q = record {
    clear = subst (λ (k : ℕ). Clear 1 k sheet) (sym q) both.user_sheet;
    size = (present_facts library sheet (length sheet) e).user_size;
    few = omega (arith, both.few);
  }

-- ---- the user sheet from the start of a group on

-- as a part of it
rest_part : (s : List ℕ) (at : ℕ) → take (length s - at) (drop at s) ≡ drop at s
rest_part s at = ap (λ (k : ℕ). take k (drop at s)) (sym (length-drop at s)) ∙ take-length (drop at s)

module _ {nlib : ℕ} {sheet : List ℕ} (u : UserSheet nlib sheet) (i : ℕ) {start : ℕ} where
  pub at_group : start ≡ group_start sheet i → AtGroup (take (length sheet - start) (drop start sheet))
  unfolding whole_end
  at_group e =
      rw (rest_part sheet start, e) (record {
        place = whole_place (drop (group_start sheet i) sheet)
            (ap (λ (rs : Group). length (concat rs)) (rest_records u.clear i) ∙ ap length (sym (rest_bytes u.clear i)))
            (omega (arith, length-drop (group_start sheet i) sheet, u.size))
            (subst (All (λ r. T (length_fits r))) (sym (rest_records u.clear i)) (rest_all u.clear i (λ r. T (length_fits r)) (record_lengths u.clear)));
        loose = rest_loose u.clear i;
      })

  -- the next start is further on, and within the sheet
  pub further : i < class_count sheet → start ≡ running sheet i
      → {len : ℕ} → len ≡ first_length (take (length sheet - start) (drop start sheet)) → (start + len ≡ running sheet (i + 1)) × (1 ≤ len) × (start + len ≤ length sheet)
  further h es {len} el =
      let g : Group = get_or (groups_of sheet) i [] in
      let b : running sheet i ≡ group_start sheet i = begins u.clear i (omega arith) in
      let r : start + len ≡ running sheet (i + 1) =
      ap (λ (k : ℕ). start + k) (el ∙ ap first_length (rest_part sheet start)) ∙ ap (λ (k : ℕ). k + first_length (drop k sheet)) es ∙ sym (running_next sheet i) in
      let n : start + len ≡ group_start sheet i + length (concat g) = r ∙ begins u.clear (i + 1) (omega arith) ∙ group_next sheet i h in
      (r, omega (arith, es, b, n, first_within g, (class_fits u.clear i h).0), omega (arith, n, (group_placed u.clear i h).0.within))

  -- before the sheet's end there is a class, and at its end none
  module _ (high : i ≤ class_count sheet) (e : start ≡ running sheet i) where
    pub class_left : start < length sheet → i < class_count sheet
    class_left l = go (ℕ_discrete i (class_count sheet))
      where
        go : Dec (i ≡ class_count sheet) → i < class_count sheet
        go (yes q) = absurd (omega (arith, e, begins u.clear i high, ap (group_start sheet) q, group_last u.clear))
        go (no n) = omega arith

    pub none_left : length sheet ≤ start → i ≡ class_count sheet
    none_left l = go (ℕ_discrete i (class_count sheet))
      where
        go : Dec (i ≡ class_count sheet) → i ≡ class_count sheet
        go (yes q) = q
        go (no n) =
            let h : i < class_count sheet = omega arith in
            absurd (omega (arith, e, begins u.clear i high, (class_fits u.clear i h).0, first_within (get_or (groups_of sheet) i []), (group_placed u.clear i h).0.within))
