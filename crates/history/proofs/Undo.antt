-- A withdrawal after an accepted addition: no present class can name the new one, so it is accepted, and what it leaves is what was there before.
-- Assumes nothing.
use mathlib.Core.Path.{◌≡◌, sym, ap, ap₂, ◌∙◌, subst}
use mathlib.Core.Bool.{not}
use mathlib.Core.List.{List, [], ◌∷◌, ◌++◌, map, append-nil}
use mathlib.Core.Option.{none}
use Prim.Native.Nat.{ℕ, ◌+◌, ◌-◌, ◌<◌}
use native.Mathlib.Omega.{arith}
use lib.Dec.{T, not_T, eqb, ltb, eqb→eq}
use lib.ListN.{length, take, drop, replicate, length-append}
use lib.Seq.{take-append_seam, drop-append_seam, length-take-le}
use Rattle.spec.specs.Lists.{any, concat, elem, span}
use Rattle.spec.specs.Sheet.{Group, groups_of, records_of, class_count, total, group, group_references}
use Rattle.spec.specs.Rules.{clean}
use Rattle.spec.specs.Refusals.{added_sheet, withdrawn_sheet, last_class, sheet_refusal, present_refusal, empty_refusal, named_refusal, few_lines_refusal, add_refusal, withdraw_refusal}
use Rattle.spec.specs.Verdicts.{VerdictRow, flat, user_verdict}
use Rattle.spec.specs.Promises.{Answer, accepted, State, Adds, Withdraws, addition, withdrawal, edited, buffer_with, answer_of}
use Rattle.spec.proofs.Also.{◌also◌}
use Rattle.laws.proofs.Bools.{eq→eqb, nltb}
use Rattle.laws.proofs.All.{All, weaken, none_any, below_span}
use Rattle.laws.proofs.Zeros.{past_zeros, among_zeros}
use Rattle.theory.proofs.Answers.{first_none, none_first, none_plain}
use Rattle.theory.proofs.Accept.{Sound, sound, references_below}
use Rattle.theory.proofs.Cut.{IsGroup, concat_append, sheet_grouped, sheet_groups}
use Rattle.theory.proofs.New.{added_count}
use Rattle.history.specs.Model.{add}
use Rattle.history.specs.Demand3.{RowLaws}
use Rattle.history.specs.Undo.{Undone, AddThenWithdraw}
use Rattle.history.proofs.Flat.{flat_laws}
use Rattle.theory.proofs.Promised.{told_fine, new_fine, sheet_left}
use Rattle.theory.proofs.Unrefused.{Present, present_facts, facts_present, Passes, edit_passes}
use Rattle.history.proofs.Model.{added_groups, added_group}
use Rattle.history.proofs.Made.{made_acceptable}

module _ (row : VerdictRow) (laws : RowLaws row) (library g : List ℕ) (before after last : State row) (scratch scratch_after : List ℕ) (class : ℕ)
    (a : Adds row library g before scratch (accepted class) after scratch_after) where
  abbrev s : List ℕ
  s = take before.used before.user

  abbrev new : List ℕ
  new = added_sheet s g

  abbrev lines : ℕ
  lines = row.lines before.verdicts

  told : (add_refusal library before.user before.used g lines (length scratch) ≡ none) × (class ≡ total library s)
  unfolding addition
  told = told_fine (add_refusal library before.user before.used g lines (length scratch)) (total library s) a.changes.answered

  present : Present library before.user before.used
  unfolding add_refusal
  present = present_facts library before.user before.used (first_none _ told.0).0

  passes : Passes library g new lines
  unfolding add_refusal
  passes = edit_passes library before.user g new lines (length scratch) (first_none _ told.0).1

  old : Sound library s
  old = sound library s present.sheets

  new_accepted : sheet_refusal library new ≡ none
  unfolding addition
  new_accepted = (made_acceptable row library before (add g) (length scratch) told.0).sheets

  count : class_count new ≡ class_count s + 1
  count = added_count old.user_sheet g passes.whole

  -- the row has a line for the new class
  pub line_there : class_count s < lines
  line_there = omega (arith, count, passes.room)

  -- ---- what the addition left

  used_after : after.used ≡ length new
  unfolding addition edited
  used_after = a.changes.used_is ∙ sym (new_fine _ _ told.0)

  user_after : after.user ≡ new ++ drop (length new) (replicate before.used 0 ++ drop before.used before.user)
  unfolding addition edited buffer_with
  user_after = a.changes.user_is ∙ sym (new_fine _ _ told.0)

  sheet_after : take after.used after.user ≡ new
  unfolding addition
  sheet_after = sheet_left row (addition row library before g (length scratch)) before a.changes

  row_after : after.verdicts ≡ row.rewritten (λ i. eqb i (class_count s)) (user_verdict library new) before.verdicts
  unfolding addition edited
  row_after = a.changes.verdicts_are ∙ sym (new_fine _ _ told.0)

  lines_after : row.lines after.verdicts ≡ lines
  lines_after = ap row.lines row_after ∙ laws.lines_same _ _ before.verdicts

  -- ---- why the withdrawal is not refused

  abbrev gs : List (List ℕ)
  gs = map concat (groups_of s)

  gs_whole : All IsGroup gs
  gs_whole = sheet_groups s old.user_sheet.end old.user_sheet.loose

  s_is : concat gs ≡ s
  s_is = sheet_grouped s old.user_sheet.end old.user_sheet.loose

  new_is : concat (gs ++ (g ∷ [])) ≡ new
  unfolding added_sheet concat
  new_is = concat_append gs (g ∷ []) ∙ ap₂ (λ (x y : List ℕ). x ++ y) s_is (append-nil g)

  groups_new : groups_of new ≡ groups_of s ++ (records_of g ∷ [])
  groups_new = ap groups_of (sym new_is) ∙ added_groups library gs g gs_whole passes.whole ∙ ap (λ (u : List ℕ). groups_of u ++ (records_of g ∷ [])) s_is

  pub back : withdrawn_sheet new ≡ s
  unfolding withdrawn_sheet class_count
  back =
      ap (λ (hs : List Group). concat (map concat (take (length hs - 1) hs))) groups_new
      ∙ ap (λ (k : ℕ). concat (map concat (take k (groups_of s ++ (records_of g ∷ [])))))
      (let z : length (groups_of s ++ (records_of g ∷ [])) - 1 ≡ length (groups_of s) = omega (arith, length-append (groups_of s) (records_of g ∷ [])) in z)
      ∙ ap (λ (hs : List Group). concat (map concat hs)) (take-append_seam (groups_of s) (records_of g ∷ []))
      ∙ s_is

  last_is : last_class library new ≡ total library s
  unfolding last_class total
  last_is = omega (arith, count)

  same_group : (c : ℕ) → c < total library s → group library s c ≡ group library new c
  same_group c h =
      ap (λ (u : List ℕ). group library u c) (sym s_is) ∙ added_group library gs g gs_whole passes.whole c (subst (λ (u : List ℕ). c < total library u) (sym s_is) h)
      ∙ ap (λ (u : List ℕ). group library u c) new_is

  unnamed : named_refusal library new ≡ none
  unfolding named_refusal elem
  unnamed =
      let m = last_class library new in
      none_plain (any (λ c. elem m (group_references (group library new c))) (span 0 m)) 17
      (none_any (λ c. elem m (group_references (group library new c))) (span 0 m)
      (weaken (λ c. c < 0 + m) (λ c. T (not (elem m (group_references (group library new c)))))
      (λ c h. subst (λ (x : Group). T (not (elem m (group_references x)))) (same_group c (omega (arith, last_is)))
      (none_any (eqb m) (group_references (group library s c))
      (weaken (λ e. e < total library s) (λ e. T (not (eqb m e))) (λ e k. not_T (eqb m e) (λ t. omega (arith, eqb→eq m e t, last_is)))
      (group_references (group library s c)) (references_below library s old c))))
      (span 0 m) (below_span 0 m)))

  left_present : present_refusal library after.user after.used ≡ none
  left_present = facts_present library after.user after.used (record {
    library_size = present.library_size;
    user_size = omega (arith, used_after, passes.size);
    in_buffer = omega (arith, used_after, ap length user_after, length-append new (drop (length new) (replicate before.used 0 ++ drop before.used before.user)));
    sheets = ap (sheet_refusal library) sheet_after ∙ new_accepted;
  })

  unrefused : withdraw_refusal library after.user after.used (row.lines after.verdicts) ≡ none
  unfolding withdraw_refusal empty_refusal few_lines_refusal
  unrefused =
      let now : List ℕ = take after.used after.user in
      let n : ℕ = row.lines after.verdicts in
      none_first (present_refusal library after.user after.used ∷ empty_refusal now ∷ named_refusal library now ∷ few_lines_refusal (class_count now) n ∷ [])
      (left_present
      also none_plain (eqb (class_count now) 0) 13 (not_T (eqb (class_count now) 0) (λ t. omega (arith, eqb→eq (class_count now) 0 t, ap class_count sheet_after, count)))
      also (ap (named_refusal library) sheet_after ∙ unnamed)
      also none_plain (ltb n (class_count now)) 12 (nltb n (class_count now) (omega (arith, lines_after, ap class_count sheet_after, passes.room)))
      also tt)

  -- ---- what it leaves

  module _ (answer : Answer ℕ) (w : Withdraws row library after answer last) where
    answered : answer ≡ accepted class
    unfolding withdrawal answer_of last_class
    answered =
        w.answered ∙ ap (λ o. answer_of o (total library (take after.used after.user) - 1)) unrefused
        ∙ ap accepted (ap (λ (u : List ℕ). last_class library u) sheet_after ∙ last_is ∙ sym told.1)

    used_last : last.used ≡ before.used
    unfolding withdrawal edited
    used_last =
        w.used_is ∙ sym (new_fine _ _ unrefused) ∙ ap (λ (u : List ℕ). length (withdrawn_sheet u)) sheet_after ∙ ap length back
        ∙ length-take-le before.used before.user present.in_buffer

    row_last : last.verdicts ≡ row.rewritten (λ i. eqb i (class_count new - 1)) (λ i. clean) after.verdicts
    unfolding withdrawal edited
    row_last = w.verdicts_are ∙ sym (new_fine _ _ unrefused) ∙ ap (λ (u : List ℕ). row.rewritten (λ i. eqb i (class_count u - 1)) (λ i. clean) after.verdicts) sheet_after

    user_last : last.user ≡ s ++ (replicate (length g) 0 ++ drop (before.used + length g) before.user)
    unfolding withdrawal edited buffer_with
    user_last =
        w.user_is ∙ sym (new_fine _ _ unrefused)
        ∙ ap₂ (λ (u x : List ℕ). withdrawn_sheet u ++ drop (length (withdrawn_sheet u)) (replicate after.used 0 ++ x)) sheet_after past_after
        ∙ ap (λ (u : List ℕ). u ++ drop (length u) (replicate after.used 0 ++ drop (before.used + length g) before.user)) back
        ∙ ap (λ (x : List ℕ). s ++ x) freed
      where
        long : length s ≡ before.used
        long = length-take-le before.used before.user present.in_buffer

        new_long : length new ≡ before.used + length g
        new_long = let e : length new ≡ length s + length g = (unfold added_sheet in length-append s g) in e ∙ ap (λ (n : ℕ). n + length g) long

        past_after : drop after.used after.user ≡ drop (before.used + length g) before.user
        past_after =
            ap₂ drop used_after user_after ∙ drop-append_seam new _
            ∙ ap (λ (n : ℕ). drop n (replicate before.used 0 ++ drop before.used before.user)) new_long
            ∙ past_zeros before.user before.used (length g)

        freed : drop (length s) (replicate after.used 0 ++ drop (before.used + length g) before.user) ≡ replicate (length g) 0 ++ drop (before.used + length g) before.user
        freed =
            ap₂ (λ (n k : ℕ). drop n (replicate k 0 ++ drop (before.used + length g) before.user)) long (used_after ∙ new_long)
            ∙ among_zeros before.user before.used (length g)

    -- the line that both calls write is that of the class after the present ones
    line_is : class_count new - 1 ≡ class_count s
    line_is = omega (arith, count)

    undone : Undone row before g last
    undone = record {
      used_is = used_last;
      user_is = user_last;
      lines_are = ap row.lines row_last ∙ laws.lines_same _ _ after.verdicts ∙ lines_after;
      cleared_line =
          ap (λ (v : row.Row). row.at v (class_count s)) row_last
          ∙ laws.at_changed (λ i. eqb i (class_count new - 1)) (λ i. clean) after.verdicts (class_count s)
          (omega (arith, lines_after, passes.room, count)) (eq→eqb {n = class_count new - 1} (sym line_is));
      other_lines = λ i ne.
          ap (λ (v : row.Row). row.at v i) row_last
          ∙ laws.at_kept (λ j. eqb j (class_count new - 1)) (λ j. clean) after.verdicts i
          (not_T (eqb i (class_count new - 1)) (λ t. ne (eqb→eq i (class_count new - 1) t ∙ line_is)))
          ∙ ap (λ (v : row.Row). row.at v i) row_after
          ∙ laws.at_kept (λ j. eqb j (class_count s)) (user_verdict library new) before.verdicts i (not_T (eqb i (class_count s)) (λ t. ne (eqb→eq i (class_count s) t)));
    }

pub add_then_withdraw : (row : VerdictRow) → RowLaws row → AddThenWithdraw row
add_then_withdraw row laws library g before after last scratch scratch_after class answer a w =
    (answered row laws library g before after last scratch scratch_after class a answer w, undone row laws library g before after last scratch scratch_after class a answer w)

pub flat_undo : AddThenWithdraw flat
flat_undo = add_then_withdraw flat flat_laws
