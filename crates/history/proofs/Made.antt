-- The sheet that a call makes, where nothing refuses the call: judging accepts it beside the library, with a verdict for each class.
-- Assumes nothing.
use mathlib.Core.Path.{◌≡◌, ap, ◌∙◌}
use mathlib.Core.List.{List, map}
use mathlib.Core.Option.{none}
use Prim.Native.Nat.{ℕ, ◌+◌, ◌-◌, ◌≤◌}
use native.Mathlib.Omega.{arith}
use lib.Dec.{ltb, nltb→le}
use lib.ListN.{length, take, drop, length-append}
use lib.Seq.{length-take-le}
use Rattle.spec.specs.Lists.{concat}
use Rattle.spec.specs.Sheet.{groups_of, class_count}
use Rattle.spec.specs.Refusals.{sheet_limit, added_sheet, replaced_sheet, withdrawn_sheet, sheet_refusal, new_refusal, present_refusal, few_lines_refusal, add_refusal, replace_refusal}
use Rattle.spec.specs.Refusals.{withdraw_refusal}
use Rattle.spec.specs.Verdicts.{VerdictRow}
use Rattle.spec.specs.Promises.{State, addition, replacement, withdrawal}
use Rattle.theory.proofs.Cut.{IsGroup}
use Rattle.theory.proofs.Answers.{first_none, plain_none}
use Rattle.theory.proofs.New.{new_sheets}
use Rattle.theory.proofs.Unrefused.{present_facts, Passes, edit_passes}
use Rattle.theory.proofs.Withdraw.{some_class, withdrawn_sheets, withdrawn_front, withdrawn_count}
use Rattle.history.specs.Model.{Call, add, replace, withdraw}
use Rattle.history.proofs.Steps.{edit_of}

-- a user sheet that judging accepts beside the library, with a verdict for each class
pub record Acceptable (library user : List ℕ) (lines : ℕ) : Type 0 where
  pub size : length user ≤ sheet_limit
  pub sheets : sheet_refusal library user ≡ none
  pub room : class_count user ≤ lines

acceptable_of : (library g new : List ℕ) (lines : ℕ) → Passes library g new lines → sheet_refusal library new ≡ new_refusal library new → Acceptable library new lines
acceptable_of library g new lines p e = record { size = p.size; sheets = e ∙ p.sheets; room = p.room }

module _ (row : VerdictRow) (library : List ℕ) (s : State row) where
  pub present_of : (call : Call) (scratch : ℕ) → (edit_of row library s call scratch).refusal ≡ none → present_refusal library s.user s.used ≡ none
  unfolding addition replacement withdrawal add_refusal replace_refusal withdraw_refusal
  present_of (add g) scratch e = (first_none _ e).0
  present_of (replace c g) scratch e = (first_none _ e).0
  present_of withdraw scratch e = (first_none _ e).0

  abbrev old : List ℕ
  old = take s.used s.user

  abbrev lines : ℕ
  lines = row.lines s.verdicts

  pub made_acceptable : (call : Call) (scratch : ℕ) → (edit_of row library s call scratch).refusal ≡ none → Acceptable library (edit_of row library s call scratch).sheet lines
  unfolding addition replacement withdrawal add_refusal replace_refusal withdraw_refusal few_lines_refusal IsGroup
  made_acceptable (add g) scratch e =
      let q = first_none _ e in
      let new : List ℕ = added_sheet old g in
      let p = edit_passes library s.user g new lines scratch q.1 in
      acceptable_of library g new lines p (new_sheets library s.user s.used q.0 g p.whole).0
  made_acceptable (replace c g) scratch e =
      let q = first_none _ e in
      let new : List ℕ = replaced_sheet library old c g in
      let p = edit_passes library s.user g new lines scratch q.1.1 in
      acceptable_of library g new lines p ((new_sheets library s.user s.used q.0 g p.whole).1 c)
  made_acceptable withdraw scratch e =
      let q = first_none _ e in
      let f = present_facts library s.user s.used q.0 in
      let left : List ℕ = withdrawn_sheet old in
      let some : 1 ≤ class_count old = some_class old q.1.0 in
      let few : class_count old ≤ lines = nltb→le lines (class_count old) (plain_none (ltb lines (class_count old)) 12 q.1.1.1.0) in
      let parts : length old ≡ length left + length (concat (map concat (drop (class_count old - 1) (groups_of old)))) =
      ap length (withdrawn_front library old f.sheets some) ∙ length-append left (concat (map concat (drop (class_count old - 1) (groups_of old)))) in
      record {
        size = omega (arith, f.user_size, length-take-le s.used s.user f.in_buffer, parts);
        sheets = withdrawn_sheets library old f.sheets q.1.0 q.1.1.0;
        room = omega (arith, few, withdrawn_count library old f.sheets some);
      }
