-- The user sheet that an Add or a Replace makes of an accepted sheet and a whole group is whole groups end to end.
-- So 2 cannot refuse it, and neither can the library's first pass: `new_refusal` is all of `sheet_refusal`.
-- Assumes nothing.
use mathlib.Core.Path.{◌≡◌, sym, ap, ◌∙◌, subst}
use mathlib.Core.List.{List, [], ◌∷◌, ◌++◌, map, append-nil}
use mathlib.Core.Option.{none}
use Prim.Native.Nat.{ℕ, ◌+◌, ◌-◌}
use lib.Dec.{eqb}
use lib.ListN.{length, take, set, length-append, length-map, length-set}
use Rattle.spec.specs.Lists.{concat}
use Rattle.spec.specs.Sheet.{records_of, whole_end, groups_of, class_count}
use Rattle.spec.specs.Refusals.{torn_refusal, sheet_refusal, new_refusal, present_refusal, added_sheet, replaced_sheet}
use Rattle.theory.specs.Claims.{NewSheets}
use Rattle.laws.proofs.Bools.{eq→eqb, not_not}
use Rattle.laws.proofs.All.{All, all_append, all_set}
use Rattle.theory.proofs.Cut.{IsGroup, concat_append, groups_of_join, sheet_grouped, sheet_groups, whole_join}
use Rattle.theory.proofs.Answers.{first_none, skip_none, keep_head, none_if}
use Rattle.theory.proofs.Accept.{Clear, sound}

-- one more list at the end
pub concat_last : {A : Type 0} (xs : List (List A)) (x : List A) → concat (xs ++ (x ∷ [])) ≡ concat xs ++ x
unfolding concat
concat_last xs x = concat_append xs (x ∷ []) ∙ ap (λ l. concat xs ++ l) (append-nil x)

-- a sheet that passes the first pass and a whole group make sheets of whole records
module _ {sheet n : ℕ} {user : List ℕ} (clear : Clear sheet n user) (g : List ℕ) (whole : IsGroup g) where
  abbrev gs : List (List ℕ)
  gs = map concat (groups_of user)

  -- its groups and the new one, last or in the place of one
  more_groups : All IsGroup (gs ++ (g ∷ []))
  more_groups = all_append IsGroup gs (g ∷ []) (sheet_groups user clear.end clear.loose) (whole, tt)

  more_is : concat (gs ++ (g ∷ [])) ≡ user ++ g
  more_is = concat_last gs g ∙ ap (λ (s : List ℕ). s ++ g) (sheet_grouped user clear.end clear.loose)

  other_groups : (i : ℕ) → All IsGroup (set gs i g)
  other_groups i = all_set IsGroup gs i g (sheet_groups user clear.end clear.loose) whole

  pub added_whole : whole_end (added_sheet user g) ≡ length (added_sheet user g)
  unfolding added_sheet
  added_whole = subst (λ (s : List ℕ). whole_end s ≡ length s) more_is (whole_join (gs ++ (g ∷ [])) more_groups)

  pub replaced_whole : (library : List ℕ) (c : ℕ) → whole_end (replaced_sheet library user c g) ≡ length (replaced_sheet library user c g)
  unfolding replaced_sheet
  replaced_whole library c = whole_join (set gs (c - class_count library) g) (other_groups (c - class_count library))

  -- one class more, and as many
  pub added_count : class_count (added_sheet user g) ≡ class_count user + 1
  unfolding added_sheet class_count
  added_count =
      ap (λ (s : List ℕ). length (groups_of s)) (sym more_is) ∙ ap length (groups_of_join (gs ++ (g ∷ [])) more_groups)
      ∙ length-map (gs ++ (g ∷ [])) records_of ∙ length-append gs (g ∷ []) ∙ ap (λ (k : ℕ). k + 1) (length-map (groups_of user) concat)

  pub replaced_count : (library : List ℕ) (c : ℕ) → class_count (replaced_sheet library user c g) ≡ class_count user
  unfolding replaced_sheet class_count
  replaced_count library c =
      let i : ℕ = c - class_count library in
      ap length (groups_of_join (set gs i g) (other_groups i)) ∙ length-map (set gs i g) records_of ∙ length-set gs i g ∙ length-map (groups_of user) concat

-- beside a library that was accepted, a sheet of whole records
pub sheet_new : (library user new : List ℕ) → sheet_refusal library user ≡ none → whole_end new ≡ length new → sheet_refusal library new ≡ new_refusal library new
unfolding sheet_refusal new_refusal torn_refusal
sheet_new library user new e end =
    let q = first_none _ e in
    skip_none _ _ q.0 ∙ skip_none _ _ q.1.0 ∙ skip_none _ _ q.1.1.0
    ∙ keep_head _ _ _ (skip_none _ _ (none_if _ 2 1 (whole_end new) (not_not (eqb (whole_end new) (length new)) (eq→eqb end))))

pub new_sheets : NewSheets
unfolding present_refusal IsGroup
new_sheets library user used e g whole =
    let now : List ℕ = take used user in
    let q = (first_none _ e).1.0 in
    let clear = (sound library now q).user_sheet in (
      sheet_new library now (added_sheet now g) q (added_whole clear g whole),
      λ c. sheet_new library now (replaced_sheet library now c g) q (replaced_whole clear g whole library c),
    )
