-- Add: a group put in after the used bytes.
-- Assumes nothing.
use mathlib.Core.Path.{◌≡◌, refl, sym, ap, ◌∙◌}
use mathlib.Core.List.{List, [], map}
use mathlib.Core.Option.{none, some}
use Prim.Native.Nat.{ℕ, ◌+◌, ◌≤◌}
use native.Mathlib.Decide.{ℕ_discrete}
use native.Mathlib.Omega.{arith}
use lib.Dec.{eqb}
use lib.ListN.{length, take, length-take, drop_of_length-le}
use borrow.Author.Tests.{eq-eqb, ne_eqb}
use Rattle.spec.specs.Lists.{concat}
use Rattle.spec.specs.Sheet.{groups_of, class_count, total}
use Rattle.spec.specs.Verdicts.{user_verdict, flat_lines, flat}
use Rattle.spec.specs.Refusals.{Refusal, present_refusal, added_sheet, add_refusal}
use Rattle.spec.specs.Promises.{Answer, refused, accepted, answer_of, State, Makes, addition}
use Rattle.theory.proofs.Answers.{first_some, skip_none, first_none}
use Rattle.theory.proofs.Accept.{Sound, sound}
use Rattle.theory.proofs.Cut.{IsGroup, sheet_grouped, sheet_groups}
use Rattle.theory.proofs.New.{new_sheets, added_count}
use Rattle.theory.proofs.Unrefused.{present_facts}
use Rattle.view.specs.declared.Cut.{Cut}
use Rattle.view.specs.View.{Sits, spliced}
use Rattle.view.proofs.Splice.{added}
use Rattle.admit.specs.Admitting.{admit_refusal, Plain}
use Rattle.theory.proofs.Promised.{answer_refused, answer_fine, told_fine, told_refused}
use Rattle.verifier.specs.Changing.{touches, putting, Puts}
use Rattle.verifier.proofs.Editing.{edit_refused, makes_as}

module _ (library user : List ℕ) (used : ℕ) (verdicts scratch g : List ℕ) where
  abbrev held : State flat
  held = record { user = user; used = used; verdicts = verdicts }

  abbrev end : Cut
  end = record { from = used; to = used; used = used }

  -- the new class is the last one
  abbrev last : ℕ
  last = total library (take used user)

  pub add_present : {r : Refusal} → present_refusal library user used ≡ some r → Makes flat (addition flat library held g (length scratch)) held scratch (refused r) held scratch
  unfolding addition add_refusal
  add_present o = edit_refused (addition flat library held g (length scratch)) held scratch (first_some _ o)

  module _ (o : present_refusal library user used ≡ none) where
    now : Sound library (take used user)
    unfolding present_refusal
    now = sound library (take used user) (first_none _ o).1.0

    pub add_sits : Sits (record { from = used; to = used; used = used }) user
    unfolding concat
    add_sits =
        let s : List ℕ = take used user in
        record {
          ordered = omega arith;
          within = omega arith;
          there = (present_facts library user used o).in_buffer;
          around = record {
            earlier = map concat (groups_of s);
            later = [];
            before = sym (sheet_grouped s now.user_sheet.end now.user_sheet.loose);
            after = let h : length s ≤ used = simp length-take (omega arith) in drop_of_length-le s h;
            earlier_whole = sheet_groups s now.user_sheet.end now.user_sheet.loose;
            later_whole = tt;
          };
        }

    pub added_is : spliced user g (record { from = used; to = used; used = used }) ≡ added_sheet (take used user) g
    unfolding added_sheet
    added_is = added user g used

    added_plain : Plain library g (spliced user g end)
    added_plain = rw added_is (record { is = λ t. (new_sheets library user used o g t).0 })

    pub add_puts : Puts library user used g end last
    add_puts = record {
      small = (present_facts library user used o).library_size;
      sits = add_sits;
      used_is = refl;
      plain = added_plain;
      there = λ t. rw added_is (unfold total IsGroup in omega (arith, added_count now.user_sheet g t));
    }

    -- what refuses it once the present sheets are accepted
    refusal_is : add_refusal library user used g (flat_lines verdicts) (length scratch) ≡ admit_refusal library user g (spliced user g end) (flat_lines verdicts) (length scratch)
    unfolding add_refusal admit_refusal
    refusal_is = skip_none _ _ o ∙ ap (λ (x : List ℕ). admit_refusal library user g x (flat_lines verdicts) (length scratch)) (sym added_is)

    -- it touches the last class alone
    touched : (i : ℕ) → touches library (spliced user g end) end last (class_count library + i) ≡ eqb i (class_count (take used user))
    unfolding touches total
    touched i = rw (eq-eqb used used refl, touches) (go (ℕ_discrete i (class_count (take used user))))
      where
        go : Dec (i ≡ class_count (take used user)) → eqb (class_count library + i) (class_count library + class_count (take used user)) ≡ eqb i (class_count (take used user))
        go (yes e) = eq-eqb (class_count library + i) (class_count library + class_count (take used user)) (omega arith) ∙ sym (eq-eqb i (class_count (take used user)) e)
        go (no n) = ne_eqb (class_count library + i) (class_count library + class_count (take used user)) (λ q. n (omega arith)) ∙ sym (ne_eqb i (class_count (take used user)) n)

    module _ {answer : Answer ℕ} {after : State flat} {cleaned : List ℕ} (m : Makes flat (putting library held g end last (length scratch)) held scratch answer after cleaned) where
      made : {answer' : Answer ℕ} → answer' ≡ answer_of (add_refusal library user used g (flat_lines verdicts) (length scratch)) last
          → Makes flat (addition flat library held g (length scratch)) held scratch answer' after cleaned
      unfolding putting addition
      made e =
          makes_as (putting library held g end last (length scratch)) (addition flat library held g (length scratch)) (sym refusal_is) added_is touched (ap (user_verdict library) added_is) m e

      pub add_turned : {r : Refusal} → answer ≡ refused r → Makes flat (addition flat library held g (length scratch)) held scratch (refused r) after cleaned
      unfolding putting
      add_turned e = made (answer_refused _ (refusal_is ∙ told_refused _ _ (sym e ∙ m.changes.answered)))

      pub add_made : {v : ℕ} → answer ≡ accepted v → {c : ℕ} → c ≡ last → Makes flat (addition flat library held g (length scratch)) held scratch (accepted c) after cleaned
      unfolding putting
      add_made e ec = made (ap accepted ec ∙ answer_fine _ (refusal_is ∙ (told_fine _ _ (sym e ∙ m.changes.answered)).0))
