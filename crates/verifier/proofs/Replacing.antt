-- Replace: a group put in the place of a user class's; and the row of dependents.
-- Assumes nothing.
use mathlib.Core.Path.{◌≡◌, refl, sym, ap, ap₂, ◌∙◌}
use mathlib.Core.Bool.{◌||◌}
use mathlib.Core.List.{List, [], ◌∷◌, ◌++◌, map}
use mathlib.Core.Option.{Option, none, some}
use Prim.Native.Nat.{ℕ, suc, ◌+◌, ◌-◌, ◌≤◌, ◌<◌}
use native.Mathlib.Omega.{arith}
use lib.Dec.{leb, ltb, nltb→le, nleb→lt}
use lib.ListN.{length, get_or, take, drop, length-take}
use lib.Seq.{take-take}
use borrow.Author.Tests.{ne_eqb}
use Rattle.spec.specs.Lists.{first_of, concat, count, span}
use Rattle.spec.specs.Sheet.{groups_of, class_count, group_start, total}
use Rattle.spec.specs.Verdicts.{user_verdict, flat_lines, flat, depends_on, dependent_count}
use Rattle.spec.specs.Refusals.{Refusal, refuse_if, refuse_plain, present_refusal, no_user_refusal, replaced_sheet, replace_refusal}
use Rattle.spec.specs.Promises.{Answer, answer_of, refused, State, Edit, Makes, replacement}
use Rattle.laws.proofs.Count.{count_same}
use Rattle.theory.proofs.Answers.{first_none, skip_none, first_some, first_append, plain_none}
use Rattle.laws.proofs.Bools.{not_or_l, not_or_r}
use Rattle.theory.proofs.Cut.{IsGroup}
use Rattle.theory.proofs.New.{new_sheets, replaced_count}
use Rattle.theory.proofs.Unrefused.{present_facts}
use Rattle.view.specs.declared.Cut.{Cut}
use Rattle.view.specs.View.{Sits, spliced}
use Rattle.groups.specs.Groups.{Indexed, end_of}
use Rattle.groups.proofs.Held.{Held, in_user, group_tiled, class_there}
use Rattle.admit.specs.Admitting.{admit_refusal}
use Rattle.sheets.proofs.Indexes.{row_of, indexed}
use Rattle.sheets.proofs.Present.{present_passed}
use Rattle.verifier.specs.Changing.{touches, putting, Puts, cut_at}
use Rattle.verifier.proofs.Editing.{edit_refused, makes_as}
use Rattle.verifier.proofs.Exchange.{earlier_is, later_is, earlier_whole, later_whole, replaced_parts}

-- ---- the promise

module _ (library user : List ℕ) (used c : ℕ) (verdicts scratch g : List ℕ) where
  abbrev was : State flat
  was = record { user = user; used = used; verdicts = verdicts }

  abbrev edit_of_lem : Edit
  edit_of_lem = replacement flat library was c g (length scratch)

  abbrev cut : Cut
  cut = cut_at library (take used user) used c

  abbrev why : Option Refusal
  why = first_of (present_refusal library user used ∷ no_user_refusal library (take used user) c ∷ [])

  -- the present sheets are refused, or have no such user class
  pub replace_stopped : {r : Refusal} → why ≡ some r → Makes flat edit_of_lem was scratch (refused r) was scratch
  unfolding replacement replace_refusal
  replace_stopped o = edit_refused edit_of_lem was scratch
      (first_append (present_refusal library user used ∷ no_user_refusal library (take used user) c ∷ []) _ ∙ first_some _ o)

  module _ (o : why ≡ none) where
    fine : present_refusal library user used ≡ none
    fine = (first_none _ o).0

    there : no_user_refusal library (take used user) c ≡ none
    there = (first_none _ o).1.0

    x : Indexed library (take used user) (class_count library) (total library (take used user)) (row_of (record { library = library; user = take used user }))
    x = indexed (present_passed library user used fine)

    own : class_count library ≤ c
    unfolding no_user_refusal refuse_plain refuse_if
    own = nltb→le c (class_count library) (not_or_l (ltb c (class_count library)) (leb (total library (take used user)) c)
        (plain_none (ltb c (class_count library) || leb (total library (take used user)) c) 13 there))

    below : c < total library (take used user)
    unfolding no_user_refusal refuse_plain refuse_if
    below = nleb→lt (total library (take used user)) c (not_or_r (ltb c (class_count library)) (leb (total library (take used user)) c)
        (plain_none (ltb c (class_count library) || leb (total library (take used user)) c) 13 there))

    held : Held library (take used user) (class_count library) c (take used user) (c - class_count library)
    held = in_user x own below

    end_within : end_of library (take used user) c ≤ used
    end_within = omega (arith, (group_tiled x below).within, ap length held.is, length-take used user)

    abbrev s : List ℕ
    s = take used user

    abbrev i : ℕ
    i = c - class_count library

    -- the parts of the buffer that stay are those of the sheet before the class and after it
    head_is : take cut.from user ≡ take (group_start s i) s
    unfolding end_of
    head_is = ap (λ (k : ℕ). take k user) held.start ∙ sym (take-take (group_start s i) used user (omega (arith, end_within, held.start)))

    tail_is : drop cut.to (take cut.used user) ≡ drop (group_start s i + length (concat (get_or (groups_of s) i []))) s
    unfolding end_of
    tail_is = ap (λ (k : ℕ). drop k (take used user)) (ap₂ (λ (k : ℕ) (r : List (List ℕ)). k + length (concat r)) held.start held.its)

    pub replaced_sits : Sits cut user
    unfolding end_of
    replaced_sits = record {
      ordered = omega arith;
      within = end_within;
      there = (present_facts library user used fine).in_buffer;
      around = record {
        earlier = map concat (take i (groups_of s));
        later = map concat (drop (suc i) (groups_of s));
        before = head_is ∙ earlier_is x.user_clear i held.there;
        after = tail_is ∙ later_is x.user_clear i held.there;
        earlier_whole = earlier_whole x.user_clear i held.there;
        later_whole = later_whole x.user_clear i held.there;
      };
    }

    pub replaced_is : spliced user g cut ≡ replaced_sheet library (take used user) c g
    unfolding spliced replaced_sheet
    replaced_is =
        ap₂ (λ (a b : List ℕ). a ++ (g ++ b)) head_is tail_is
        ∙ sym (replaced_parts x.user_clear i held.there g)

    pub replace_puts : Puts library user used g cut c
    replace_puts = record {
      small = x.library_size;
      sits = replaced_sits;
      used_is = refl;
      plain = rw replaced_is (record { is = λ t. (new_sheets library user used fine g t).1 c });
      there = λ t. rw replaced_is (unfold total IsGroup in omega (arith, below, replaced_count x.user_clear g t library c));
    }

    -- what refuses it once the class is found
    refusal_is : replace_refusal library user used c g (flat_lines verdicts) (length scratch) ≡ admit_refusal library user g (spliced user g cut) (flat_lines verdicts) (length scratch)
    unfolding replace_refusal admit_refusal
    refusal_is =
        skip_none _ _ fine ∙ skip_none _ _ there ∙ ap (λ (s : List ℕ). admit_refusal library user g s (flat_lines verdicts) (length scratch)) (sym replaced_is)

    -- a group is taken out, so its class's dependents are touched
    touched : (d : ℕ) → touches library (spliced user g cut) cut c d ≡ depends_on library (spliced user g cut) c d
    unfolding touches
    touched d = rw (ne_eqb cut.from used (λ e. omega (arith, class_there x below, end_within)), touches)

    pub replace_made : {answer : Answer ℕ} {after : State flat} {cleaned : List ℕ} → Makes flat (putting library was g cut c (length scratch)) was scratch answer after cleaned
        → Makes flat edit_of_lem was scratch answer after cleaned
    unfolding putting replacement dependent_count
    replace_made m =
        makes_as (putting library was g cut c (length scratch)) edit_of_lem (sym refusal_is) replaced_is
        (λ i. touched (class_count library + i) ∙ ap (λ (s : List ℕ). depends_on library s c (class_count library + i)) replaced_is) (ap (user_verdict library) replaced_is) m
        (m.changes.answered
        ∙ ap₂ answer_of (sym refusal_is)
        (count_same (touches library (spliced user g cut) cut c) (depends_on library (spliced user g cut) c) (total library (spliced user g cut)) (λ d h. touched d)
        ∙ ap (λ (s : List ℕ). count (depends_on library s c) (span 0 (total library s))) replaced_is))
