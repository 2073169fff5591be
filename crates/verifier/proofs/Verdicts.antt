-- The promise of a judging, at each of its ends.
-- Assumes nothing.
use mathlib.Core.Path.{◌≡◌, refl, sym, ap, ap₂, ◌∙◌}
use mathlib.Core.Bool.{Bool, true, false, not, not-not, ◌&&◌, ◌||◌}
use mathlib.Core.List.{List}
use mathlib.Core.Option.{Option, none, some}
use Prim.Native.Nat.{ℕ, ◌+◌, ◌≤◌, ◌<◌, min}
use native.Mathlib.Omega.{arith}
use lib.Dec.{T, eqb, ltb, lt→ltb, nltb→le}
use lib.ListN.{length, get_or, take}
use borrow.Author.Tests.{lt-ltb, le-ltb, ltb-true, ltb-false}
use Rattle.spec.specs.Sheet.{class_count, total}
use Rattle.spec.specs.Rules.{Verdict}
use Rattle.spec.specs.Verdicts.{user_verdict, faulted, faulted_count, flat_lines, flat_at, flat_rewritten, flat}
use Rattle.spec.specs.Refusals.{Refusal, scratch_length, refuse_if, refuse_plain, present_refusal, short_refusal, judge_refusal}
use Rattle.spec.specs.Promises.{counts_of, refused, accepted, cleared, judged_row, Judges}
use Rattle.theory.proofs.Answers.{first_past, first_some}
use Rattle.theory.proofs.FlatRow.{at_new, rewritten_lines, rewritten_same}
use Rattle.theory.proofs.Promised.{answer_refused, answer_fine, kept_refused, new_fine}
use Rattle.laws.proofs.Bools.{not_or_l, not_or_r}
use Rattle.laws.proofs.Count.{count_same}
use Rattle.flat.specs.Row.{chosen, faulted_in}

-- ---- the row

module _ (library sheet : List ℕ) (marks : List Bool) (marked : (i : ℕ) → i < total library sheet → get_or marks i false ≡ true) (row : List ℕ) where
  -- with every class marked all user classes are chosen
  every : (i : ℕ) → chosen (class_count library) (total library sheet) marks i ≡ ltb i (class_count sheet)
  unfolding chosen total
  every i = go (ltb i (class_count sheet)) refl
    where
      go : (b : Bool) → ltb i (class_count sheet) ≡ b
          → (ltb (class_count library + i) (class_count library + class_count sheet) && get_or marks (class_count library + i) false) ≡ ltb i (class_count sheet)
      go true e =
          let h : i < class_count sheet = ltb-true i (class_count sheet) e in
          rw (lt-ltb (class_count library + i) (class_count library + class_count sheet) (omega arith), marked (class_count library + i) (omega arith)) (sym e)
      go false e = let h : class_count sheet ≤ i = ltb-false i (class_count sheet) e in rw (le-ltb (class_count library + i) (class_count library + class_count sheet) (omega arith)) (sym e)

  row_is : {after : List ℕ} → after ≡ flat_rewritten (chosen (class_count library) (total library sheet) marks) (user_verdict library sheet) row
      → after ≡ flat_rewritten (λ i. ltb i (class_count sheet)) (user_verdict library sheet) row
  row_is e = e ∙ rewritten_same (user_verdict library sheet) row (chosen (class_count library) (total library sheet) marks) (λ i. ltb i (class_count sheet)) every

module _ (library sheet row : List ℕ) (room : class_count sheet ≤ flat_lines row) {after : List ℕ} (e : after ≡ flat_rewritten (λ i. ltb i (class_count sheet)) (user_verdict library sheet) row) where
  rule_is : (i : ℕ) → i < class_count sheet → (flat_at after i).rule ≡ (user_verdict library sheet i).rule
  rule_is i h =
      ap (λ (r : List ℕ). (flat_at r i).rule) e
      ∙ ap (λ (v : Verdict). v.rule) (at_new (λ i. ltb i (class_count sheet)) (user_verdict library sheet) row i (omega (arith, room)) (lt→ltb i (class_count sheet) h))

  same_lines : flat_lines after ≡ flat_lines row
  same_lines = ap flat_lines e ∙ rewritten_lines (λ i. ltb i (class_count sheet)) (user_verdict library sheet) row

  -- the faulted ones of that row
  count_is : {m : ℕ} → m ≡ faulted_in after (min (class_count sheet) (flat_lines after)) → m ≡ faulted_count library sheet
  unfolding faulted_in faulted_count faulted
  count_is q =
      q
      ∙ ap (faulted_in after) (let w : min (class_count sheet) (flat_lines after) ≡ class_count sheet = omega (arith, room, same_lines) in w)
      ∙ count_same (λ i. not (eqb (flat_at after i).rule 0)) (λ i. not (eqb (user_verdict library sheet i).rule 0)) (class_count sheet) (λ i h. ap (λ (k : ℕ). not (eqb k 0)) (rule_is i h))

-- ---- the promise

module _ (library user : List ℕ) (used : ℕ) (verdicts scratch : List ℕ) where
  abbrev refusal : Option Refusal
  refusal = judge_refusal library user used (flat_lines verdicts) (length scratch)

  abbrev sheet : List ℕ
  sheet = take used user

  -- nothing was touched
  stop : {r : Refusal} → refusal ≡ some r → Judges flat library user used verdicts scratch (refused r) verdicts scratch
  stop e = record { answered = answer_refused _ e; verdicts_are = kept_refused _ _ e; scratch_is = kept_refused _ _ e }

  pub sheets_stop : {r : Refusal} → present_refusal library user used ≡ some r → Judges flat library user used verdicts scratch (refused r) verdicts scratch
  unfolding judge_refusal
  sheets_stop o = stop (first_some _ o)

  module _ (o : present_refusal library user used ≡ none) {own : ℕ} (eo : own ≡ class_count sheet)
      {x : Bool} (e : x ≡ not (ltb (flat_lines verdicts) own || ltb (length scratch) scratch_length)) where
    short : refusal ≡ refuse_plain (not x) 12
    unfolding judge_refusal short_refusal flat_lines
    short = first_past _ _ o ∙ rw (e, eo, not-not (ltb (flat_lines verdicts) (class_count sheet) || ltb (length scratch) scratch_length)) refl

    pub short_stop : x ≡ false → Judges flat library user used verdicts scratch (refused (record { number = 12; sheet = 0; byte = 0 })) verdicts scratch
    unfolding refuse_plain refuse_if
    short_stop t = stop (short ∙ ap (λ (y : Bool). refuse_plain (not y) 12) t)

    module _ (t : x ≡ true) where
      long : T (not (ltb (flat_lines verdicts) own || ltb (length scratch) scratch_length))
      long = rw (sym e ∙ t) tt

      pub room : own ≤ flat_lines verdicts
      unfolding flat_lines
      room = nltb→le _ _ (not_or_l (ltb (flat_lines verdicts) own) (ltb (length scratch) scratch_length) long)

      pub enough : scratch_length ≤ length scratch
      enough = nltb→le _ _ (not_or_r (ltb (flat_lines verdicts) own) (ltb (length scratch) scratch_length) long)

      fine : refusal ≡ none
      unfolding refuse_plain refuse_if
      fine = short ∙ ap (λ (y : Bool). refuse_plain (not y) 12) t

      pub judged_all : (marks : List Bool) → ((i : ℕ) → i < total library sheet → get_or marks i false ≡ true) → {after cleaned : List ℕ} {m : ℕ}
          → after ≡ flat_rewritten (chosen (class_count library) (total library sheet) marks) (user_verdict library sheet) verdicts → cleaned ≡ cleared scratch
          → m ≡ faulted_in after (min own (flat_lines after))
          → Judges flat library user used verdicts scratch (accepted (record { classes = own; faulted = m })) after cleaned
      unfolding counts_of judged_row
      judged_all marks z {after} ea es em =
          let j = row_is library sheet marks z verdicts ea in
          record {
            answered =
                ap₂ (λ (i k : ℕ). accepted (record { classes = i; faulted = k })) eo
                (count_is library sheet verdicts (omega (arith, room, eo)) j (em ∙ ap (λ (k : ℕ). faulted_in after (min k (flat_lines after))) eo))
                ∙ answer_fine _ fine;
            verdicts_are = j ∙ new_fine _ _ fine;
            scratch_is = es ∙ new_fine _ _ fine;
          }
