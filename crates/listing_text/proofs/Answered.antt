-- What a judging tells of the listing: the refusal, or the counts and the verdicts.
-- Assumes nothing.
use mathlib.Core.Path.{◌≡◌, sym, ap, ◌∙◌}
use mathlib.Core.List.{List, ◌++◌}
use mathlib.Core.Option.{none, some}
use Prim.Native.Nat.{ℕ, ◌*◌, ◌≤◌}
use native.Mathlib.Omega.{arith}
use lib.Dec.{ltb, lt→ltb}
use lib.ListN.{length, take, length-append}
use lib.Seq.{take-length, length-take-le}
use Rattle.std.specs.Prelude.{Result, Ok, Err}
use Rattle.spec.specs.Lists.{gather, span}
use Rattle.spec.specs.Sheet.{class_count, total}
use Rattle.spec.specs.Verdicts.{verdict_bytes, user_verdict, flat, flat_lines, flat_at, flat_rewritten}
use Rattle.spec.specs.Refusals.{present_refusal, judge_refusal}
use Rattle.spec.specs.Promises.{Counts, counts_of, afterwards, cleared, judged_row, Judges}
use Rattle.theory.proofs.Answers.{first_none}
use Rattle.theory.proofs.Form.{accepted_sound}
use Rattle.theory.proofs.Unrefused.{present_facts, facts_present}
use Rattle.theory.proofs.FlatRow.{at_new, rewritten_length}
use Rattle.text.specs.Written.{Writes}
use Rattle.text.specs.declared.Writer.{Writer}
use Rattle.text.proofs.Digits.{decimal_length}
use Rattle.refusals.specs.Refusals.{refusal_of, answer_in}
use Rattle.refusals.specs.declared.Refusal.{Refusal}
use Rattle.verifier.specs.Answers.{counts_in}
use Rattle.verifier.specs.declared.Counts.{Counts as Counted}
use Rattle.theory.proofs.Promised.{told_fine, told_refused}
use Rattle.listing_text.specs.Listing.{classes_word, faulted_word, counts_text, refusal_text, line_text, listed_lines, listing_text}
use Rattle.listing_text.specs.Rows.{RowHolds}
use Rattle.text.proofs.Texts.{put_then, put_same}

-- the line of the counts is short
pub counts_short : (c : Counts) → length (counts_text c) ≤ 58
unfolding counts_text classes_word faulted_word
counts_short c = simp length-append (omega (arith, decimal_length c.classes, decimal_length c.faulted))

lines_of : (verdicts : List ℕ) → length verdicts ≡ verdict_bytes * listed_lines → flat_lines verdicts ≡ listed_lines
unfolding flat_lines
lines_of verdicts room = rw room

module _ (library user : List ℕ) (used : ℕ) (verdicts scratch : List ℕ) (room : length verdicts ≡ verdict_bytes * listed_lines) (judged : Result Counted Refusal) {verdicts' scratch' : List ℕ}
    (j : Judges flat library user used verdicts scratch (answer_in counts_in judged) verdicts' scratch') where
  pub scratch_after_lem : scratch' ≡ afterwards (judge_refusal library user used listed_lines (length scratch)) scratch (cleared scratch)
  scratch_after_lem = j.scratch_is ∙ ap (λ (k : ℕ). afterwards (judge_refusal library user used k (length scratch)) scratch (cleared scratch)) (lines_of verdicts room)

  -- a refusal
  module _ {r : Refusal} (f : judged ≡ Err r) where
    refused_by : judge_refusal library user used listed_lines (length scratch) ≡ some (refusal_of r)
    refused_by =
        ap (λ (k : ℕ). judge_refusal library user used k (length scratch)) (sym (lines_of verdicts room))
        ∙ told_refused (judge_refusal library user used (flat_lines verdicts) (length scratch)) _ (ap (answer_in counts_in) (sym f) ∙ j.answered)

    refused_text : refusal_text (refusal_of r) ≡ listing_text library user used (length scratch)
    unfolding listing_text
    refused_text = rw (refused_by, listing_text)

    pub refused_listing : {first writer : Writer} → Writes first (refusal_text (refusal_of r)) writer → Writes first (listing_text library user used (length scratch)) writer
    refused_listing w = put_same refused_text w

  -- counts and lines
  module _ {counts : Counted} (f : judged ≡ Ok counts) where
    told : (judge_refusal library user used (flat_lines verdicts) (length scratch) ≡ none) × (counts_in counts ≡ counts_of library (take used user))
    told = told_fine (judge_refusal library user used (flat_lines verdicts) (length scratch)) (counts_of library (take used user)) (ap (answer_in counts_in) (sym f) ∙ j.answered)

    accepted_sheets : present_refusal library user used ≡ none
    unfolding judge_refusal
    accepted_sheets = (first_none _ told.0).0

    -- the used bytes by themselves
    pub used_length : used ≡ length (take used user)
    used_length = sym (length-take-le used user (present_facts library user used accepted_sheets).in_buffer)

    pub used_sheets : present_refusal library (take used user) (length (take used user)) ≡ none
    used_sheets =
        let p = present_facts library user used accepted_sheets in
        facts_present library (take used user) (length (take used user)) (record {
          library_size = p.library_size;
          user_size = omega (arith, p.user_size, used_length);
          in_buffer = omega arith;
          sheets = rw (take-length (take used user)) p.sheets;
        })

    row_is : verdicts' ≡ flat_rewritten (λ i. ltb i (class_count (take used user))) (user_verdict library (take used user)) verdicts
    unfolding afterwards judged_row
    row_is = j.verdicts_are ∙ rw told.0

    few : class_count (take used user) ≤ 256
    unfolding total
    few = omega (arith, (accepted_sound library user used accepted_sheets).few)

    pub row_holds : RowHolds library (take used user) verdicts'
    row_holds = record {
      long = ap length row_is ∙ rewritten_length _ _ verdicts ∙ room;
      verdicts = λ i h.
          ap (λ (r : List ℕ). flat_at r i) row_is
          ∙ at_new (λ j. ltb j (class_count (take used user))) (user_verdict library (take used user)) verdicts i (omega (arith, few, lines_of verdicts room))
          (lt→ltb i (class_count (take used user)) h);
    }

    listed_text : counts_text (counts_in counts) ++ gather (line_text library (take used user)) (span 0 (class_count (take used user)))
        ≡ listing_text library user used (length scratch)
    unfolding listing_text
    listed_text =
        let o : judge_refusal library user used listed_lines (length scratch) ≡ none =
        ap (λ (k : ℕ). judge_refusal library user used k (length scratch)) (sym (lines_of verdicts room)) ∙ told.0 in
        rw told.1 (rw (o, listing_text))

    pub accepted_listing : {first counted writer : Writer} → Writes first (counts_text (counts_in counts)) counted
        → Writes counted (gather (line_text library (take used user)) (span 0 (class_count (take used user)))) writer → Writes first (listing_text library user used (length scratch)) writer
    accepted_listing v w = put_same listed_text (put_then v w)
