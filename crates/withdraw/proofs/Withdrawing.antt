-- The last class taken out: where its group begins, what its bytes and its line become.
-- Assumes nothing.
use mathlib.Core.Path.{◌≡◌, sym, ap, ◌∙◌, subst}
use mathlib.Core.List.{List, map, ◌++◌}
use mathlib.Core.Option.{none, some}
use Prim.Native.Nat.{ℕ, ◌+◌, ◌-◌, ◌*◌, ◌≤◌, ◌<◌}
use native.Mathlib.Omega.{arith}
use lib.Dec.{eqb, ltb, nltb→le}
use lib.ListN.{length, take, drop, replicate, length-append, length-replicate}
use lib.Seq.{take-take, take-append_seam, length-take-le}
use borrow.Rule.Slice.PartMut.{put_mid}
use Rattle.std.specs.List.{between}
use Rattle.std.proofs.lemmas.List.Edits.{length-between}
use Rattle.std.proofs.lemmas.Slice.{put_mid-paste}
use Rattle.spec.specs.Lists.{concat}
use Rattle.spec.specs.Sheet.{groups_of, class_count, group_start, total}
use Rattle.spec.specs.Rules.{clean}
use Rattle.spec.specs.Verdicts.{verdict_bytes, bytes_of, flat_lines, flat_rewritten, flat}
use Rattle.spec.specs.Refusals.{Refusal, few_lines_refusal, last_class, withdrawn_sheet, withdraw_refusal}
use Rattle.spec.specs.Promises.{refused, accepted, buffer_with, State, Edit, Changes, withdrawal}
use Rattle.theory.proofs.Answers.{first_none, plain_none}
use Rattle.theory.proofs.Cut.{concat_concat}
use Rattle.theory.proofs.FlatRow.{line_put, line_room}
use Rattle.theory.proofs.Promised.{changes_refused, changes_made}
use Rattle.theory.proofs.Unrefused.{Present, present_facts}
use Rattle.theory.proofs.Withdraw.{some_class, withdrawn_front}
use Rattle.groups.specs.Groups.{start_of}
use Rattle.groups.proofs.Held.{in_user}
use Rattle.edit.proofs.Splicing.{cut_off}
use Rattle.sheets.specs.Sheets.{Pair, Passed, library_count, count}
use Rattle.sheets.proofs.Indexes.{indexed}
use Rattle.withdraw.specs.declared.Last.{Last}
use Rattle.withdraw.specs.Last.{IsLast}

-- ---- the last class

-- its group begins where the others end
module _ {p : Pair} (x : Passed p) (some : 1 ≤ class_count p.user) where
  begins : start_of p.library p.user (count p - 1) ≡ length (withdrawn_sheet p.user)
  unfolding group_start withdrawn_sheet total
  begins =
      let own : count p - 1 - library_count p ≡ class_count p.user - 1 = omega arith in
      (in_user (indexed x) {c = count p - 1} (omega arith) (omega arith)).start
      ∙ ap length (sym (concat_concat (take (count p - 1 - library_count p) (groups_of p.user))))
      ∙ ap (λ (k : ℕ). length (concat (map concat (take k (groups_of p.user))))) own

  pub last_is : {library user : List ℕ} → p ≡ record { library = library; user = user } → {last : Last}
      → last.class ≡ count p - 1 → last.start ≡ start_of p.library p.user last.class → last.line ≡ count p - library_count p - 1 → IsLast library user last
  unfolding last_class total
  last_is q {last} ec es el =
      subst (λ (t : Pair). IsLast t.library t.user last) q
      (record { class_is = ec; start_is = es ∙ ap (start_of p.library p.user) ec ∙ begins; line_is = omega (arith, el) })

-- ---- the call

module _ (library user : List ℕ) (used : ℕ) (verdicts : List ℕ) where
  abbrev held : State flat
  held = record { user = user; used = used; verdicts = verdicts }

  abbrev edit : Edit
  edit = withdrawal flat library held

  abbrev sheet : List ℕ
  sheet = take used user

  abbrev left : List ℕ
  left = withdrawn_sheet sheet

  pub withdraw_refused : {r : Refusal} → withdraw_refusal library user used (flat_lines verdicts) ≡ some r → Changes flat edit held (refused r) held
  unfolding withdrawal
  withdraw_refused e = changes_refused flat edit held e

  module _ {last : Last} (o : withdraw_refusal library user used (flat_lines verdicts) ≡ none) (x : IsLast library sheet last) where
    present : Present library user used
    unfolding withdraw_refusal
    present = present_facts library user used (first_none _ o).0

    some_left : 1 ≤ class_count sheet
    unfolding withdraw_refusal
    some_left = some_class sheet (first_none _ o).1.0

    lines_there : class_count sheet ≤ flat_lines verdicts
    unfolding withdraw_refusal few_lines_refusal
    lines_there =
        nltb→le (flat_lines verdicts) (class_count sheet) (plain_none (ltb (flat_lines verdicts) (class_count sheet)) 12 (first_none _ o).1.1.1.0)

    -- ---- the bytes

    front : sheet ≡ left ++ concat (map concat (drop (class_count sheet - 1) (groups_of sheet)))
    front = withdrawn_front library sheet present.sheets some_left

    left_within : length left ≤ used
    left_within =
        omega (arith, length-take-le used user present.in_buffer, ap length front, length-append left (concat (map concat (drop (class_count sheet - 1) (groups_of sheet)))))

    left_is : take (length left) user ≡ left
    left_is = sym (take-take (length left) used user left_within) ∙ ap (take (length left)) front ∙ take-append_seam left _

    pub within : (last.start ≤ used) × (used ≤ length user)
    within = (omega (arith, x.start_is, left_within), present.in_buffer)

    -- ---- the line

    line_there : last.line < flat_lines verdicts
    line_there = omega (arith, x.line_is, some_left, lines_there)

    pub room : verdict_bytes * last.line + verdict_bytes ≤ length verdicts
    room = line_room verdicts line_there

    -- ---- the end

    pub withdrawn : {zeros blank : List ℕ} → zeros ≡ replicate (length (between last.start used user)) 0
        → blank ≡ replicate (length (between (verdict_bytes * last.line) (verdict_bytes * last.line + verdict_bytes) verdicts)) 0
        → Changes flat edit held (accepted last.class) (record {
          user = put_mid last.start (used - last.start) user zeros;
          used = last.start;
          verdicts = put_mid (verdict_bytes * last.line) (verdict_bytes * last.line + verdict_bytes - verdict_bytes * last.line) verdicts blank;
        })
    unfolding withdrawal bytes_of
    withdrawn {zeros} {blank} ez eb =
        let line = verdict_bytes * last.line in
        let w : verdict_bytes ≡ line + verdict_bytes - line = omega arith in
        let clear : blank ≡ replicate verdict_bytes 0 = eb ∙ ap (λ (k : ℕ). replicate k 0) (length-between verdicts line (line + verdict_bytes) room ∙ sym w) in
        changes_made flat edit held o x.class_is
        (rw x.start_is (cut_off user used (length left) left_within within.1 (rw x.start_is at ez) ∙ ap (λ (s : List ℕ). buffer_with s user used) left_is))
        x.start_is
        (put_mid-paste line (line + verdict_bytes - line) verdicts blank (replicate verdict_bytes 0) verdict_bytes clear w (sym (length-replicate {A = ℕ} verdict_bytes 0))
        ∙ line_put clean verdicts last.line line_there
        ∙ ap (λ (i : ℕ). flat_rewritten (λ j. eqb j i) (λ j. clean) verdicts) x.line_is)
