-- Demand 2, locality and C-11's reason of the row that an accepted judging leaves, for any row with its laws; and of the flat one.
-- Assumes nothing.
use mathlib.Core.Path.{◌≡◌, sym, ap, ◌∙◌, subst}
use mathlib.Core.List.{List}
use mathlib.Core.Option.{none}
use Prim.Native.Nat.{ℕ, ◌+◌, ◌-◌, ◌≤◌, ◌<◌}
use native.Mathlib.Omega.{arith}
use lib.Dec.{ltb, lt→ltb}
use lib.ListN.{length, take}
use Rattle.spec.specs.Record.{Bytes}
use Rattle.spec.specs.Sheet.{class_count, total, group}
use Rattle.spec.specs.Rules.{verdict_of}
use Rattle.spec.specs.Breaks.{Breaks}
use Rattle.spec.specs.Refusals.{Accepted, present_refusal, judge_refusal}
use Rattle.spec.specs.Verdicts.{VerdictRow, flat, verdict_at, user_verdict}
use Rattle.spec.specs.Promises.{counts_of, judged_row}
use Rattle.theory.proofs.Answers.{first_none}
use Rattle.theory.specs.Claims.{Right}
use Rattle.theory.proofs.Demand2.{demand2}
use Rattle.theory.proofs.Statics.{right_no_token}
use Rattle.theory.proofs.Local.{locality}
use Rattle.history.specs.Judged.{RightAt, Accepts, RowRight, RowNoToken, RowLocal}
use Rattle.history.specs.Demand3.{RowLaws}
use Rattle.theory.proofs.Unrefused.{short_none}
use Rattle.theory.proofs.Promised.{told_fine, new_fine}
use Rattle.history.proofs.Flat.{flat_laws}

module _ (row : VerdictRow) (laws : RowLaws row) where
  module _ {library user : List ℕ} {used : ℕ} {after : row.Row} (a : Accepts row library user used after) where
    abbrev bytes : List ℕ
    bytes = take used user

    unrefused : judge_refusal library user used (row.lines a.before) (length a.scratch) ≡ none
    unrefused = (told_fine (judge_refusal library user used (row.lines a.before) (length a.scratch)) (counts_of library bytes) a.promised.answered).0

    present : present_refusal library user used ≡ none
    unfolding judge_refusal
    present = (first_none _ unrefused).0

    room : class_count bytes ≤ row.lines a.before
    unfolding judge_refusal
    room = short_none (class_count bytes) (row.lines a.before) (length a.scratch) (first_none _ unrefused).1.0

    pub line_is : (i : ℕ) → i < class_count bytes → row.at after i ≡ verdict_at library bytes (class_count library + i)
    unfolding judged_row user_verdict
    line_is i h =
        ap (λ (v : row.Row). row.at v i) (a.promised.verdicts_are ∙ sym (new_fine a.before _ unrefused))
        ∙ laws.at_changed (λ j. ltb j (class_count bytes)) (user_verdict library bytes) a.before i (omega (arith, room)) (lt→ltb i (class_count bytes) h)

    accepted : Bytes library → Bytes user → Accepted library user used
    accepted lb ub = record { library_bytes = lb; user_bytes = ub; unrefused = present }

  pub row_right : RowRight row
  unfolding total
  row_right library user used after a lb ub i h =
      subst (RightAt library (take used user) i) (sym (line_is a i h)) (demand2 library user used (accepted a lb ub) (class_count library + i) (omega arith) (omega arith))

  pub row_no_token : RowNoToken row
  unfolding total
  row_no_token library user used after a lb ub =
      let nlib : ℕ = class_count library in
      right_no_token library user used (accepted a lb ub) (λ c. row.at after (c - nlib))
      (λ c hl hn. subst (λ (d : ℕ). Right (Breaks nlib (group library (take used user)) d) (row.at after (c - nlib))) (let z : nlib + (c - nlib) ≡ c = omega arith in z)
      (row_right library user used after a lb ub (c - nlib) (omega arith)))

  pub row_local : RowLocal row
  unfolding verdict_at
  row_local library user used after a library' user' used' after' a' e i h h' same =
      line_is a i h ∙ locality (class_count library) (group library (take used user)) (group library' (take used' user')) (class_count library + i) same
      ∙ ap (λ (k : ℕ). verdict_of k (group library' (take used' user')) (k + i)) e ∙ sym (line_is a' i h')

pub flat_right : RowRight flat
flat_right = row_right flat flat_laws

pub flat_no_token : RowNoToken flat
flat_no_token = row_no_token flat flat_laws

pub flat_local : RowLocal flat
flat_local = row_local flat flat_laws
