-- Answers and what is left afterwards, of a call that is refused or accepted; so the promise of an edit at each of its ends.
-- Assumes nothing.
use mathlib.Core.Path.{◌≡◌, refl, sym, ap, ap₂, ◌∙◌}
use mathlib.Core.List.{List}
use mathlib.Core.Option.{Option, none, some}
use Prim.Native.Nat.{ℕ}
use native.Mathlib.Omega.{arith}
use lib.ListN.{length, take}
use lib.Seq.{take-append_seam}
use Rattle.spec.specs.Refusals.{Refusal}
use Rattle.spec.specs.Verdicts.{VerdictRow}
use Rattle.spec.specs.Promises.{refused, accepted, answer_of, afterwards, buffer_with, State, Edit, edited, Changes}

module _ {A : Type 0} {o : Option Refusal} where
  pub answer_refused : (a : A) {r : Refusal} → o ≡ some r → refused r ≡ answer_of o a
  unfolding answer_of
  answer_refused a e = rw e

  pub answer_fine : (a : A) → o ≡ none → accepted a ≡ answer_of o a
  unfolding answer_of
  answer_fine a e = rw e

  pub kept_refused : (old new : A) {r : Refusal} → o ≡ some r → old ≡ afterwards o old new
  unfolding afterwards
  kept_refused old new e = rw e

  pub new_fine : (old new : A) → o ≡ none → new ≡ afterwards o old new
  unfolding afterwards
  new_fine old new e = rw e

-- what an answer tells of the refusal and of the value
pub told_fine : {A : Type 0} (o : Option Refusal) (a : A) {b : A} → accepted b ≡ answer_of o a → (o ≡ none) × (b ≡ a)
unfolding answer_of
told_fine none a e = (refl, cc)
told_fine (some r) a e = absurd (let z : ◌≡◌ {A = ℕ} 0 1 = cc in omega arith)

pub told_refused : {A : Type 0} (o : Option Refusal) (a : A) {r : Refusal} → refused r ≡ answer_of o a → o ≡ some r
unfolding answer_of
told_refused none a e = absurd (let z : ◌≡◌ {A = ℕ} 0 1 = cc in omega arith)
told_refused (some r) a e = cc

-- ---- any edit

module _ (row : VerdictRow) (e : Edit) (before : State row) where
  pub changes_refused : {r : Refusal} → e.refusal ≡ some r → Changes row e before (refused r) before
  changes_refused o = record { answered = answer_refused _ o; user_is = kept_refused _ _ o; used_is = kept_refused _ _ o; verdicts_are = kept_refused _ _ o }

  pub changes_made : e.refusal ≡ none → {value used : ℕ} {user : List ℕ} {verdicts : row.Row} → value ≡ e.answer → user ≡ buffer_with e.sheet before.user before.used
      → used ≡ length e.sheet → verdicts ≡ row.rewritten e.changed e.verdict before.verdicts
      → Changes row e before (accepted value) (record { user = user; used = used; verdicts = verdicts })
  unfolding edited
  changes_made o ev eu en er = record { answered = ap accepted ev ∙ answer_fine _ o; user_is = eu ∙ new_fine _ _ o; used_is = en ∙ new_fine _ _ o; verdicts_are = er ∙ new_fine _ _ o }

  -- an accepted one has the new sheet as its used bytes
  pub sheet_left : {n : ℕ} {after : State row} → Changes row e before (accepted n) after → take after.used after.user ≡ e.sheet
  unfolding edited buffer_with
  sheet_left c =
      let o = (told_fine e.refusal e.answer c.answered).0 in
      ap₂ take (c.used_is ∙ sym (new_fine _ _ o)) (c.user_is ∙ sym (new_fine _ _ o)) ∙ take-append_seam e.sheet _
