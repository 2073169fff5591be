-- The promise of an operation that writes a new user sheet, at each of its ends; and the frame of those that put a group in.
-- Assumes nothing.
use mathlib.Core.Path.{◌≡◌, refl, sym, ap, ap₂, ◌∙◌}
use mathlib.Core.Bool.{Bool, true, false, ◌&&◌}
use mathlib.Core.List.{List, ◌++◌, map}
use mathlib.Core.Option.{Option, none, some}
use Prim.Native.Nat.{ℕ, ◌+◌, ◌≤◌, ◌<◌}
use native.Mathlib.Omega.{arith}
use lib.Dec.{eqb, ltb}
use lib.ListN.{length, get_or, take, drop, replicate}
use lib.Seq.{take_at}
use borrow.Author.Tests.{ne_eqb, le-ltb, ltb-true, ltb-false}
use Rattle.spec.specs.Lists.{count, span}
use Rattle.spec.specs.Sheet.{class_count, total}
use Rattle.spec.specs.Rules.{Verdict}
use Rattle.spec.specs.Verdicts.{user_verdict, flat_lines, flat_rewritten, flat, depends_on}
use Rattle.spec.specs.Refusals.{Refusal}
use Rattle.spec.specs.Promises.{Answer, answer_of, afterwards, refused, accepted, cleared, buffer_with, State, Edit, edited, Makes}
use Rattle.theory.proofs.FlatRow.{rewritten_same}
use Rattle.laws.proofs.Count.{count_same}
use Rattle.laws.proofs.Rows.{get_or_values}
use Rattle.view.specs.View.{spliced}
use Rattle.admit.specs.Admitting.{admit_refusal}
use Rattle.flat.specs.Row.{chosen, marked_in}
use Rattle.theory.proofs.Promised.{kept_refused, new_fine, changes_refused, changes_made}
use Rattle.view.specs.declared.Cut.{Cut}
use Rattle.verifier.specs.Changing.{touches, putting}

-- ---- any edit that is lent a scratch

module _ (e : Edit) (before : State flat) (scratch : List ℕ) where
  pub edit_refused : {r : Refusal} → e.refusal ≡ some r → Makes flat e before scratch (refused r) before scratch
  edit_refused o = record { changes = changes_refused flat e before o; scratch_is = kept_refused _ _ o }

  edit_made : e.refusal ≡ none → {value used : ℕ} {user verdicts cleaned : List ℕ} → value ≡ e.answer → user ≡ buffer_with e.sheet before.user before.used → used ≡ length e.sheet
      → verdicts ≡ flat_rewritten e.changed e.verdict before.verdicts → cleaned ≡ cleared scratch
      → Makes flat e before scratch (accepted value) (record { user = user; used = used; verdicts = verdicts }) cleaned
  edit_made o ev eu en er es = record { changes = changes_made flat e before o ev eu en er; scratch_is = es ∙ new_fine _ _ o }

-- ---- a group put in

module _ (library new : List ℕ) (cut : Cut) (c : ℕ) (few : total library new ≤ 256) (there : c < total library new) {marks : List Bool}
    (t : marks ≡ map (touches library new cut c) (span 0 256)) where
  touched_at : (d : ℕ) → d < total library new → get_or marks d false ≡ touches library new cut c d
  touched_at d h = ap (λ (row : List Bool). get_or row d false) t ∙ get_or_values (touches library new cut c) 256 false d (omega arith)

  -- nothing past the last class is touched
  untouched : (d : ℕ) → total library new ≤ d → touches library new cut c d ≡ false
  unfolding touches depends_on
  untouched d h = go (eqb cut.from cut.used) refl
    where
      go : (b : Bool) → eqb cut.from cut.used ≡ b → touches library new cut c d ≡ false
      go true e = rw (e, touches) (ne_eqb d c (λ q. omega arith))
      go false e = rw (e, touches, le-ltb d (total library new) h)

  touched_chosen : (i : ℕ) → chosen (class_count library) (total library new) marks i ≡ touches library new cut c (class_count library + i)
  unfolding chosen
  touched_chosen i = go (ltb d (total library new)) refl
    where
      d : ℕ
      d = class_count library + i

      go : (b : Bool) → ltb d (total library new) ≡ b → (b && get_or marks d false) ≡ touches library new cut c d
      go true e = touched_at d (ltb-true d (total library new) e)
      go false e = sym (untouched d (ltb-false d (total library new) e))

  touched_counted : marked_in marks (total library new) ≡ count (touches library new cut c) (span 0 (total library new))
  unfolding marked_in
  touched_counted = count_same (λ d. get_or marks d false) (touches library new cut c) (total library new) touched_at

-- the sheet stands at the front of the buffer that was written
pub written_sheet : (new user : List ℕ) (used : ℕ) {user' : List ℕ} {size : ℕ} → user' ≡ buffer_with new user used → size ≡ length new → take size user' ≡ new
unfolding buffer_with
written_sheet new user used eu es = ap₂ take es eu ∙ take_at new (drop (length new) (replicate used 0 ++ drop used user)) (length new) refl

module _ (library user : List ℕ) (used : ℕ) (verdicts scratch g : List ℕ) (cut : Cut) (c : ℕ) where
  abbrev pub held : State flat
  held = record { user = user; used = used; verdicts = verdicts }

  abbrev put : Edit
  put = putting library held g cut c (length scratch)

  abbrev pub new : List ℕ
  new = spliced user g cut

  pub put_refused : {r : Refusal} → admit_refusal library user g new (flat_lines verdicts) (length scratch) ≡ some r → Makes flat put held scratch (refused r) held scratch
  unfolding putting
  put_refused e = edit_refused put held scratch e

  module _ (o : admit_refusal library user g new (flat_lines verdicts) (length scratch) ≡ none) (eu : cut.used ≡ used) (few : total library new ≤ 256) (there : c < total library new) where
    pub put_made : {marks : List Bool} → marks ≡ map (touches library new cut c) (span 0 256) → {value used' : ℕ} {user' verdicts' cleaned : List ℕ} → value ≡ marked_in marks (total library new)
        → user' ≡ buffer_with new user cut.used → used' ≡ length new
        → verdicts' ≡ flat_rewritten (chosen (class_count library) (total library new) marks) (user_verdict library new) verdicts → cleaned ≡ cleared scratch
        → Makes flat put held scratch (accepted value) (record { user = user'; used = used'; verdicts = verdicts' }) cleaned
    unfolding putting
    put_made {marks} t ev ew en er es =
        edit_made put held scratch o
        (ev ∙ touched_counted library new cut c few there t) (ew ∙ ap (buffer_with new user) eu) en
        (er ∙ rewritten_same (user_verdict library new) verdicts (chosen (class_count library) (total library new) marks) (λ i. touches library new cut c (class_count library + i))
        (touched_chosen library new cut c few there t))
        es

-- ---- one edit for another

-- two edits with the same refusal, sheet, touched classes and verdicts
pub makes_as : (e e' : Edit) → e.refusal ≡ e'.refusal → e.sheet ≡ e'.sheet → ((i : ℕ) → e.changed i ≡ e'.changed i) → e.verdict ≡ e'.verdict
    → {before after : State flat} {scratch cleaned : List ℕ} {answer answer' : Answer ℕ} → Makes flat e before scratch answer after cleaned
    → answer' ≡ answer_of e'.refusal e'.answer → Makes flat e' before scratch answer' after cleaned
unfolding edited
makes_as e e' er es ec ev {before} {scratch = scratch} m ea = record {
  changes = record {
    answered = ea;
    user_is = m.changes.user_is ∙ ap₂ (λ (o : Option Refusal) (s : List ℕ). afterwards o before.user (buffer_with s before.user before.used)) er es;
    used_is = m.changes.used_is ∙ ap₂ (λ (o : Option Refusal) (s : List ℕ). afterwards o before.used (length s)) er es;
    verdicts_are =
        m.changes.verdicts_are
        ∙ ap (afterwards e.refusal before.verdicts) (rewritten_same e.verdict before.verdicts e.changed e'.changed ec)
        ∙ ap₂ (λ (o : Option Refusal) (v : ℕ → Verdict). afterwards o before.verdicts (flat_rewritten e'.changed v before.verdicts)) er ev;
  };
  scratch_is = m.scratch_is ∙ ap (λ (o : Option Refusal). afterwards o scratch (cleared scratch)) er;
}
