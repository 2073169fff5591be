-- Nothing refuses the sheets that an accepted call reads, nor those that it leaves: so all of them are in order.
-- Assumes nothing.
use mathlib.Core.Path.{◌≡◌, refl, sym, ap, ◌∙◌, subst}
use mathlib.Core.Logic.{◌≢◌}
use mathlib.Core.List.{List, []}
use mathlib.Core.Option.{Option, none, some}
use Prim.Native.Nat.{ℕ}
use lib.ListN.{length, take}
use Rattle.spec.specs.Refusals.{Refusal, judge_refusal, query_refusal, index_refusal, lookup_refusal}
use Rattle.spec.specs.Verdicts.{VerdictRow}
use Rattle.spec.specs.Promises.{accepted, State, Changes, bytes_at, no_part, Names}
use Rattle.theory.specs.Claims.{InOrder}
use Rattle.theory.proofs.Answers.{first_none}
use Rattle.theory.proofs.Order.{sheets_in_order, order_holds}
use Rattle.theory.proofs.Promised.{told_fine, kept_refused, sheet_left}
use Rattle.history.specs.Demand3.{Done, Promised}
use Rattle.history.specs.InOrder.{HeldInOrder, ReadsInOrder}
use Rattle.history.proofs.Made.{present_of, made_acceptable}
use Rattle.history.proofs.Steps.{edit_of, promised}

changed_in_order : (row : VerdictRow) (library : List ℕ) (before : State row) (d : Done row) (n : ℕ) → Promised row library before d → d.answer ≡ accepted n
    → HeldInOrder row library before × HeldInOrder row library d.after
changed_in_order row library before d n p e =
    let edit = edit_of row library before d.call (length d.scratch) in
    let c : Changes row edit before (accepted n) d.after =
    subst (λ a. Changes row edit before a d.after) e (promised row library before d.call d.scratch d.answer d.after d.scratch_after p).changes in
    let fine = (told_fine edit.refusal edit.answer c.answered).0 in (
      order_holds library before.user before.used (present_of row library before d.call (length d.scratch) fine),
      subst (InOrder library) (sym (sheet_left row edit before c))
          (sheets_in_order library edit.sheet (made_acceptable row library before d.call (length d.scratch) fine).sheets),
    )

module _ (library user : List ℕ) (used c : ℕ) where
  -- a query that is not refused
  asked_in_order : query_refusal library user used c ≡ none → InOrder library (take used user)
  unfolding query_refusal
  asked_in_order e = order_holds library user used (first_none _ e).0

  named_in_order : (bytes : List ℕ) → Names library user used c bytes → bytes ≢ [] → InOrder library (take used user)
  unfolding bytes_at
  named_in_order bytes p filled = go (query_refusal library user used c) refl
    where
      go : (o : Option Refusal) → query_refusal library user used c ≡ o → InOrder library (take used user)
      go none e = asked_in_order e
      go (some r) e = absurd (filled (p.answered ∙ ap (bytes_at library user) (sym (kept_refused no_part _ e))))

pub reads_in_order : (row : VerdictRow) → ReadsInOrder row
unfolding judge_refusal index_refusal lookup_refusal
reads_in_order row = record {
  judge = λ library user used after a.
      order_holds library user used
      (first_none _ (told_fine (judge_refusal library user used (row.lines a.before) (length a.scratch)) _ a.promised.answered).0).0;
  change = changed_in_order row;
  marks = λ library user used c m p. asked_in_order library user used c (told_fine (query_refusal library user used c) _ p.answered).0;
  place = λ library user used c m p. asked_in_order library user used c (told_fine (query_refusal library user used c) _ p.answered).0;
  name = named_in_order;
  index = λ library user used n places places' p.
      order_holds library user used (first_none _ (told_fine (index_refusal library user used (length places)) _ p.answered).0).0;
  lookup = λ library user used c name places places' p.
      order_holds library user used (first_none _ (told_fine (lookup_refusal library user used name (length places)) _ p.answered).0).0;
}
