-- One call: where the program's buffers are the model's, what the operation promises is what the model says of the call.
-- So the answer, the buffer and the used length afterwards are the model's; a refused call leaves all as it was, and an accepted one writes the verdicts that it should.
-- Assumes nothing.
use mathlib.Core.Path.{◌≡◌, refl, sym, ap, ap₂, ◌∙◌, subst}
use mathlib.Core.Bool.{Bool}
use mathlib.Core.List.{List, [], ◌∷◌, ◌++◌, map, append-nil}
use mathlib.Core.Option.{Option, none, some}
use Prim.Native.Nat.{ℕ, ◌+◌, ◌-◌}
use lib.Dec.{eqb}
use lib.ListN.{length, take, drop, set, replicate}
use Rattle.spec.specs.Lists.{concat}
use Rattle.spec.specs.Sheet.{groups_of, class_count, total}
use Rattle.spec.specs.Rules.{Verdict, clean}
use Rattle.spec.specs.Refusals.{Refusal, added_sheet, replaced_sheet, withdrawn_sheet, last_class, add_refusal, replace_refusal, withdraw_refusal}
use Rattle.spec.specs.Verdicts.{VerdictRow, user_verdict, depends_on, dependent_count}
use Rattle.spec.specs.Promises.{Answer, afterwards, buffer_with, State, Edit, edited, Changes, addition, replacement, withdrawal}
use Rattle.laws.proofs.All.{All}
use Rattle.theory.proofs.Cut.{IsGroup, groups_of_join, count_of_join, regroup, concat_append, map_take}
use Rattle.theory.proofs.Promised.{kept_refused, new_fine}
use Rattle.history.specs.Model.{Call, add, replace, withdraw, Model, sheet, used, buffer, model_refusal, new_groups, new_sheet, model_value, new_past, changed, model_step}
use Rattle.history.specs.Demand3.{Done, left_of, PromisedBy, Promised}
use Rattle.history.proofs.Model.{total_count, front_is, rest_is}

-- ---- what is left afterwards

same_anyway : {A : Type 0} (o : Option Refusal) (a : A) → afterwards o a a ≡ a
unfolding afterwards
same_anyway none a = refl
same_anyway (some r) a = refl

-- a part of what is left is what is left of the part
part : {A B : Type 0} (f : A → B) (o : Option Refusal) (a b : A) → f (afterwards o a b) ≡ afterwards o (f a) (f b)
unfolding afterwards
part f none a b = refl
part f (some r) a b = refl

pub library_stays : (m : Model) (call : Call) (scratch : ℕ) → (model_step m call scratch).library ≡ m.library
unfolding model_step changed afterwards
library_stays m call scratch = go (model_refusal m call scratch)
  where
    go : (o : Option Refusal) → (afterwards o m (changed m call)).library ≡ m.library
    go none = refl
    go (some r) = refl

-- ---- what the model says of a call, as an edit

-- the user classes whose verdicts an accepted call writes
unfoldable pub writes : Model → Call → ℕ → Bool
writes m (add g) i = eqb i (length m.groups)
writes m (replace c g) i = depends_on m.library (new_sheet m (replace c g)) c (class_count m.library + i)
writes m withdraw i = eqb i (length m.groups - 1)

-- what it writes there
unfoldable pub written_by : Model → Call → ℕ → Verdict
written_by m (add g) = user_verdict m.library (new_sheet m (add g))
written_by m (replace c g) = user_verdict m.library (new_sheet m (replace c g))
written_by m withdraw = λ i. clean

abbrev pub model_edit : Model → Call → ℕ → Edit
model_edit m call scratch = record { refusal = model_refusal m call scratch; sheet = new_sheet m call; answer = model_value m call; changed = writes m call; verdict = written_by m call }

-- the sheet that a call makes of a user sheet
abbrev made : List ℕ → List ℕ → Call → List ℕ
made library user (add g) = added_sheet user g
made library user (replace c g) = replaced_sheet library user c g
made library user withdraw = withdrawn_sheet user

pub made_is : (m : Model) → All IsGroup m.groups → (call : Call) → made m.library (sheet m) call ≡ new_sheet m call
unfolding added_sheet replaced_sheet withdrawn_sheet new_sheet new_groups sheet concat
made_is m w (add g) = ap (λ (l : List ℕ). concat m.groups ++ l) (sym (append-nil g)) ∙ sym (concat_append m.groups (g ∷ []))
made_is m w (replace c g) =
    ap (λ (gs : List (List ℕ)). concat (set gs (c - class_count m.library) g)) (ap (map concat) (groups_of_join m.groups w) ∙ regroup m.groups w)
made_is m w withdraw =
    ap concat
    (ap (λ (k : ℕ). map concat (take (k - 1) (groups_of (concat m.groups)))) (count_of_join m.groups w)
    ∙ map_take concat (length m.groups - 1) (groups_of (concat m.groups))
    ∙ ap (take (length m.groups - 1)) (ap (map concat) (groups_of_join m.groups w) ∙ regroup m.groups w))

module _ (row : VerdictRow) where
  -- the edit that an operation promises
  abbrev pub edit_of : List ℕ → State row → Call → ℕ → Edit
  edit_of library s (add g) scratch = addition row library s g scratch
  edit_of library s (replace c g) scratch = replacement row library s c g scratch
  edit_of library s withdraw scratch = withdrawal row library s

  -- what a call makes of its answer and the state, and what it leaves in the scratch that it was lent
  pub record Does (call : Call) (e : Edit) (s : State row) (scratch : List ℕ) (answer : Answer ℕ) (after : State row) (scratch_after : List ℕ) : Type 0 where
    pub changes : Changes row e s answer after
    pub scratch_is : scratch_after ≡ afterwards e.refusal scratch (left_of call scratch)

  pub promised : (library : List ℕ) (s : State row) (call : Call) (scratch : List ℕ) (answer : Answer ℕ) (after : State row) (scratch_after : List ℕ)
      → PromisedBy row library s call scratch answer after scratch_after → Does call (edit_of library s call (length scratch)) s scratch answer after scratch_after
  promised library s (add g) scratch answer after scratch_after p = record { changes = p.changes; scratch_is = p.scratch_is }
  promised library s (replace c g) scratch answer after scratch_after p = record { changes = p.changes; scratch_is = p.scratch_is }
  promised library s withdraw scratch answer after scratch_after p = record { changes = p.0; scratch_is = p.1 ∙ sym (same_anyway (withdrawal row library s).refusal scratch) }

  -- what the model says of a call that was made: why it is refused, and the model after it
  abbrev pub why : Model → Done row → Option Refusal
  why m d = model_refusal m d.call (length d.scratch)

  abbrev pub next : Model → Done row → Model
  next m d = model_step m d.call (length d.scratch)

  -- the promise in the model's words
  abbrev pub Modelled : Model → State row → Done row → Type 0
  Modelled m s d = Does d.call (model_edit m d.call (length d.scratch)) s d.scratch d.answer d.after d.scratch_after

  -- ---- user buffer, used length and the number of verdicts are the model's

  pub record ModelHolds (m : Model) (s : State row) : Type 0 where
    pub whole : All IsGroup m.groups
    pub user_is : s.user ≡ buffer m
    pub used_is : s.used ≡ used m
    pub lines_are : row.lines s.verdicts ≡ m.lines

  module _ (m : Model) (s : State row) (h : ModelHolds m s) where
    sheet_is : take s.used s.user ≡ sheet m
    sheet_is = (λ j. take (h.used_is j) (h.user_is j)) ∙ front_is m

    pub edit_is : (call : Call) (scratch : ℕ) → edit_of m.library s call scratch ≡ model_edit m call scratch
    unfolding addition replacement withdrawal model_refusal model_value writes written_by dependent_count sheet last_class
    edit_is (add g) scratch = λ j. record {
      refusal = add_refusal m.library (h.user_is j) (h.used_is j) g (h.lines_are j) scratch;
      sheet = (ap (λ (u : List ℕ). added_sheet u g) sheet_is ∙ made_is m h.whole (add g)) j;
      answer = (ap (total m.library) sheet_is ∙ total_count m.library m.groups h.whole) j;
      changed = λ i. eqb i ((ap class_count sheet_is ∙ count_of_join m.groups h.whole) j);
      verdict = user_verdict m.library ((ap (λ (u : List ℕ). added_sheet u g) sheet_is ∙ made_is m h.whole (add g)) j);
    }
    edit_is (replace c g) scratch =
        let new : replaced_sheet m.library (take s.used s.user) c g ≡ new_sheet m (replace c g) =
        ap (λ (u : List ℕ). replaced_sheet m.library u c g) sheet_is ∙ made_is m h.whole (replace c g) in
        λ j. record {
          refusal = replace_refusal m.library (h.user_is j) (h.used_is j) c g (h.lines_are j) scratch;
          sheet = new j;
          answer = dependent_count m.library (new j) c;
          changed = λ i. depends_on m.library (new j) c (class_count m.library + i);
          verdict = user_verdict m.library (new j);
        }
    edit_is withdraw scratch = λ j. record {
      refusal = withdraw_refusal m.library (h.user_is j) (h.used_is j) (h.lines_are j);
      sheet = (ap withdrawn_sheet sheet_is ∙ made_is m h.whole withdraw) j;
      answer = (ap (λ (u : List ℕ). total m.library u - 1) sheet_is ∙ ap (λ (n : ℕ). n - 1) (total_count m.library m.groups h.whole)) j;
      changed = λ i. eqb i ((ap class_count sheet_is ∙ count_of_join m.groups h.whole) j - 1);
      verdict = λ i. clean;
    }

    pub modelled : (library : List ℕ) → m.library ≡ library → (d : Done row) → Promised row library s d → Modelled m s d
    modelled library e d p =
        subst (λ (t : Edit). Does d.call t s d.scratch d.answer d.after d.scratch_after) (edit_is d.call (length d.scratch))
        (promised m.library s d.call d.scratch d.answer d.after d.scratch_after (subst (λ (l : List ℕ). Promised row l s d) (sym e) p))

    -- freed bytes become zero, the others past the new sheet stay
    buffer_is : (call : Call) → buffer_with (new_sheet m call) s.user s.used ≡ buffer (changed m call)
    unfolding buffer_with buffer changed new_past sheet new_sheet
    buffer_is call =
        ap (λ (l : List ℕ). new_sheet m call ++ drop (length (new_sheet m call)) l)
        ((λ j. replicate (h.used_is j) 0 ++ drop (h.used_is j) (h.user_is j)) ∙ ap (λ (l : List ℕ). replicate (used m) 0 ++ l) (rest_is m))

    pub user_after : (d : Done row) → Modelled m s d → d.after.user ≡ buffer (next m d)
    unfolding edited model_step
    user_after d p = p.changes.user_is ∙ ap₂ (afterwards (why m d)) h.user_is (buffer_is d.call) ∙ sym (part buffer (why m d) m (changed m d.call))

    pub used_after : (d : Done row) → Modelled m s d → d.after.used ≡ used (next m d)
    unfolding edited model_step used changed sheet new_sheet
    used_after d p =
        p.changes.used_is ∙ ap (λ (n : ℕ). afterwards (why m d) n (length (new_sheet m d.call))) h.used_is ∙ sym (part used (why m d) m (changed m d.call))

  -- ---- refused or accepted

  module _ (m : Model) (s : State row) (d : Done row) (p : Modelled m s d) where
    -- a refused call leaves program and model as they were
    pub state_stays : (r : Refusal) → why m d ≡ some r → d.after ≡ s
    state_stays r e = λ j. record {
      user = (p.changes.user_is ∙ sym (kept_refused s.user _ e)) j;
      used = (p.changes.used_is ∙ sym (kept_refused s.used _ e)) j;
      verdicts = (p.changes.verdicts_are ∙ sym (kept_refused s.verdicts _ e)) j;
    }

    pub model_stays : (r : Refusal) → why m d ≡ some r → next m d ≡ m
    unfolding model_step
    model_stays r e = sym (kept_refused m (changed m d.call) e)

    pub model_changes : why m d ≡ none → next m d ≡ changed m d.call
    unfolding model_step
    model_changes e = sym (new_fine m (changed m d.call) e)

    pub row_changes : why m d ≡ none → d.after.verdicts ≡ row.rewritten (writes m d.call) (written_by m d.call) s.verdicts
    unfolding edited
    row_changes e = p.changes.verdicts_are ∙ sym (new_fine s.verdicts _ e)
