-- Demand 3: one claim about a list of calls, however long, that starts from an accepted judging; read before the first call and after each one.
-- Stated over any verdict row whose verdicts can be read out.
-- Assumes nothing.
use Rattle.std.specs.Prelude.{◌≡◌, Bool, not, List, [], ◌∷◌, ℕ, suc, ◌+◌, ◌<◌, T, length}
use Rattle.std.proofs.Math.Option.{none, some}
use Rattle.spec.specs.Record.{Bytes}
use Rattle.spec.specs.Sheet.{class_count, total, group}
use Rattle.spec.specs.Rules.{Verdict, clean}
use Rattle.spec.specs.Relations.{Depends}
use Rattle.spec.specs.Breaks.{Not}
use Rattle.spec.specs.Refusals.{Refusal, scratch_length, judge_refusal}
use Rattle.spec.specs.Verdicts.{user_verdict, VerdictRow}
use Rattle.spec.specs.Promises.{Answer, accepted, Counts, Judges, State, Adds, Replaces, Withdraws, afterwards, cleared}
use Rattle.history.specs.Judged.{RightAt}
use Rattle.history.specs.Model.{Call, add, replace, withdraw, Model, sheet, used, buffer, opened, model_refusal, new_sheet, model_answer, model_step}

-- what a row of verdicts must satisfy: rewriting keeps how many it takes, writes the verdicts asked for and leaves every other one
pub record RowLaws (row : VerdictRow) : Type 0 where
  pub lines_same : (changed : ℕ → Bool) (v : ℕ → Verdict) (r : row.Row) → row.lines (row.rewritten changed v r) ≡ row.lines r
  pub at_changed : (changed : ℕ → Bool) (v : ℕ → Verdict) (r : row.Row) (i : ℕ) → i < row.lines r → T (changed i) → row.at (row.rewritten changed v r) i ≡ v i
  pub at_kept : (changed : ℕ → Bool) (v : ℕ → Verdict) (r : row.Row) (i : ℕ) → T (not (changed i)) → row.at (row.rewritten changed v r) i ≡ row.at r i

-- of the numbers below n, k are those that P holds of
pub data Counted (P : ℕ → Type 0) : ℕ → ℕ → Type 0 where
  empty : Counted P 0 0
  counted : {n k : ℕ} → Counted P n k → P n → Counted P (suc n) (suc k)
  skipped : {n k : ℕ} → Counted P n k → Not (P n) → Counted P (suc n) k

-- ---- each kind of call

-- the classes of the new sheets that depend on class c, itself among them
abbrev pub Dependent : Model → Call → ℕ → ℕ → Type 0
Dependent m call c d = Depends (group m.library (new_sheet m call)) d c

-- what the number that an accepted call answers is: the class's number; how many classes depend on the replaced one; the number of the class that was last
abbrev pub Value : Model → Call → ℕ → Type 0
Value m (add g) n = n ≡ class_count m.library + length m.groups
Value m (replace c g) n = Counted (Dependent m (replace c g) c) (total m.library (new_sheet m (replace c g))) n
Value m withdraw n = n + 1 ≡ class_count m.library + length m.groups

-- the lines that an accepted call may change: the new class's; those of the classes that depend on the replaced one; that of the class that was last
abbrev pub MayChange : Model → Call → ℕ → Type 0
MayChange m (add g) i = i ≡ length m.groups
MayChange m (replace c g) i = Dependent m (replace c g) c (class_count m.library + i)
MayChange m withdraw i = i + 1 ≡ length m.groups

-- what an accepted call leaves in the scratch; a withdrawal is lent none
abbrev pub left_of : Call → List ℕ → List ℕ
left_of (add g) scratch = cleared scratch
left_of (replace c g) scratch = cleared scratch
left_of withdraw scratch = scratch

module _ (row : VerdictRow) where
  -- one call as it went: what it brought, what it answered, and what it left
  pub record Done : Type 0 where
    pub call : Call
    pub scratch : List ℕ
    pub answer : Answer ℕ
    pub after : State row
    pub scratch_after : List ℕ

  -- it satisfies the operation's promise
  abbrev pub PromisedBy : List ℕ → State row → Call → List ℕ → Answer ℕ → State row → List ℕ → Type 0
  PromisedBy library before (add g) scratch answer after scratch_after = Adds row library g before scratch answer after scratch_after
  PromisedBy library before (replace c g) scratch answer after scratch_after = Replaces row library c g before scratch answer after scratch_after
  PromisedBy library before withdraw scratch answer after scratch_after = Withdraws row library before answer after × (scratch_after ≡ scratch)

  abbrev pub Promised : List ℕ → State row → Done → Type 0
  Promised library before d = PromisedBy library before d.call d.scratch d.answer d.after d.scratch_after

  -- a run: "Each call gets library sheet, user buffer, used length and slate as the last one left them"
  abbrev pub Runs : List ℕ → State row → List Done → Type 0
  Runs library s [] = Unit {0}
  Runs library s (d ∷ ds) = Promised library s d × Runs library d.after ds

  -- ---- what is claimed

  -- judging the model's sheets from nothing is accepted, and each class's verdict in the row is the one that it gives and is right about the rules that
  -- the class breaks; buffer and used length are the model's
  pub record Agrees (m : Model) (s : State row) : Type 0 where
    pub user_is : s.user ≡ buffer m
    pub used_is : s.used ≡ used m
    pub lines_are : row.lines s.verdicts ≡ m.lines
    pub accepted : judge_refusal m.library (buffer m) (used m) m.lines scratch_length ≡ none
    pub verdicts_are : (i : ℕ) → i < class_count (sheet m) → row.at s.verdicts i ≡ user_verdict m.library (sheet m) i
    -- demand 2 of the row; a slice of bytes has `Bytes` by its type
    pub verdicts_right : Bytes m.library → Bytes (buffer m) → (i : ℕ) → i < class_count (sheet m) → RightAt m.library (sheet m) i (row.at s.verdicts i)

  -- "its line becomes 0 0", though it is past the last class now; every other line that a call writes is one of `Agrees`
  abbrev pub LineLeft : Model → Call → State row → Type 0
  LineLeft m (add g) after = Unit {0}
  LineLeft m (replace c g) after = Unit {0}
  LineLeft m withdraw after = (i : ℕ) → i + 1 ≡ length m.groups → row.at after.verdicts i ≡ clean

  -- the answer is the model's; a refused call changes nothing; an accepted one answers what it should, leaves in scratch and line what it should, and keeps every verdict that it may not change
  pub record Answers (m : Model) (before : State row) (d : Done) : Type 0 where
    pub answer_is : d.answer ≡ model_answer m d.call (length d.scratch)
    pub refused : (r : Refusal) → model_refusal m d.call (length d.scratch) ≡ some r → (d.after ≡ before) × (d.scratch_after ≡ d.scratch)
    pub scratch_is : d.scratch_after ≡ afterwards (model_refusal m d.call (length d.scratch)) d.scratch (left_of d.call d.scratch)
    pub value : (n : ℕ) → d.answer ≡ accepted n → Value m d.call n
    pub line : (n : ℕ) → d.answer ≡ accepted n → LineLeft m d.call d.after
    pub kept : (i : ℕ) → Not (MayChange m d.call i) → row.at d.after.verdicts i ≡ row.at before.verdicts i

  -- before the first call and after each one
  abbrev pub Follows : Model → State row → List Done → Type 0
  Follows m s [] = Agrees m s
  Follows m s (d ∷ ds) = Agrees m s × Answers m s d × Follows (model_step m d.call (length d.scratch)) d.after ds

  abbrev pub Demand3 : Type 0
  Demand3 =
      (library user : List ℕ) (n : ℕ) (verdicts : row.Row) (scratch : List ℕ)
      → (answer : Answer Counts) (verdicts_after : row.Row) (scratch_after : List ℕ)
      → Judges row library user n verdicts scratch answer verdicts_after scratch_after
      → (counts : Counts) → answer ≡ accepted counts
      → (calls : List Done) → Runs library (record { user = user; used = n; verdicts = verdicts_after }) calls
      → Follows (opened library user n (row.lines verdicts)) (record { user = user; used = n; verdicts = verdicts_after }) calls
