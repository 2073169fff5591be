-- What each operation promises of its answer and of every buffer that it is lent, on refusals too (document 01, "The operations and what they turn away").
-- A promise is a record of equations between the values at entry and at exit; the contracts of the program are these propositions.
-- Assumes nothing.
use Rattle.std.specs.Prelude.{◌≡◌, Bool, true, false, List, ◌++◌, ℕ, ◌+◌, ◌-◌, eqb, ltb, length, take, drop, replicate, unwrap_or}
use Rattle.std.proofs.Math.Option.{Option, none, some}
use Rattle.spec.specs.Record.{none16, name_start}
use Rattle.spec.specs.Sheet.{class_count, total, group, group_start, class_record}
use Rattle.spec.specs.Classes.{overlay}
use Rattle.spec.specs.Rules.{Verdict, clean}
use Rattle.spec.specs.Index.{index_places, names_index, class_named}
use Rattle.spec.specs.Refusals.{Refusal, scratch_length, added_sheet, replaced_sheet, withdrawn_sheet, last_class, judge_refusal, add_refusal, replace_refusal, withdraw_refusal}
use Rattle.spec.specs.Refusals.{query_refusal, index_refusal, lookup_refusal}
use Rattle.spec.specs.Verdicts.{user_verdict, faulted_count, depends_on, dependent_count, VerdictRow}

-- an operation's answer: a refusal, or its values
pub data Answer (A : Type 0) : Type 0 where
  refused : Refusal → Answer A
  accepted : A → Answer A

unfoldable pub answer_of : {A : Type 0} → Option Refusal → A → Answer A
answer_of o a = elim o [ some r ↦ refused r | none ↦ accepted a ]

-- what a buffer holds afterwards: as it was if the call is refused, else anew
unfoldable pub afterwards : {A : Type 0} → Option Refusal → A → A → A
afterwards o old new = elim o [ some r ↦ old | none ↦ new ]

-- "The scratch is 65,536 bytes, all zero after an accepted call; bytes beyond are untouched"
unfoldable pub cleared : List ℕ → List ℕ
cleared scratch = replicate scratch_length 0 ++ drop scratch_length scratch

-- ---- Judge: "Accepted: user classes and faulted lines counted"

pub record Counts : Type 0 where
  pub classes : ℕ
  pub faulted : ℕ

unfoldable pub counts_of : List ℕ → List ℕ → Counts
counts_of library user = record { classes = class_count user; faulted = faulted_count library user }

module _ (row : VerdictRow) (library user : List ℕ) (used : ℕ) (verdicts : row.Row) (scratch : List ℕ) where
  -- "Lines past the last user class are untouched"
  unfoldable pub judged_row : row.Row
  judged_row = let sheet = take used user in row.rewritten (λ i. ltb i (class_count sheet)) (user_verdict library sheet) verdicts

  pub record Judges (answer : Answer Counts) (verdicts_after : row.Row) (scratch_after : List ℕ) : Type 0 where
    pub answered : answer ≡ answer_of (judge_refusal library user used (row.lines verdicts) (length scratch)) (counts_of library (take used user))
    pub verdicts_are : verdicts_after ≡ afterwards (judge_refusal library user used (row.lines verdicts) (length scratch)) verdicts judged_row
    pub scratch_is : scratch_after ≡ afterwards (judge_refusal library user used (row.lines verdicts) (length scratch)) scratch (cleared scratch)

-- ---- Add, Replace and Withdraw

-- the user buffer around a new sheet: "freed bytes become zero", the others past it stay
unfoldable pub buffer_with : List ℕ → List ℕ → ℕ → List ℕ
buffer_with new user used = new ++ drop (length new) (replicate used 0 ++ drop used user)

-- what the program holds between two calls: user buffer, used length, verdict row
pub record State (row : VerdictRow) : Type 0 where
  pub user : List ℕ
  pub used : ℕ
  pub verdicts : row.Row

-- an operation that writes a new user sheet: why it is refused, the sheet, the answer, the lines of the row that it writes, and what it writes there
pub record Edit : Type 0 where
  pub refusal : Option Refusal
  pub sheet : List ℕ
  pub answer : ℕ
  pub changed : ℕ → Bool
  pub verdict : ℕ → Verdict

module _ (row : VerdictRow) where
  unfoldable pub edited : Edit → State row → State row
  edited e s = record {
    user = buffer_with e.sheet s.user s.used;
    used = length e.sheet;
    verdicts = row.rewritten e.changed e.verdict s.verdicts;
  }

  -- what it makes of the answer and of what the program holds
  pub record Changes (e : Edit) (before : State row) (answer : Answer ℕ) (after : State row) : Type 0 where
    pub answered : answer ≡ answer_of e.refusal e.answer
    pub user_is : after.user ≡ afterwards e.refusal before.user (edited e before).user
    pub used_is : after.used ≡ afterwards e.refusal before.used (edited e before).used
    pub verdicts_are : after.verdicts ≡ afterwards e.refusal before.verdicts (edited e before).verdicts

  -- and of the scratch, where it is lent one
  pub record Makes (e : Edit) (before : State row) (scratch : List ℕ) (answer : Answer ℕ) (after : State row) (scratch_after : List ℕ) : Type 0 where
    pub changes : Changes e before answer after
    pub scratch_is : scratch_after ≡ afterwards e.refusal scratch (cleared scratch)

module _ (row : VerdictRow) (library : List ℕ) where
  -- Add: "the class's number; group written after the used bytes, its line written, used length raised"
  unfoldable pub addition : State row → List ℕ → ℕ → Edit
  addition s g scratch =
      let sheet = take s.used s.user in
      record {
        refusal = add_refusal library s.user s.used g (row.lines s.verdicts) scratch;
        sheet = added_sheet sheet g;
        answer = total library sheet;
        changed = λ i. eqb i (class_count sheet);
        verdict = user_verdict library (added_sheet sheet g);
      }

  -- Replace: "the count of classes standing on it, their lines rewritten; later groups move up or down, freed bytes become zero, the used length is the new sheet's"
  unfoldable pub replacement : State row → ℕ → List ℕ → ℕ → Edit
  replacement s c g scratch =
      let new = replaced_sheet library (take s.used s.user) c g in
      record {
        refusal = replace_refusal library s.user s.used c g (row.lines s.verdicts) scratch;
        sheet = new;
        answer = dependent_count library new c;
        changed = λ i. depends_on library new c (class_count library + i);
        verdict = user_verdict library new;
      }

  -- Withdraw (document 02, C-12): "Its bytes in the buffer become zero, the used length falls, its line becomes 0 0"; it answers "that class's number"
  unfoldable pub withdrawal : State row → Edit
  withdrawal s =
      let sheet = take s.used s.user in
      record {
        refusal = withdraw_refusal library s.user s.used (row.lines s.verdicts);
        sheet = withdrawn_sheet sheet;
        answer = last_class library sheet;
        changed = λ i. eqb i (class_count sheet - 1);
        verdict = λ i. clean;
      }

  abbrev pub Adds : List ℕ → State row → List ℕ → Answer ℕ → State row → List ℕ → Type 0
  Adds g before scratch answer after scratch_after = Makes row (addition before g (length scratch)) before scratch answer after scratch_after

  abbrev pub Replaces : ℕ → List ℕ → State row → List ℕ → Answer ℕ → State row → List ℕ → Type 0
  Replaces c g before scratch answer after scratch_after = Makes row (replacement before c g (length scratch)) before scratch answer after scratch_after

  abbrev pub Withdraws : State row → Answer ℕ → State row → Type 0
  Withdraws before answer after = Changes row (withdrawal before) before answer after

-- ---- Marks: "Marks gives the overlay set"

module _ (library user : List ℕ) (used : ℕ) (c : ℕ) where
  pub record Marks (answer : Answer ℕ) : Type 0 where
    pub answered : answer ≡ answer_of (query_refusal library user used c) (overlay (group library (take used user)) c)

-- ---- Name: "the name is handed back as the part of whichever sheet holds it"

-- a part of a sheet: the sheet (0 library, 1 user), where it starts, how long it is
pub record Part : Type 0 where
  pub sheet : ℕ
  pub start : ℕ
  pub size : ℕ

unfoldable pub bytes_at : List ℕ → List ℕ → Part → List ℕ
bytes_at library user p = take p.size (drop p.start (elim (eqb p.sheet 0) [ true ↦ library | false ↦ user ]))

-- where the name of class c stands in its sheet
unfoldable pub name_part : List ℕ → List ℕ → ℕ → Part
name_part library user c =
    let size = length (class_record (group library user c)) - name_start in
    elim (ltb c (class_count library)) [
      | true ↦ record { sheet = 0; start = group_start library c + name_start; size = size }
      | false ↦ record { sheet = 1; start = group_start user (c - class_count library) + name_start; size = size }
    ]

-- "A refused Name hands back an empty part of the library sheet": the one at its start
abbrev pub no_part : Part
no_part = record { sheet = 0; start = 0; size = 0 }

module _ (library user : List ℕ) (used : ℕ) (c : ℕ) where
  -- the place of the name, or the refusal
  pub record Places (answer : Answer Part) : Type 0 where
    pub answered : answer ≡ answer_of (query_refusal library user used c) (name_part library (take used user) c)

  -- the name's bytes
  pub record Names (bytes : List ℕ) : Type 0 where
    pub answered : bytes ≡ bytes_at library user (afterwards (query_refusal library user used c) no_part (name_part library (take used user) c))

-- ---- Index and Lookup (document 02, C-17)

module _ (library user : List ℕ) (used : ℕ) where
  -- "each, when accepted, fills the row anew and leaves places past 512"
  unfoldable pub indexed : List ℕ → List ℕ
  indexed row = names_index library (take used user) ++ drop index_places row

  -- "Indexing answers how many entered"
  pub record Indexes (row : List ℕ) (answer : Answer ℕ) (row_after : List ℕ) : Type 0 where
    pub answered : answer ≡ answer_of (index_refusal library user used (length row)) (total library (take used user))
    pub row_is : row_after ≡ afterwards (index_refusal library user used (length row)) row (indexed row)

  -- "lookup the class number", as the walk finds it. The index is only the way there
  pub record Finds (name row : List ℕ) (answer : Answer ℕ) (row_after : List ℕ) : Type 0 where
    pub answered : answer ≡ answer_of (lookup_refusal library user used name (length row)) (unwrap_or (class_named library (take used user) name) none16)
    pub row_is : row_after ≡ afterwards (lookup_refusal library user used name (length row)) row (indexed row)
