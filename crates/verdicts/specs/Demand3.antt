-- Demand 3 of the row of structs: what is claimed of the flat row along a run, said of any slice that it is written into.
-- Assumes nothing.
use Rattle.std.specs.Prelude.{◌≡◌, List, [], ◌∷◌, ℕ, ◌≤◌, length}
use Rattle.spec.specs.Sheet.{class_count}
use Rattle.spec.specs.Verdicts.{flat, flat_lines}
use Rattle.spec.specs.Promises.{Answer, accepted, Counts, Judges, State}
use Rattle.history.specs.Model.{Model, sheet, opened, model_step}
use Rattle.history.specs.Demand3.{Done, Runs, Agrees}
use Rattle.verdicts.specs.Row.{structs, written}
use Rattle.verdicts.specs.declared.Verdict.{Verdict}

-- the model with a row of so many lines
abbrev pub with_lines : Model → ℕ → Model
with_lines m lines = record { library = m.library; lines = lines; groups = m.groups; past = m.past }

-- the state with a slice in the place of the flat row
abbrev pub holding : State flat → List Verdict → State structs
holding s row = record { user = s.user; used = s.used; verdicts = row }

-- a slice with a line for each user class, into which the flat row's are written, agrees with the model
abbrev pub WrittenAgrees : Model → State flat → Type 0
WrittenAgrees m s =
    (row : List Verdict) (n : ℕ) → class_count (sheet m) ≤ length row → class_count (sheet m) ≤ n
    → Agrees structs (with_lines m (length row)) (holding s (written s.verdicts row n))

-- before the first call and after each one
abbrev pub WrittenFollows : Model → State flat → List (Done flat) → Type 0
WrittenFollows m s [] = WrittenAgrees m s
WrittenFollows m s (d ∷ ds) = WrittenAgrees m s × WrittenFollows (model_step m d.call (length d.scratch)) d.after ds

-- for every run from an accepted judging over the flat row
abbrev pub StructDemand3 : Type 0
StructDemand3 =
    (library user : List ℕ) (n : ℕ) (verdicts scratch : List ℕ)
    → (answer : Answer Counts) (verdicts_after scratch_after : List ℕ)
    → Judges flat library user n verdicts scratch answer verdicts_after scratch_after
    → (counts : Counts) → answer ≡ accepted counts
    → (calls : List (Done flat)) → Runs flat library (record { user = user; used = n; verdicts = verdicts_after }) calls
    → WrittenFollows (opened library user n (flat_lines verdicts)) (record { user = user; used = n; verdicts = verdicts_after }) calls
