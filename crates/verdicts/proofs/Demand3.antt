-- Demand 3 of the row of structs, from that of the flat row: after `write` the slice reads line by line what the flat row reads.
-- Assumes nothing.
use mathlib.Core.Path.{◌≡◌, sym, ◌∙◌, subst}
use mathlib.Core.Option.{none}
use mathlib.Core.List.{List, [], ◌∷◌}
use Prim.Native.Nat.{ℕ, ◌≤◌, ◌<◌}
use native.Mathlib.Omega.{arith}
use lib.ListN.{length, take}
use Rattle.spec.specs.Sheet.{class_count}
use Rattle.spec.specs.Refusals.{scratch_length, present_refusal, short_refusal, judge_refusal}
use Rattle.spec.specs.Verdicts.{flat, flat_at}
use Rattle.spec.specs.Promises.{State}
use Rattle.theory.proofs.Answers.{first_none, none_first}
use Rattle.history.specs.Judged.{RightAt}
use Rattle.history.specs.Model.{Model, sheet, used, buffer, model_step}
use Rattle.history.specs.Demand3.{Done, Agrees, Follows}
use Rattle.history.proofs.Model.{front_is}
use Rattle.theory.proofs.Unrefused.{short_none, none_short}
use Rattle.history.proofs.Demand3.{flat_demand3}
use Rattle.verdicts.specs.Row.{structs, line_at, written}
use Rattle.verdicts.specs.Demand3.{with_lines, holding, WrittenFollows, StructDemand3}
use Rattle.verdicts.specs.declared.Verdict.{Verdict}
use Rattle.verdicts.proofs.Filling.{written_length, reads_flat}

-- ---- as many lines as classes are enough, whatever their number

module _ (m : Model) where
  enough : (lines : ℕ) → judge_refusal m.library (buffer m) (used m) lines scratch_length ≡ none → class_count (sheet m) ≤ lines
  unfolding judge_refusal
  enough lines e =
      subst (λ (s : List ℕ). class_count s ≤ lines) (front_is m) (short_none (class_count (take (used m) (buffer m))) lines scratch_length (first_none _ e).1.0)

  still_accepted : (lines lines' : ℕ) → judge_refusal m.library (buffer m) (used m) lines scratch_length ≡ none → class_count (sheet m) ≤ lines'
      → judge_refusal m.library (buffer m) (used m) lines' scratch_length ≡ none
  unfolding judge_refusal
  still_accepted lines lines' e h =
      let needed : ℕ = class_count (take (used m) (buffer m)) in
      none_first (present_refusal m.library (buffer m) (used m) ∷ short_refusal needed lines' scratch_length ∷ [])
      ((first_none _ e).0, (none_short needed lines' (subst (λ (s : List ℕ). class_count s ≤ lines') (sym (front_is m)) h), tt))

-- ---- one state

module _ (m : Model) (s : State flat) (a : Agrees flat m s) (row : List Verdict) (n : ℕ) (fits : class_count (sheet m) ≤ length row) (all : class_count (sheet m) ≤ n) where
  reads : (i : ℕ) → i < class_count (sheet m) → line_at (written s.verdicts row n) i ≡ flat_at s.verdicts i
  reads i h = reads_flat s.verdicts row n i (omega (arith, a.lines_are, enough m m.lines a.accepted))

  agrees : Agrees structs (with_lines m (length row)) (holding s (written s.verdicts row n))
  unfolding sheet used buffer
  agrees = record {
    user_is = a.user_is;
    used_is = a.used_is;
    lines_are = written_length s.verdicts row n;
    accepted = still_accepted m m.lines (length row) a.accepted fits;
    verdicts_are = λ i h. reads i h ∙ a.verdicts_are i h;
    verdicts_right = λ l u i h. subst (RightAt m.library (sheet m) i) (sym (reads i h)) (a.verdicts_right l u i h);
  }

-- ---- every run

follows : (ds : List (Done flat)) (m : Model) (s : State flat) → Follows flat m s ds → WrittenFollows m s ds
follows [] m s f = λ row n. agrees m s f row n
follows (d ∷ ds) m s f = (λ row n. agrees m s f.0 row n, follows ds (model_step m d.call (length d.scratch)) d.after f.2)

pub struct_demand3 : StructDemand3
struct_demand3 library user n verdicts scratch answer verdicts_after scratch_after p counts e calls r =
    follows calls _ _ (flat_demand3 library user n verdicts scratch answer verdicts_after scratch_after p counts e calls r)
