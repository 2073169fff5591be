-- After `write` the slice reads line by line what the flat row reads, so what an addition and a withdrawal give back there they give back here.
-- Assumes nothing.
use mathlib.Core.Path.{◌≡◌, sym, ◌∙◌}
use mathlib.Core.List.{List}
use mathlib.Core.Logic.{◌≢◌}
use Prim.Native.Nat.{ℕ, ◌<◌}
use native.Mathlib.Decide.{dec_lt}
use native.Mathlib.Omega.{arith}
use lib.ListN.{length, take}
use Rattle.spec.specs.Sheet.{class_count}
use Rattle.spec.specs.Verdicts.{flat, flat_lines}
use Rattle.spec.specs.Promises.{State}
use Rattle.history.specs.Undo.{Undone}
use Rattle.history.proofs.Flat.{flat_laws}
use Rattle.history.proofs.Undo.{line_there, flat_undo}
use Rattle.verdicts.specs.Row.{structs, line_at, shared, written}
use Rattle.verdicts.specs.Demand3.{holding}
use Rattle.verdicts.specs.Undo.{StructUndo}
use Rattle.verdicts.specs.declared.Verdict.{Verdict}
use Rattle.verdicts.proofs.Filling.{written_length, reads_flat, reads_row}

module _ (before : State flat) (g : List ℕ) (last : State flat) (u : Undone flat before g last)
    (there : class_count (take before.used before.user) < flat_lines before.verdicts) (row : List Verdict) (n : ℕ) where
  abbrev first : List Verdict
  first = written before.verdicts row n

  -- how many lines are written, both times
  abbrev k : ℕ
  k = shared n (length row) before.verdicts

  still : shared n (length first) last.verdicts ≡ k
  still = omega (arith, written_length before.verdicts row n, u.lines_are)

  kept_line : (i : ℕ) → i ≢ class_count (take before.used before.user) → Dec (i < k) → line_at (written last.verdicts first n) i ≡ line_at first i
  kept_line i ne (yes h) = reads_flat last.verdicts first n i (omega (arith, still)) ∙ u.other_lines i ne ∙ sym (reads_flat before.verdicts row n i h)
  kept_line i ne (no h) = reads_row last.verdicts first n i (omega (arith, still))

  undone : class_count (take before.used before.user) < length row → class_count (take before.used before.user) < n
      → Undone structs (holding before first) g (holding last (written last.verdicts first n))
  undone hr hn = record {
    used_is = u.used_is;
    user_is = u.user_is;
    lines_are = written_length last.verdicts first n;
    cleared_line = reads_flat last.verdicts first n (class_count (take before.used before.user)) (omega (arith, still, there)) ∙ u.cleared_line;
    other_lines = λ i ne. kept_line i ne (dec_lt i k);
  }

pub struct_undo : StructUndo
struct_undo library g before after last scratch scratch_after class answer a w =
    let u = flat_undo library g before after last scratch scratch_after class answer a w in
    (u.0, undone before g last u.1 (line_there flat flat_laws library g before after last scratch scratch_after class a))
