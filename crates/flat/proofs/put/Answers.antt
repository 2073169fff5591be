-- The bytes of a line that is there, written as one part of the row.
use Rattle.std.proofs.Common.{◌≡◌, ◌∙◌, ◌++◌, ◌+◌, ◌*◌, ◌≤◌, length, take, drop, List, ℕ, sym, ap, arith}
use mathlib.Core.List.{append_assoc}
use Rattle.std.proofs.lemmas.List.{drop-drop}
use Rattle.std.proofs.lemmas.List.Edits.{sets, sets-eq}
use borrow.Rule.Slice.PartMut.{put_mid}
use Rattle.spec.specs.Verdicts.{verdict_bytes, bytes_of}
use Rattle.theory.proofs.FlatRow.{line_room}
use Rattle.rules.specs.Line.{line_of}
use Rattle.flat.specs.Row.{put_at}
use Rattle.flat.proofs.put.Goals as goal

part_set : (vs ys l : List ℕ) (i k : ℕ) → ys ≡ vs → k ≡ length vs → i + length vs ≤ length l → put_mid i k l ys ≡ sets l i vs
part_set vs ys l i k e n h =
    ap (λ (s : List ℕ). take i l ++ s) (ap (λ (s : List ℕ). s ++ drop k (drop i l)) e ∙ ap (λ (s : List ℕ). vs ++ s) (drop-drop k i l ∙ ap (λ (j : ℕ). drop (i + j) l) n))
    ∙ sym (append_assoc (take i l) vs _) ∙ sym (sets-eq vs l i h)

pub overflow_mul-at : goal.overflow_mul-at
overflow_mul-at c = omega (arith, line_room _ c.requires)

pub overflow_add-at : goal.overflow_add-at
overflow_add-at c = omega (arith, line_room _ c.requires)

pub slice_bounds-copy-end : goal.slice_bounds-copy-end
slice_bounds-copy-end c = omega (arith, line_room _ c.requires)

pub returns : goal.returns
unfolding put_at bytes_of
returns c =
    part_set (bytes_of (line_of c.args.fault)) c.copy.new.to c.args.verdicts.now (verdict_bytes * c.args.i) _ (c.copy.ensures ∙ c.line.ensures) (omega arith)
    (line_room _ c.requires)
