use mathlib.Core.Path.{sym, ap, ◌∙◌}
use native.Mathlib.Omega.{arith}
use Prim.Native.Nat.{ℕ, ◌-◌}
use mathlib.Core.List.{List}
use lib.ListN.{take, drop}
use Rattle.spec.specs.Record.{class_name}
use Rattle.spec.specs.Sheet.{class_record}
use Rattle.records.proofs.Lined.{class_long, name_here}
use Rattle.records.proofs.group.Group.name.Goals as goal

pub word_in-requires : goal.word_in-requires
word_in-requires c = omega (arith, class_long c.self.invariant)

pub slice_bounds-result-count : goal.slice_bounds-result-count
slice_bounds-result-count c = omega (arith, class_long c.self.invariant, c.word_in.ensures, c.from-len.ensures)

pub slice_bounds-result-start : goal.slice_bounds-result-start
slice_bounds-result-start c = omega (arith, class_long c.self.invariant, c.word_in.ensures, c.from-len.ensures)

pub slice_bounds-result-end : goal.slice_bounds-result-end
slice_bounds-result-end c = omega (arith, class_long c.self.invariant, c.word_in.ensures, c.from-len.ensures)

pub returns : goal.returns
returns c =
    ap (λ (n : ℕ). take (n - 12) (drop 12 c.self.inside.bytes.now)) (c.from-len.ensures ∙ c.word_in.ensures)
    ∙ sym (name_here c.self.invariant)
    ∙ ap (λ (g : List (List ℕ)). class_name (class_record g)) c.self.view_is
