-- A group of the sheet in the part that it lies in.
use Rattle.std.proofs.Common.{refl, arith}
use Rattle.view.proofs.Seams.{ordered, group_bytes, tail_within, tail_bytes}
use Rattle.view.proofs.Draft.part.Goals as goal

pub slice_bounds-result-count : goal.slice_bounds-result-count
slice_bounds-result-count c = ordered c.requires

pub slice_bounds-result-start : goal.slice_bounds-result-start
slice_bounds-result-start c = ordered c.requires

pub returns-then-start-next : goal.returns-then-start-next
returns-then-start-next c = group_bytes c.parts.ensures c.requires c.if-end-head.false c.if-start-next.true

pub overflow_sub-result-2 : goal.overflow_sub-result-2
overflow_sub-result-2 c = omega (arith, ordered c.requires)

pub slice_bounds-result-count-2 : goal.slice_bounds-result-count-2
slice_bounds-result-count-2 c = omega (arith, ordered c.requires)

pub slice_bounds-result-start-2 : goal.slice_bounds-result-start-2
slice_bounds-result-start-2 c = omega (arith, ordered c.requires)

pub slice_bounds-result-end-2 : goal.slice_bounds-result-end-2
slice_bounds-result-end-2 c = omega (arith, tail_within c.parts.ensures c.requires)

pub returns : goal.returns
returns c = tail_bytes c.parts.ensures c.requires refl c.if-start-next.false
