use native.Mathlib.Omega.{arith}
use Rattle.queries.proofs.Parts.{no_name, small, room, part_name}
use Rattle.queries.proofs.name.Goals as goal

pub returns-in_default : goal.returns-in_default
returns-in_default c = no_name _ _ _ _ c.in_default.ensures

pub overflow_add-result : goal.overflow_add-result
overflow_add-result c = omega (arith, small _ _ _ _ c.in-Ok.ensures)

pub slice_bounds-result-end-2 : goal.slice_bounds-result-end-2
slice_bounds-result-end-2 c = rw c.bytes_of-sheet.ensures (room _ _ _ _ c.in-Ok.ensures)

pub returns : goal.returns
returns c = rw c.bytes_of-sheet.ensures (part_name _ _ _ _ c.in-Ok.ensures)
