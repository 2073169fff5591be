-- How long the record is that some bytes begin with.
-- Assumes nothing.
use Rattle.std.specs.Prelude.{true, false, Option, None, Some, List, ℕ}
use Rattle.spec.specs.Record.{u16}
use Rattle.spec.specs.Sheet.{whole_first}

-- none if they begin with no whole record
unfoldable pub whole_length : List ℕ → Option ℕ
whole_length s = elim (whole_first s) [ true ↦ Some (u16 s 0) | false ↦ None ]
