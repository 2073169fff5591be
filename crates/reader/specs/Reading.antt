-- What a reader finds at a position of a sheet, and where it moves.
-- Assumes nothing.
use Rattle.std.specs.Prelude.{true, false, Some, None, List, ℕ, zero, suc, ◌+◌, leb, length, drop}
use Rattle.std.specs.Option.{unwrap_or}
use Rattle.records.specs.Lengths.{whole_length}
use Rattle.reader.specs.declared.Found.{Found}
use Rattle.reader.specs.declared.Found.TheVariants.{Record, Broken, End}

-- at or past the end: End; else the whole record that begins there, or Broken where none does
unfoldable pub found_at : List ℕ → ℕ → Found
found_at s at = elim (leb (length s) at) [ true ↦ End | false ↦ elim (whole_length (drop at s)) [ Some n ↦ Record at n | None ↦ Broken at ] ]

-- past the whole record that begins there; where none does it stays
abbrev pub after_at : List ℕ → ℕ → ℕ
after_at s at = at + unwrap_or (whole_length (drop at s)) 0

-- where record n begins; after the last whole record it stays
unfoldable pub nth_at : List ℕ → ℕ → ℕ
nth_at s zero = 0
nth_at s (suc n) = after_at s (nth_at s n)
