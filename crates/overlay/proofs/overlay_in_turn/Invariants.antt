-- The classes below the next one are known, and those of the library.
use Rattle.std.proofs.Common.{◌≡◌, ◌≤◌, max}
use Rattle.sheets.specs.Sheets.{groups, library_count}
use Rattle.overlay.specs.Memo.{memo_of}
use Rattle.overlay.proofs.overlay_in_turn.Given as goal

abbrev pub invariant-loop-below : goal.invariant-loop-below
invariant-loop-below l =
    (l.below ≤ max (library_count l.fn.falling.sheets.now) l.fn.c) × (l.memo ≡ memo_of (groups l.fn.falling.sheets.now) (max (library_count l.fn.falling.sheets.now) l.below))
