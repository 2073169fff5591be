-- The entries below the next class are right; the classes below it are known, and those of the library.
use Rattle.std.proofs.Common.{◌≡◌, ◌<◌, ℕ, max, get_or}
use Rattle.spec.specs.Classes.{overlay}
use Rattle.sheets.specs.Sheets.{groups, library_count}
use Rattle.overlay.specs.Memo.{memo_of}
use Rattle.overlay.proofs.overlays.Given as goal

abbrev pub invariant-loop-c : goal.invariant-loop-c
invariant-loop-c l =
    ((i : ℕ) → i < l.c → get_or l.there i 0 ≡ overlay (groups l.fn.falling.sheets.now) i)
    × (l.memo ≡ memo_of (groups l.fn.falling.sheets.now) (max (library_count l.fn.falling.sheets.now) l.c))
