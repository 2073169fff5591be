-- The entries below c are there.
use Rattle.std.proofs.Common.{◌≡◌, ℕ, ◌<◌, get_or}
use Rattle.sheets.specs.Sheets.{groups}
use Rattle.reach.specs.Reach.{nearest}
use Rattle.reach.proofs.note_outers.Given as goal

abbrev pub invariant-loop-c : goal.invariant-loop-c
invariant-loop-c l = (c : ℕ) → c < l.c → get_or l.above-items c 0 ≡ nearest (groups l.formed.sheets) c
