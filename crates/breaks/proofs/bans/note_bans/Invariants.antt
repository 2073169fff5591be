-- The entries below d are there.
use Rattle.std.proofs.Common.{◌≡◌, ℕ, ◌<◌, get_or}
use Rattle.sheets.specs.Sheets.{groups}
use Rattle.breaks.specs.Bans.{ban_of, nothing}
use Rattle.breaks.proofs.bans.note_bans.Given as goal

abbrev pub invariant-loop-d : goal.invariant-loop-d
invariant-loop-d l = (d : ℕ) → d < l.d → get_or l.ban-items d nothing ≡ ban_of (groups l.sheets d)
