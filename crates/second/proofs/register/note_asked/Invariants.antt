-- The entries below c are there.
use Rattle.std.proofs.Common.{◌≡◌, ℕ, ◌<◌, get_or}
use Rattle.second.specs.declared.register.Asked.{Asked}
use Rattle.second.specs.Second.{asked_of}
use Rattle.second.proofs.register.note_asked.Given as goal

abbrev pub invariant-loop-c : goal.invariant-loop-c
invariant-loop-c l = (d : ℕ) (e : Asked) → d < l.c → get_or l.entry-items d e ≡ asked_of l.sheets d
