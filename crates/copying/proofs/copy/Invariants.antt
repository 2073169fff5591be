-- The entries below i are copied.
use Rattle.std.proofs.Common.{◌≡◌, ℕ, ◌<◌}
use Rattle.std.specs.Prelude.{get_or}
use Rattle.copying.proofs.copy.Given as goal

abbrev pub invariant-loop-i : goal.invariant-loop-i
invariant-loop-i g l = (d : ℕ) (e : g.row.T.Denot) → d < l.i → get_or l.to d e ≡ get_or l.from d e
