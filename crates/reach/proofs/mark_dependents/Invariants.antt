-- The marks below c say where the search left 0.
use Rattle.std.proofs.Common.{◌≡◌, ℕ, ◌<◌, length, get_or, false, nat_eq}
use Rattle.lanes.specs.Lanes.{words}
use Rattle.reach.proofs.mark_dependents.Given as goal

abbrev pub invariant-loop-c : goal.invariant-loop-c
invariant-loop-c l = record {
  long : length l.marks ≡ 256;
  marked : (c : ℕ) → c < l.c → get_or l.marks c false ≡ nat_eq (get_or (words l.row) c 65535) 0;
}
