use Rattle.spec.specs.Index.{free_from}
use Rattle.names.proofs.Probing.{Probing}
use Rattle.names.proofs.free_from.Given as goal

abbrev pub invariant-loop : goal.invariant-loop
invariant-loop l = Probing (free_from l.row) l.home l.counter l.place
