use Rattle.spec.specs.Index.{found_from}
use Rattle.sheets.specs.Sheets.{groups}
use Rattle.names.proofs.Probing.{Probing}
use Rattle.names.proofs.find_from.Given as goal

abbrev pub invariant-loop : goal.invariant-loop
invariant-loop l = Probing (found_from (groups l.sheets) l.row l.name) l.home l.counter l.place
