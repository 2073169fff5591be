use Rattle.std.proofs.Common.{rules, arith}
use Rattle.spec.specs.Index.{found_in}
use Rattle.theory.proofs.Indexing.{home_low}
use Rattle.names.proofs.find.Goals as goal

pub find_from-requires-clause-low : goal.find_from-requires-clause-low
find_from-requires-clause-low c = omega (arith, home_low c.args.name.now, c.home.ensures)

pub returns : goal.returns
unfolding found_in
returns c = search rules
