-- The flat row's lines are counted in a row of structs that is clean past them.
use Rattle.verdicts.proofs.Counting.{faults_counted}
use Rattle.verdicts.proofs.faulted.Goals as goal

pub returns : goal.returns
returns c = faults_counted c.args.flat.now c.args.n c.write.ensures c.write.auto.row c.report.ensures
