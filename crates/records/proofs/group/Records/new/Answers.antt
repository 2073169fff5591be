use Rattle.std.proofs.Common.{arith}
use Rattle.records.proofs.Lined.{few_records}
use Rattle.records.proofs.group.Records.new.Goals as goal

pub returns-clause-few : goal.returns-clause-few
returns-clause-few c = omega (arith, few_records c.args.bytes.now)
