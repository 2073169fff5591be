use Rattle.std.proofs.Common.{rules}
use Rattle.spec.specs.Record.{bit}
use Rattle.records.proofs.has_flag.Goals as goal

pub returns : goal.returns
unfolding bit
returns c = search rules
