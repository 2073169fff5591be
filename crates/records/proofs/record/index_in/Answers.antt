use Rattle.std.proofs.Common.{rules}
use Rattle.spec.specs.Record.{index}
use Rattle.records.proofs.record.index_in.Goals as goal

pub returns : goal.returns
unfolding index
returns c = search rules
