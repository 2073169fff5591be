use Rattle.std.proofs.Common.{rules}
use Rattle.spec.specs.Record.{target}
use Rattle.records.proofs.record.target_in.Goals as goal

pub returns : goal.returns
unfolding target
returns c = search rules
