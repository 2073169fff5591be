use Rattle.std.proofs.Common.{rules, tests}
use Rattle.spec.specs.Record.{ty_references}
use Rattle.records.proofs.record.Ty.class.Goals as goal

pub returns : goal.returns
unfolding ty_references
returns c = search (rules, tests)
