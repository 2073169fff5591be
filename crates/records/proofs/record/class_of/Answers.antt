use Rattle.std.proofs.Common.{rules}
use Rattle.records.proofs.record.class_of.Goals as goal

pub returns-then-number-eq65535 : goal.returns-then-number-eq65535
returns-then-number-eq65535 c = search rules

pub returns : goal.returns
returns c = search rules
