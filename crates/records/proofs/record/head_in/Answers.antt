use Rattle.std.proofs.Common.{rules}
use Rattle.spec.specs.Record.{u8, flags, own_markers, superclass, encloser}
use Rattle.records.proofs.record.head_in.Goals as goal

pub returns : goal.returns
unfolding u8 flags own_markers superclass encloser
returns c = search rules
