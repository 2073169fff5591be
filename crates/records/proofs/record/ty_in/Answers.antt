use Rattle.std.proofs.Common.{rules}
use Rattle.spec.specs.Record.{u8, ty_at}
use Rattle.records.proofs.record.ty_in.Goals as goal

pub returns : goal.returns
unfolding u8 ty_at
returns c = search rules
