-- `edit::shift`: bytes that stay, that rise or that sink.
use Rattle.edit.proofs.Splicing.{paste_same}
use Rattle.edit.proofs.shift.Goals as goal

pub returns-then-from-to : goal.returns-then-from-to
returns-then-from-to c = paste_same _ c.if-from-to.true c.args.n
