-- Two bytes are the entry.
use Rattle.std.proofs.Common.{arith}
use Rattle.lanes.proofs.Words.{word_at}
use Rattle.lanes.proofs.entry.Goals as goal

pub returns : goal.returns
returns c = omega (arith, c.from_le_bytes.ensures, word_at c.args.row.now c.args.i c.requires)
