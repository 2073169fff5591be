-- Two bytes of one slice make a number, the low one first.
use Rattle.std.proofs.Common.{arith}
use Rattle.spec.specs.Record.{u16}
use Rattle.records.proofs.word_in.Goals as goal

pub returns : goal.returns
unfolding u16
returns c = omega (arith, c.from_le_bytes.ensures)
