use native.Mathlib.Omega.{arith}
use Rattle.std.proofs.Common.{rules}
use Rattle.spec.specs.Record.{kind}
use Rattle.records.proofs.Fits.{six}
use Rattle.records.proofs.record.Record.has_number.Goals as goal

pub word_in-requires : goal.word_in-requires
word_in-requires c = omega (arith, six c.self.invariant)

pub returns : goal.returns
unfolding kind
returns c = search rules
