use mathlib.Core.Path.{ap, ◌∙◌}
use native.Mathlib.Omega.{arith}
use Rattle.spec.specs.Record.{kind}
use Rattle.records.specs.Kinds.{kind_number}
use Rattle.records.proofs.Fits.{six, known}
use Rattle.records.proofs.record.Record.kind.Goals as goal

pub word_in-requires : goal.word_in-requires
word_in-requires c = omega (arith, six c.self.invariant)

pub returns : goal.returns
unfolding kind
returns c = ap kind_number c.unwrap_or.ensures ∙ known c.self.invariant _ c.try_from.result (rw c.word_in.ensures at c.try_from.ensures) ∙ ap kind c.self.view_is
