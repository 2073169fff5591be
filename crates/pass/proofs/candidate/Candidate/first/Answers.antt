-- A whole record begins there, of at least four bytes.
use Rattle.std.proofs.Common.{sym, ◌∙◌, arith}
use Rattle.spec.specs.Record.{kind}
use Rattle.laws.proofs.Bools.{true_t}
use Rattle.laws.proofs.Parts.{u16_take}
use Rattle.theory.proofs.Cut.{first_is}
use Rattle.records.proofs.Lengths.{whole_some}
use Rattle.pass.proofs.Tests.{refused_kind}
use Rattle.pass.proofs.candidate.Candidate.first.Goals as goal

pub invariant_of-result : goal.invariant_of-result
unfolding kind
invariant_of-result c =
    let w = whole_some _ (sym c.in_ok-len.ensures.ok_part ∙ c.whole_length.ensures.length) in
    record { known = u16_take c.in_ok-len.len c.args.bytes.now 2 (omega (arith, first_is _ (true_t w.0), w.1)) ∙ sym c.word_in.ensures ∙ sym c.in-Ok.ensures }

pub returns-in_default-clause-refused : goal.returns-in_default-clause-refused
returns-in_default-clause-refused c =
    let w = whole_some _ (sym c.in_ok-len.ensures.ok_part ∙ c.whole_length.ensures.length) in
    λ p. refused_kind p c.args.bytes.now w.0 (rw c.word_in.ensures at c.in_default.ensures.1)
