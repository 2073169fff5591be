-- The code of what `verifier::judge` answers.
use Rattle.std.proofs.Common.{ap, arith}
use Rattle.refusals.specs.Refusals.{answer_in}
use Rattle.verifier.specs.Answers.{counts_in}
use Rattle.kerdzhusi.specs.Codes.{counts_value}
use Rattle.kerdzhusi.proofs.Codes.{codable, replies}
use Rattle.kerdzhusi.proofs.Bounds.{judges_low, judges_few}
use Rattle.kerdzhusi.proofs.kz_judge.Goals as goal

pub map-requires : goal.map-requires
map-requires c = λ x e. let b = judges_few c.judge-answer.ensures (ap (answer_in counts_in) e) in (b.0, omega (arith, b))

pub of-requires : goal.of-requires
of-requires c = codable counts_value counts_in _ _ c.map.ensures.cases (λ r e. judges_low c.judge-answer.ensures (ap (answer_in counts_in) e))

pub returns : goal.returns
returns c = replies counts_value counts_in _ _ _ c.judge-answer.ensures c.map.ensures.cases c.of.ensures
