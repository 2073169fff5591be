-- The code of what `verifier::marks` answers.
use Rattle.std.proofs.Common.{ℕ, ap}
use Rattle.refusals.specs.Refusals.{answer_in}
use Rattle.kerdzhusi.specs.Codes.{plain_value}
use Rattle.kerdzhusi.proofs.Codes.{codable, replies}
use Rattle.kerdzhusi.proofs.Bounds.{query_low}
use Rattle.kerdzhusi.proofs.kz_marks.Goals as goal

pub of-requires : goal.of-requires
unfolding plain_value
of-requires c = codable plain_value (λ n. n) _ _ c.map.ensures.cases (λ r e. query_low _ _ _ _ _ c.marks-answer.ensures.answered (ap (answer_in (λ (n : ℕ). n)) e))

pub returns : goal.returns
unfolding plain_value
returns c = replies plain_value (λ n. n) _ _ _ c.marks-answer.ensures c.map.ensures.cases c.of.ensures
