-- The code of what `verifier::index` answers.
use Rattle.std.proofs.Common.{ℕ, ap}
use Rattle.refusals.specs.Refusals.{answer_in}
use Rattle.kerdzhusi.specs.Codes.{plain_value}
use Rattle.kerdzhusi.proofs.Codes.{codable, replies}
use Rattle.kerdzhusi.proofs.Bounds.{index_low}
use Rattle.kerdzhusi.proofs.kz_index.Goals as goal

pub of-requires : goal.of-requires
of-requires c = codable plain_value (λ n. n) _ _ c.map.ensures.cases (λ r e. index_low c.index-answer.ensures (ap (answer_in (λ (n : ℕ). n)) e))

pub returns : goal.returns
returns c = replies plain_value (λ n. n) _ _ _ c.index-answer.ensures c.map.ensures.cases c.of.ensures
