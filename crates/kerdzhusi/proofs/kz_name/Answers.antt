-- The code of what `verifier::name_place` answers.
use Rattle.std.proofs.Common.{ap}
use Rattle.refusals.specs.Refusals.{answer_in}
use Rattle.queries.specs.Answers.{part_of}
use Rattle.queries.proofs.Parts.{small}
use Rattle.kerdzhusi.specs.Codes.{part_value}
use Rattle.kerdzhusi.proofs.Codes.{codable, replies}
use Rattle.kerdzhusi.proofs.Bounds.{query_low}
use Rattle.kerdzhusi.proofs.kz_name.Goals as goal

pub map-requires : goal.map-requires
map-requires c = λ x e. small _ _ _ _ (rw e at c.name_place-answer.ensures)

pub of-requires : goal.of-requires
of-requires c = codable part_value part_of _ _ c.map.ensures.cases (λ r e. query_low _ _ _ _ _ c.name_place-answer.ensures.answered (ap (answer_in part_of) e))

pub returns : goal.returns
returns c = replies part_value part_of _ _ _ c.name_place-answer.ensures c.map.ensures.cases c.of.ensures
