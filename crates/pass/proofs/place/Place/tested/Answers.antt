-- What refuses the record refuses the bytes.
use Rattle.std.proofs.Common.{◌∙◌}
use Rattle.std.proofs.lemmas.Result.{err_from_is_err_and}
use Rattle.pass.proofs.Tests.{refused_is}
use Rattle.pass.proofs.place.Place.tested.Goals as goal

pub returns-in_err-test_by_kind-clause-refused : goal.returns-in_err-test_by_kind-clause-refused
returns-in_err-test_by_kind-clause-refused c =
    let p = err_from_is_err_and c.from_residual-in_err-test_by_kind.result c.from_residual-in_err-test_by_kind.ensures.1 in
    let r = c.in_ok-candidate.ensures.first in
    rw (p.1, p.2) (refused_is _ _ r.0 r.1 ∙ c.in_err-test_by_kind.ensures)
