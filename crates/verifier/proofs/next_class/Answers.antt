-- The classes of both sheets, counted from 0.
use Rattle.std.proofs.Common.{ap, ◌∙◌}
use Rattle.std.proofs.lemmas.Result.{err_from_is_err_and}
use Rattle.sheets.specs.Sheets.{count}
use Rattle.verifier.proofs.next_class.Goals as goal

pub returns-in_err-accepted : goal.returns-in_err-accepted
returns-in_err-accepted c = let p = err_from_is_err_and c.from_residual.result c.from_residual.ensures.1 in rw (p.1, p.2) c.in_err-accepted.ensures

pub returns : goal.returns
returns c = (c.in_ok-accepted.ensures.0, c.count.ensures.count ∙ ap count c.in_ok-accepted.ensures.1)
