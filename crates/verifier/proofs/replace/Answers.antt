-- The class's place, then the frame.
use Rattle.std.proofs.lemmas.Result.{err_from_is_err_and}
use Rattle.verifier.proofs.Replacing.{replace_stopped, replace_puts, replace_made}
use Rattle.verifier.proofs.replace.Goals as goal

pub returns-in_err-cut : goal.returns-in_err-cut
returns-in_err-cut c =
    let p = err_from_is_err_and c.from_residual.result c.from_residual.ensures.1 in rw (p.1, p.2) (replace_stopped _ _ _ _ _ _ _ c.in_err-cut.ensures)

pub change-requires : goal.change-requires
change-requires c = let f = c.in_ok-cut.ensures in rw f.1 (replace_puts _ _ _ _ c.args.verdicts.now c.args.scratch.now _ f.0)

pub returns : goal.returns
returns c = let f = c.in_ok-cut.ensures in replace_made _ _ _ _ _ _ _ f.0 (rw f.1 at c.change.ensures)
