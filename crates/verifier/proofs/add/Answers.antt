-- The present sheets, then the frame: its refusals are Add's, and what it touches is the last class.
use Rattle.std.proofs.Common.{ℕ, ap}
use Rattle.std.proofs.lemmas.Result.{err_from_is_err_and}
use Rattle.refusals.specs.Refusals.{answer_in}
use Rattle.verifier.proofs.Adding.{add_present, add_puts, add_turned, add_made}
use Rattle.verifier.proofs.add.Goals as goal

pub returns-in_err-class : goal.returns-in_err-class
returns-in_err-class c =
    let p = err_from_is_err_and c.from_residual.result c.from_residual.ensures.1 in rw (p.1, p.2) (add_present _ _ _ _ _ _ c.in_err-class.ensures)

pub change-requires : goal.change-requires
change-requires c =
    let e = c.in_ok-class.ensures.1 in rw (e, c.at_end-cut.ensures) (add_puts _ _ _ c.args.verdicts.now c.args.scratch.now _ c.in_ok-class.ensures.0)

pub returns-in_err-change : goal.returns-in_err-change
returns-in_err-change c =
    let e = c.in_ok-class.ensures.1 in
    let p = err_from_is_err_and c.from_residual-in_err-change.result c.from_residual-in_err-change.ensures.1 in
    rw (p.1, p.2) (add_turned _ _ _ _ _ _ c.in_ok-class.ensures.0 (rw (e, c.at_end-cut.ensures) at c.change.ensures) (ap (answer_in (λ (n : ℕ). n)) c.in_err-change.was))

pub returns : goal.returns
returns c =
    let e = c.in_ok-class.ensures.1 in
    add_made _ _ _ _ _ _ c.in_ok-class.ensures.0 (rw (e, c.at_end-cut.ensures) at c.change.ensures) (ap (answer_in (λ (n : ℕ). n)) c.in_ok-change.was) e
