use Rattle.std.proofs.Common.{sym, ◌∙◌, arith}
use Rattle.std.proofs.lemmas.Result.{err_from_is_err_and}
use Rattle.second.proofs.Passing.{classes_stop, classes_on, classes_end}
use Rattle.second.proofs.classes_pass.Goals as goal

pub returns-in_err-class_pass : goal.returns-in_err-class_pass
returns-in_err-class_pass c =
    let p = err_from_is_err_and c.from_residual.result c.from_residual.ensures.1 in
    rw (p.1, p.2) (sym c.loop-c.invariant ∙ classes_stop _ _ _ (omega arith) c.in_err-class_pass.ensures)

pub loop-c-preserved : goal.loop-c-preserved
loop-c-preserved c = sym (classes_on _ _ _ (omega arith) c.in_ok-class_pass.ensures.0) ∙ c.loop-c.invariant

pub returns : goal.returns
returns c = (sym c.loop-c.invariant ∙ classes_end _ _ _ (omega arith), tt)
