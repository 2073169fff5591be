use mathlib.Core.Path.{sym}
use lib.Seq.{length-take-le}
use Rattle.std.proofs.lemmas.Result.{err_from_is_err_and}
use Rattle.theory.proofs.Unrefused.{present_facts}
use Rattle.form.proofs.accept.Goals as goal

pub returns-in_err-present : goal.returns-in_err-present
returns-in_err-present c =
    let p = err_from_is_err_and c.from_residual.result c.from_residual.ensures.1 in rw (p.1, p.2) c.in_err-present.ensures.answer

pub slice_bounds-new-end : goal.slice_bounds-new-end
slice_bounds-new-end c = sym (length-take-le c.args.used c.args.user.now (present_facts _ _ _ c.in_ok-present.ensures.answer.0).in_buffer)

pub new-requires : goal.new-requires
new-requires c = c.in_ok-present.ensures.answer.1

pub returns : goal.returns
returns c = (c.in_ok-present.ensures.answer.0, c.new.ensures)
