use mathlib.Core.Path.{◌∙◌}
use Rattle.std.proofs.lemmas.Result.{err_from_is_err_and}
use Rattle.theory.proofs.Answers.{first_some}
use Rattle.form.proofs.Accepting.{sheet_parts, form_stops, deemed_stops, all_fine, found_in, unasked, asked_of}
use Rattle.form.proofs.check.Goals as goal

pub returns-in_err-both_passes : goal.returns-in_err-both_passes
returns-in_err-both_passes c =
    let p = err_from_is_err_and c.from_residual.result c.from_residual.ensures.1 in
    record { answer = rw (p.1, p.2) (sheet_parts _ _ ∙ first_some _ c.in_err-both_passes.ensures); memo = unasked c.requires.fresh }

pub returns-in_err-second_pass : goal.returns-in_err-second_pass
returns-in_err-second_pass c =
    let p = err_from_is_err_and c.from_residual-in_err-second_pass.result c.from_residual-in_err-second_pass.ensures.1 in
    record { answer = rw (p.1, p.2) (form_stops c.new-sheets.ensures c.in_ok-both_passes.ensures.0 c.in_err-second_pass.ensures); memo = unasked c.requires.fresh }

pub returns-in_err-deemed : goal.returns-in_err-deemed
returns-in_err-deemed c =
    let p = err_from_is_err_and c.from_residual-in_err-deemed.result c.from_residual-in_err-deemed.ensures.1 in
    let e = c.new-sheets.ensures in
    record {
      answer = rw (p.1, p.2) (deemed_stops e c.in_ok-both_passes.ensures.0 c.in_ok-second_pass.ensures.0 c.in_err-deemed.ensures.answer);
      memo = asked_of _ e c.in_err-deemed.ensures.memo;
    }

pub returns : goal.returns
returns c =
    let e = c.new-sheets.ensures in
    let f = c.in_ok-both_passes.ensures in
    let g = c.in_ok-second_pass.ensures.0 in
    let d = c.in_ok-deemed.ensures.answer in
    record { answer = (all_fine e f.0 g d.0, found_in e f.1 g d.1); memo = asked_of _ e c.in_ok-deemed.ensures.memo }
