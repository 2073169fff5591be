-- Part after part, each at its place in the sheet.
use mathlib.Core.Path.{◌≡◌, refl, sym, ◌∙◌}
use mathlib.Core.Option.{some}
use native.Mathlib.Nat.{zero-add}
use native.Mathlib.Omega.{arith}
use lib.ListN.{length}
use Rattle.std.specs.Prelude.{Err}
use Rattle.std.proofs.lemmas.Result.{err_from_is_err_and}
use Rattle.refusals.specs.Refusals.{refusal_of}
use Rattle.pass.specs.Pass.{pass_refusal}
use Rattle.form.proofs.Parts.{refused_row, seams_of, stops, few, answer, rows, sheet_stops, sheet_answer, sheet_rows}
use Rattle.form.proofs.passes.user_pass.Goals as goal

pub returns-in_err-before-clause-answer : goal.returns-in_err-before-clause-answer
returns-in_err-before-clause-answer c =
    let f = c.parts.ensures in
    let p = err_from_is_err_and c.from_residual.result c.from_residual.ensures.1 in
    rw (p.1, p.2) (sheet_stops f c.args.base (stops c.args.base 0 (seams_of f).0 c.in_err-before.ensures.answer))

pub returns-in_err-before-clause-starts : goal.returns-in_err-before-clause-starts
returns-in_err-before-clause-starts c =
    let f = c.parts.ensures in
    refused_row (sheet_stops f c.args.base (stops c.args.base 0 (seams_of f).0 c.in_err-before.ensures.answer)) c.first_pass.auto.starts

pub first_pass-requires-2-clause-bounds : goal.first_pass-requires-2-clause-bounds
first_pass-requires-2-clause-bounds c =
    let a = c.in_ok-before.ensures.answer in
    (few c.args.base 0 (seams_of c.parts.ensures).0 a.0 a.1 (sym (zero-add _)) c.requires.bounds.0, omega (arith, c.requires.bounds, c.first_pass.auto.starts))

-- what is refused in the group is refused in the sheet
within_stops : (c : goal.After-from_residual-in_err-within) → pass_refusal 1 c.args.base c.args.user.now ≡ some (refusal_of c.in_err-within.field-0.0)
within_stops c =
    let f = c.parts.ensures in
    let a = c.in_ok-before.ensures.answer in
    sheet_stops f c.args.base
    (answer c.args.base 0 (seams_of f).0 a.0 a.1 (sym (zero-add _)) (Err c.in_err-within.field-0.0)
    (stops c.in_ok-before.before (length c.parts.result.head.now) (seams_of f).1 c.in_err-within.ensures.answer))

pub returns-in_err-within-clause-answer : goal.returns-in_err-within-clause-answer
returns-in_err-within-clause-answer c =
    let p = err_from_is_err_and c.from_residual-in_err-within.result c.from_residual-in_err-within.ensures.1 in rw (p.1, p.2) (within_stops c)

pub returns-in_err-within-clause-starts : goal.returns-in_err-within-clause-starts
returns-in_err-within-clause-starts c = refused_row (within_stops c) (c.first_pass-2.auto.starts ∙ c.first_pass.auto.starts)

pub first_pass-requires-3-clause-bounds : goal.first_pass-requires-3-clause-bounds
first_pass-requires-3-clause-bounds c =
    let f = c.parts.ensures in
    let a = c.in_ok-before.ensures.answer in
    let b = c.in_ok-within.ensures.answer in
    let m = few c.args.base 0 (seams_of f).0 a.0 a.1 (sym (zero-add _)) c.requires.bounds.0 in
    (few c.in_ok-before.before (length c.parts.result.head.now) (seams_of f).1 b.0 b.1 refl m, omega (arith, c.requires.bounds, c.first_pass.auto.starts, c.first_pass-2.auto.starts))

pub returns-clause-answer : goal.returns-clause-answer
returns-clause-answer c =
    let f = c.parts.ensures in
    let a = c.in_ok-before.ensures.answer in
    let b = c.in_ok-within.ensures.answer in
    sheet_answer f c.args.base c.first_pass-3.result
    (answer c.args.base 0 (seams_of f).0 a.0 a.1 (sym (zero-add _)) c.first_pass-3.result
    (answer c.in_ok-before.before (length c.parts.result.head.now) (seams_of f).1 b.0 b.1 refl c.first_pass-3.result c.first_pass-3.ensures.answer))

pub returns-clause-starts : goal.returns-clause-starts
returns-clause-starts c =
    let f = c.parts.ensures in
    let a = c.in_ok-before.ensures.answer in
    let b = c.in_ok-within.ensures.answer in
    sheet_rows f c.args.base
    (rows c.args.base 0 (seams_of f).0 a.0 a.1 (sym (zero-add _)) c.first_pass.ensures.starts
    (rows c.in_ok-before.before (length c.parts.result.head.now) (seams_of f).1 b.0 b.1 refl c.first_pass-2.ensures.starts c.first_pass-3.ensures.starts))
