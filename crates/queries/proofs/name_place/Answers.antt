use Rattle.std.proofs.Common.{rules}
use borrow.Author.Tests.{tests}
use Rattle.std.proofs.lemmas.Result.{err_from_is_err_and}
use Rattle.spec.specs.Record.{class_name}
use Rattle.spec.specs.Promises.{answer_of, name_part}
use Rattle.groups.specs.Groups.{sheet_number, start_of}
use Rattle.theory.proofs.Promised.{answer_refused}
use native.Mathlib.Omega.{arith}
use Rattle.queries.proofs.Parts.{start_small}
use Rattle.queries.proofs.name_place.Goals as goal

pub returns-in_err-sheets : goal.returns-in_err-sheets
returns-in_err-sheets c =
    let p = err_from_is_err_and c.from_residual.result c.from_residual.ensures.1 in rw (p.1, p.2) (record { answered = answer_refused _ c.in_err-sheets.ensures })

pub returns : goal.returns
unfolding answer_of name_part sheet_number start_of class_name
returns c = record { answered = search (rules, tests) }

pub overflow_add-result : goal.overflow_add-result
overflow_add-result c =
    let fine = c.in_ok-sheets.ensures in
    omega (arith, rw fine.1.0 at c.start.ensures, start_small c.args.library.now c.args.user.now c.args.used c.args.class fine.0)
