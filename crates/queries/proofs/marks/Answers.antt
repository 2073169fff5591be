use Rattle.overlay.proofs.Recursion.{formed_falls}
use Rattle.std.proofs.Common.{rules}
use borrow.Author.Tests.{tests}
use Rattle.std.proofs.lemmas.Result.{err_from_is_err_and}
use Rattle.spec.specs.Promises.{answer_of}
use Rattle.theory.proofs.Promised.{answer_refused}
use Rattle.queries.proofs.marks.Goals as goal

pub returns-in_err-accepted : goal.returns-in_err-accepted
returns-in_err-accepted c =
    let p = err_from_is_err_and c.from_residual.result c.from_residual.ensures.1 in rw (p.1, p.2) (record { answered = answer_refused _ c.in_err-accepted.ensures })

pub returns : goal.returns
unfolding answer_of
returns c = record { answered = search (rules, tests) }

pub invariant_of-falling : goal.invariant_of-falling
invariant_of-falling c =
    let formed = c.in_ok-accepted.accepted.formed in
    record { passed = formed.passed; falls = formed_falls formed.sheets formed.formed }
