-- A refused group changes nothing; an admitted one is written, and what it touches is judged in the buffer.
use Rattle.std.proofs.Common.{◌≡◌, List, ℕ, ap, ◌∙◌, arith}
use lib.ListN.{length-take}
use Rattle.std.proofs.lemmas.Result.{err_from_is_err_and}
use Rattle.spec.specs.Sheet.{total}
use Rattle.spec.specs.Verdicts.{flat_lines}
use Rattle.theory.proofs.Cut.{IsGroup}
use Rattle.view.specs.View.{spliced}
use Rattle.view.proofs.Splice.{sits_fits}
use Rattle.sheets.specs.Sheets.{count}
use Rattle.flat.specs.Row.{marked_in}
use Rattle.admit.proofs.Turning.{admit_facts}
use Rattle.verifier.proofs.Editing.{written_sheet, put_refused, put_made}
use Rattle.verifier.proofs.change.Goals as goal
use Rattle.verifier.proofs.change.Goals.{After-new-accepted}

pub returns-in_err-size : goal.returns-in_err-size
unfolding flat_lines
returns-in_err-size c =
    let p = err_from_is_err_and c.from_residual.result c.from_residual.ensures.1 in rw (p.1, p.2) (put_refused _ _ _ _ _ _ _ _ (rw c.of-room.ensures at c.in_err-size.ensures.answer))

pub write-requires-clause-fits : goal.write-requires-clause-fits
unfolding IsGroup
write-requires-clause-fits c = let a = admit_facts (rw c.of-room.ensures at c.in_ok-size.ensures.answer.0) in sits_fits c.requires.sits a.whole

pub write-requires-clause-room : goal.write-requires-clause-room
write-requires-clause-room c = let a = admit_facts (rw c.of-room.ensures at c.in_ok-size.ensures.answer.0) in a.within

pub slice_bounds-new-end : goal.slice_bounds-new-end
slice_bounds-new-end c = let a = admit_facts (rw c.of-room.ensures at c.in_ok-size.ensures.answer.0) in omega (arith, c.in_ok-size.ensures.answer.1.0, a.within, c.write.auto.user)

pub slice_bounds-new-end-2 : goal.slice_bounds-new-end-2
slice_bounds-new-end-2 c =
    let a = admit_facts (rw c.of-room.ensures at c.in_ok-size.ensures.answer.0) in
    omega (arith, c.in_ok-size.ensures.answer.1.0, a.within, c.write.auto.user, length-take c.in_ok-size.size c.write.new.user)

-- once it is written
there : (c : After-new-accepted) → c.new-accepted.result.formed.sheets ≡ record { library = c.args.library.now; user = spliced c.args.user.now c.args.group.now c.args.cut }
there c =
    c.new-accepted.ensures
    ∙ ap (λ (s : List ℕ). record { library = c.args.library.now; user = s })
    (written_sheet (spliced c.args.user.now c.args.group.now c.args.cut) c.args.user.now c.args.cut.used c.write.ensures c.in_ok-size.ensures.answer.1.0)

pub new-accepted-requires : goal.new-accepted-requires
new-accepted-requires c =
    rw (written_sheet (spliced c.args.user.now c.args.group.now c.args.cut) c.args.user.now c.args.cut.used c.write.ensures c.in_ok-size.ensures.answer.1.0) c.in_ok-size.ensures.answer.1.1

pub touch-requires-clause-there : goal.touch-requires-clause-there
touch-requires-clause-there c =
    let k = goal.at.touch-requires-clause-there c in
    rw (there k.After-new-accepted) (c.requires.there (admit_facts (rw c.of-room.ensures at c.in_ok-size.ensures.answer.0)).whole)

pub rejudge-requires-clause-lines : goal.rejudge-requires-clause-lines
unfolding flat_lines total
rejudge-requires-clause-lines c =
    let k = goal.at.rejudge-requires-clause-lines c in
    let a = admit_facts (rw c.of-room.ensures at c.in_ok-size.ensures.answer.0) in
    rw (there k.After-new-accepted) (omega (arith, a.room))

pub rejudge-requires-clause-scratch : goal.rejudge-requires-clause-scratch
rejudge-requires-clause-scratch c = let a = admit_facts (rw c.of-room.ensures at c.in_ok-size.ensures.answer.0) in a.enough

pub returns : goal.returns
unfolding flat_lines
returns c =
    let k = goal.at.returns c in
    let e = there k.After-new-accepted in
    let a = admit_facts (rw c.of-room.ensures at c.in_ok-size.ensures.answer.0) in
    put_made _ _ _ _ _ _ _ _ (rw c.of-room.ensures at c.in_ok-size.ensures.answer.0) c.requires.used_is
    (rw e at c.new-accepted.result.formed.passed.few) (c.requires.there a.whole) (rw e at c.touch.ensures)
    (c.marked.ensures ∙ ap (marked_in c.touch.new.marks) (c.count.ensures.count ∙ ap count e))
    c.write.ensures c.in_ok-size.ensures.answer.1.0 (rw e at c.rejudge.ensures.verdicts) c.rejudge.ensures.scratch
