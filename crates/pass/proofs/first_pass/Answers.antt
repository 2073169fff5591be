-- In the loop the records before the place have passed, and the row holds their starts.
use Rattle.std.proofs.Common.{◌≡◌, ◌<◌, ◌-◌, length, take, drop, length-drop, le_refl, sym, ap, ◌∙◌, arith, rules}
use Rattle.std.proofs.lemmas.Result.{err_from_is_err_and}
use Rattle.std.proofs.lemmas.Slice.{between_to_end}
use borrow.Author.Tests.{tests}
use Rattle.pass.proofs.Tests.{class_room}
use Rattle.pass.proofs.Going.{begin, within, ends, ends_row, stops, stops_row, goes_on}
use Rattle.pass.proofs.first_pass.Goals as goal
use Rattle.pass.proofs.first_pass.Goals.{After-is_class, then-is_class, else-is_class}

pub loop-rest-init : goal.loop-rest-init
loop-rest-init c = begin c.start-place.result c.args.bytes.now c.args.starts.now c.start-place.ensures.place c.start-place.ensures.group

pub returns-in_err-record-clause-answer : goal.returns-in_err-record-clause-answer
returns-in_err-record-clause-answer c =
    let p = err_from_is_err_and c.from_residual.result c.from_residual.ensures.1 in
    let h : 0 < length c.loop-rest.rest.now = search (rules, tests) in
    rw (p.1, p.2) (stops c.loop-rest.invariant h c.in_err-record.ensures.blames)

pub returns-in_err-record-clause-starts : goal.returns-in_err-record-clause-starts
returns-in_err-record-clause-starts c =
    let h : 0 < length c.loop-rest.rest.now = search (rules, tests) in
    stops_row c.loop-rest.invariant h c.in_err-record.ensures.blames

pub bounds-starts-place : goal.bounds-starts-place
bounds-starts-place c = omega (arith, class_room c.loop-rest.place _ c.in_ok-record.ensures.passes.fine (sym c.is_class.ensures ∙ c.if-is_class.true), c.loop-rest.invariant.long)

pub slice_bounds-rest-count : goal.slice_bounds-rest-count
slice_bounds-rest-count c = (within c.in_ok-record.ensures.passes).1

pub slice_bounds-rest-start : goal.slice_bounds-rest-start
slice_bounds-rest-start c = (within c.in_ok-record.ensures.passes).1

-- what is left after the record
left : (c : After-is_class) → let rest = c.loop-rest.rest.now in let n = length c.in_ok-record.record.bytes.now in take (length rest - n) (drop n rest) ≡ drop n rest
left c = between_to_end c.loop-rest.rest.now (length c.in_ok-record.record.bytes.now) _ (le_refl _)

pub loop-rest-smaller : goal.loop-rest-smaller
loop-rest-smaller c =
    let n = length c.in_ok-record.record.bytes.now in
    omega (arith, within c.in_ok-record.ensures.passes, ap length (left (goal.at.loop-rest-smaller c).After-is_class), length-drop n c.loop-rest.rest.now)

pub loop-rest-preserved : goal.loop-rest-preserved
loop-rest-preserved c =
    let g = c.loop-rest.invariant in
    let w = c.in_ok-record.ensures.passes in
    let d = left (goal.at.loop-rest-preserved c).After-is_class in
    elim c.if-is_class.branch [
      | then-is_class b ↦ rw b.place-is (goes_on g w b.opened-place.ensures (rw (sym c.is_class.ensures ∙ b.if-is_class.true) b.starts-is) d)
      | else-is_class b ↦ rw b.place-is (goes_on g w b.joined-place.ensures (rw (sym c.is_class.ensures ∙ b.if-is_class.false) b.starts-is) d)
    ]

pub returns-clause-answer : goal.returns-clause-answer
returns-clause-answer c = let z : length c.loop-rest.rest.now ≡ 0 = search (rules, tests) in ends c.loop-rest.invariant z

pub returns-clause-starts : goal.returns-clause-starts
returns-clause-starts c = let z : length c.loop-rest.rest.now ≡ 0 = search (rules, tests) in ends_row c.loop-rest.invariant z
