-- Test after test: the group, the sheet that it makes, the lines and the scratch.
use mathlib.Core.Path.{◌≡◌}
use Prim.Native.Nat.{◌≤◌, min}
use native.Mathlib.Omega.{arith}
use lib.ListN.{length}
use borrow.Author.Tests.{leb-true, leb-false}
use Rattle.std.proofs.lemmas.Result.{err_from_is_err_and}
use Rattle.spec.specs.Sheet.{total}
use Rattle.view.specs.View.{spliced}
use Rattle.refusals.proofs.Unless.{held, failed}
use Rattle.form.proofs.Accepting.{unasked}
use Rattle.admit.proofs.Turning.{group_fits, own_is, not_whole, no_room, sheet_refused, too_short, admitted}
use Rattle.admit.proofs.admit.Goals as goal
use Rattle.admit.proofs.admit.Goals.{After-len-size, In_ok-unless-2}

pub returns-in_err-unless : goal.returns-in_err-unless
returns-in_err-unless c =
    let p = err_from_is_err_and c.from_residual.result c.from_residual.ensures.1 in
    let f = failed _ _ c.in_err-unless.ensures in
    record { answer = rw (p.1, p.2, f.1) (not_whole _ _ _ _ _ _ c.whole_group.ensures f.0); memo = unasked c.requires.fresh }

pub new-draft-requires : goal.new-draft-requires
new-draft-requires c = group_fits c.requires.sits c.whole_group.ensures (held _ _ c.in_ok-unless.ensures)

-- how long the sheet becomes
size_is : (c : After-len-size) → c.len-size.result ≡ length (spliced c.args.user.now c.args.group.now c.args.cut)
size_is c = rw c.new-draft.ensures at c.len-size.ensures

-- it is not longer than the buffer and a sheet may be
room_is : (c : In_ok-unless-2) → c.len-size.result ≤ min (length c.args.user.now) 32768
room_is c = omega (arith, leb-true _ _ (held _ _ c.in_ok-unless-2.ensures), c.min.ensures)

pub returns-in_err-unless-2 : goal.returns-in_err-unless-2
returns-in_err-unless-2 c =
    let p = err_from_is_err_and c.from_residual-in_err-unless-2.result c.from_residual-in_err-unless-2.ensures.1 in
    let f = failed _ _ c.in_err-unless-2.ensures in
    let e = size_is (goal.at.returns-in_err-unless-2 c).After-len-size in
    let l = leb-false _ _ f.0 in
    record {
      answer = rw (p.1, p.2, f.1) (no_room _ _ _ _ _ _ c.whole_group.ensures (held _ _ c.in_ok-unless.ensures) e (omega (arith, l, c.min.ensures)));
      memo = unasked c.requires.fresh;
    }

pub check-requires : goal.check-requires
check-requires c =
    let e = size_is (goal.at.check-requires c).After-len-size in
    record { short = (c.requires.short, rw c.new-draft.ensures (omega (arith, room_is (goal.at.check-requires c).In_ok-unless-2, e))); fresh = c.requires.fresh }

pub returns-in_err-check : goal.returns-in_err-check
returns-in_err-check c =
    let p = err_from_is_err_and c.from_residual-in_err-check.result c.from_residual-in_err-check.ensures.1 in
    let e = size_is (goal.at.returns-in_err-check c).After-len-size in
    let f = rw c.new-draft.ensures at c.in_err-check.ensures in
    record {
      answer =
          rw (p.1, p.2)
          (sheet_refused _ _ _ _ _ _ c.whole_group.ensures (held _ _ c.in_ok-unless.ensures) e (room_is (goal.at.returns-in_err-check c).In_ok-unless-2) c.requires.plain f.answer);
      memo = f.memo;
    }

pub user_count-requires : goal.user_count-requires
unfolding total
user_count-requires c = let x = c.in_ok-check.ensures.answer.1.indexed in omega (arith, x.nlib_is, x.n_is)

pub returns-in_err-unless-3 : goal.returns-in_err-unless-3
returns-in_err-unless-3 c =
    let p = err_from_is_err_and c.from_residual-in_err-unless-3.result c.from_residual-in_err-unless-3.ensures.1 in
    let t = failed _ _ c.in_err-unless-3.ensures in
    let e = size_is (goal.at.returns-in_err-unless-3 c).After-len-size in
    let f = rw c.new-draft.ensures at c.in_ok-check.ensures in
    record {
      answer =
          rw (p.1, p.2, t.1)
          (too_short _ _ _ _ _ _ c.whole_group.ensures (held _ _ c.in_ok-unless.ensures) e (room_is (goal.at.returns-in_err-unless-3 c).In_ok-unless-2) c.requires.plain
          f.answer.0 (own_is f.answer.1.indexed c.user_count.ensures) c.holds.ensures t.0);
      memo = f.memo;
    }

pub returns : goal.returns
returns c =
    let e = size_is (goal.at.returns c).After-len-size in
    let f = rw c.new-draft.ensures at c.in_ok-check.ensures in
    let room =
    admitted _ _ _ _ _ _ c.whole_group.ensures (held _ _ c.in_ok-unless.ensures) e (room_is (goal.at.returns c).In_ok-unless-2) c.requires.plain
    f.answer.0 (own_is f.answer.1.indexed c.user_count.ensures) c.holds.ensures (held _ _ c.in_ok-unless-3.ensures) in
    record { answer = (room, (e, f.answer.1)); memo = f.memo }
