use mathlib.Core.Path.{sym}
use native.Mathlib.Omega.{arith}
use lib.ListN.{length-take}
use lib.Seq.{length-take-le}
use Rattle.std.proofs.lemmas.Result.{err_from_is_err_and}
use Rattle.form.proofs.Accepting.{unasked, sizes_told, present_stops, present_is}
use Rattle.form.proofs.present.Goals as goal

pub returns-in_err-lengths : goal.returns-in_err-lengths
returns-in_err-lengths c =
    let p = err_from_is_err_and c.from_residual.result c.from_residual.ensures.1 in
    record { answer = rw (p.1, p.2) (present_stops c.args.library.now c.args.user.now c.args.used c.in_err-lengths.ensures); memo = unasked c.requires.fresh }

pub slice_bounds-written-end : goal.slice_bounds-written-end
slice_bounds-written-end c = sym (length-take-le c.args.used c.args.user.now (sizes_told _ _ _ c.in_ok-lengths.ensures.0).in_buffer)

pub check-requires : goal.check-requires
check-requires c =
    let s = sizes_told _ _ _ c.in_ok-lengths.ensures.0 in
    record { short = (s.library_size, rw c.written.ensures (omega (arith, s.used_size, length-take c.args.used c.args.user.now))); fresh = c.requires.fresh }

pub returns : goal.returns
returns c =
    let f = rw c.written.ensures at c.check.ensures in
    record { answer = rw (present_is c.args.library.now c.args.user.now c.args.used c.in_ok-lengths.ensures.0) f.answer; memo = f.memo }
