use native.Mathlib.Omega.{arith}
use Rattle.form.proofs.Accepting.{library_long, used_long, sizes_fine}
use Rattle.form.proofs.lengths.Goals as goal

pub returns-else-min-used : goal.returns-else-min-used
returns-else-min-used c = (sizes_fine c.args.library.now c.args.user.now c.args.used c.if-library-gt-SHEET_LIMIT.false (omega (arith, c.if-min-used.false, c.min.ensures)), tt)

pub returns-then-library-gt-SHEET_LIMIT : goal.returns-then-library-gt-SHEET_LIMIT
returns-then-library-gt-SHEET_LIMIT c = library_long c.args.library.now c.args.user.now c.args.used c.if-library-gt-SHEET_LIMIT.true

pub returns-then-min-used : goal.returns-then-min-used
returns-then-min-used c = used_long c.args.library.now c.args.user.now c.args.used c.if-library-gt-SHEET_LIMIT.false (omega (arith, c.if-min-used.true, c.min.ensures))
