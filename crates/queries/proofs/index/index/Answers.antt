use mathlib.Core.Path.{sym}
use Rattle.std.proofs.lemmas.Result.{err_from_is_err_and}
use Rattle.queries.proofs.ByName.{front_long, index_refused, index_made}
use Rattle.queries.proofs.index.index.Goals as goal

pub returns-in_err-sheets : goal.returns-in_err-sheets
returns-in_err-sheets c =
    let p = err_from_is_err_and c.from_residual.result c.from_residual.ensures.1 in rw (p.1, p.2) (index_refused _ _ _ _ c.in_err-sheets.ensures)

pub slice_bounds-fill-end-2 : goal.slice_bounds-fill-end-2
slice_bounds-fill-end-2 c = sym (front_long c.args.row.now c.in_ok-sheets.ensures.1.1)

pub fill-requires : goal.fill-requires
fill-requires c = front_long c.args.row.now c.in_ok-sheets.ensures.1.1

pub returns : goal.returns
returns c =
    let fine = c.in_ok-sheets.ensures in index_made _ _ _ _ fine.0 (rw fine.1.0 at c.count.ensures.count) (rw fine.1.0 at c.fill.ensures)
