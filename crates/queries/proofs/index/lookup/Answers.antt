use mathlib.Core.Path.{sym, ◌∙◌}
use Rattle.std.proofs.lemmas.Result.{err_from_is_err_and}
use Rattle.refusals.proofs.Unless.{some_there, none_there}
use Rattle.queries.proofs.ByName.{holds_classes, front_long, lookup_index_refused, not_there, there, walked}
use Rattle.queries.proofs.index.lookup.Goals as goal

pub returns-in_err-sheets : goal.returns-in_err-sheets
returns-in_err-sheets c =
    let p = err_from_is_err_and c.from_residual.result c.from_residual.ensures.1 in rw (p.1, p.2) (lookup_index_refused _ _ _ _ _ c.in_err-sheets.ensures)

pub find-requires : goal.find-requires
find-requires c = holds_classes _ _ c.in_ok-sheets.field-0.formed.passed.few c.fill.ensures

pub returns-in_err-class : goal.returns-in_err-class
returns-in_err-class c =
    let p = err_from_is_err_and c.from_residual-in_err-class.result c.from_residual-in_err-class.ensures.1 in
    let f = none_there _ c.find.result c.in_err-class.ensures.value in
    let fine = c.in_ok-sheets.ensures in
    let w = walked _ _ c.in_ok-sheets.field-0.formed.passed.few _ c.find.ensures c.fill.ensures in
    rw (p.1, p.2, f.1) (not_there _ _ _ _ _ fine.0 (rw fine.1.0 at w) f.0)

pub slice_bounds-copy-end-2 : goal.slice_bounds-copy-end-2
slice_bounds-copy-end-2 c = sym (front_long c.args.row.now c.in_ok-sheets.ensures.1.1)

pub copy-requires : goal.copy-requires
copy-requires c =
    front_long c.args.row.now c.in_ok-sheets.ensures.1.1 ∙ sym (holds_classes _ _ c.in_ok-sheets.field-0.formed.passed.few c.fill.ensures).long

pub returns : goal.returns
returns c =
    let fine = c.in_ok-sheets.ensures in
    let w = walked _ _ c.in_ok-sheets.field-0.formed.passed.few _ c.find.ensures c.fill.ensures in
    there _ _ _ _ _ fine.0 (rw fine.1.0 at w) (some_there _ c.find.result c.in_ok-class.ensures.value) (c.copy.ensures ∙ rw fine.1.0 at c.fill.ensures)
