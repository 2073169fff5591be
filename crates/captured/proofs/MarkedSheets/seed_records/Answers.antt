use mathlib.Core.Path.{refl, sym, ◌∙◌, subst}
use native.Mathlib.Omega.{arith}
use Rattle.laws.proofs.All.{All}
use Rattle.theory.proofs.Accept.{RecordFits, form_fits}
use Rattle.sheets.specs.Sheets.{count, groups, library_count}
use Rattle.captured.proofs.Lowering.{left_all, left_next, left_none}
use Rattle.captured.proofs.Seeding.{record_other, variable_markers, owner_there, variable_there, entry_low, record_uses}
use Rattle.captured.proofs.MarkedSheets.seed_records.Goals as goal

pub loop-record-init : goal.loop-record-init
loop-record-init c =
    let e = c.into_iter-record-iterator.ensures.into_iter_gives ∙ c.records-record-items.ensures.records ∙ c.group-group.ensures in
    let p = c.args.self.now.nest.now.formed.now.sheets in
    (tt, tt, subst (All (RecordFits (library_count p) (count p) (groups p) c.args.m)) (sym e) (form_fits p.library p.user c.args.self.now.nest.now.formed.now.formed c.args.m), left_all e)

pub group-requires : goal.group-requires
group-requires c =
    let fits = rw c.in-Some.ensures.steps at c.loop-record.invariant.2 in
    owner_there c.args.self.now.nest.now.formed.now.passed fits.0 (rw c.in-Uses.is at c.body.ensures)

pub variable_type-ty-requires : goal.variable_type-ty-requires
variable_type-ty-requires c =
    let fits = rw c.in-Some.ensures.steps at c.loop-record.invariant.2 in
    rw c.group.ensures (variable_there c.args.self.now.nest.now.formed.now.passed fits.0 (rw c.in-Uses.is at c.body.ensures))

pub overflow_mul-y : goal.overflow_mul-y
overflow_mul-y c =
    let fits = rw c.in-Some.ensures.steps at c.loop-record.invariant.2 in
    let low = entry_low c.args.self.now.nest.now.formed.now.passed fits.0 (rw c.in-Uses.is at c.body.ensures) in
    omega (arith, low.0)

pub overflow_add-y : goal.overflow_add-y
overflow_add-y c =
    let fits = rw c.in-Some.ensures.steps at c.loop-record.invariant.2 in
    let low = entry_low c.args.self.now.nest.now.formed.now.passed fits.0 (rw c.in-Uses.is at c.body.ensures) in
    omega (arith, low.0, low.1)

pub overflow_cast-y : goal.overflow_cast-y
overflow_cast-y c =
    let fits = rw c.in-Some.ensures.steps at c.loop-record.invariant.2 in
    let low = entry_low c.args.self.now.nest.now.formed.now.passed fits.0 (rw c.in-Uses.is at c.body.ensures) in
    omega (arith, low.0, low.1)

pub offer-requires : goal.offer-requires
offer-requires c = omega (arith, c.args.self.now.nest.now.formed.now.passed.few, c.requires)

pub loop-record-preserved-in-Uses : goal.loop-record-preserved-in-Uses
loop-record-preserved-in-Uses c =
    let p = c.args.self.now.nest.now.formed.now.sheets in
    let fits = rw c.in-Some.ensures.steps at c.loop-record.invariant.2 in
    let w = rw c.in-Uses.is at c.body.ensures in
    let markers = variable_markers c.args.self.now.known c.type_markers.ensures (rw c.group.ensures at c.variable_type-ty.ensures) in (
      tt,
      tt,
      fits.1,
      left_next c.loop-record.invariant.3 c.in-Some.ensures.steps
          (record_uses c.args.self.now.nest.now.formed.now.passed fits.0 w markers refl c.mark_enclosers.ensures c.offer.ensures),
    )

pub loop-record-preserved : goal.loop-record-preserved
loop-record-preserved c =
    let fits = rw c.in-Some.ensures.steps at c.loop-record.invariant.2 in
    (tt, tt, fits.1, left_next c.loop-record.invariant.3 c.in-Some.ensures.steps (record_other c.body.result c.body.ensures c.in_default.not-Uses _))

pub returns : goal.returns
returns c = left_none c.loop-record.invariant.3 c.in-None.ensures.steps.0
