use Rattle.std.proofs.Common.{◌≡◌, ◌≤◌, length, refl, ap, ◌∙◌, arith, Bool, false, replicate}
use Rattle.std.proofs.lemmas.List.{length-take}
use Rattle.laws.proofs.Rows.{set_below}
use Rattle.spec.specs.Index.{index_of}
use Rattle.spec.specs.Sheet.{class_record}
use Rattle.spec.specs.Refusals.{name_met}
use Rattle.sheets.specs.Sheets.{groups}
use Rattle.theory.proofs.Indexing.{home_low}
use Rattle.names.specs.Names.{met_before}
use Rattle.names.proofs.Filling.{held, enters, met_now, met_are}
use Rattle.names.proofs.mark_met.Goals as goal

pub loop-class-init : goal.loop-class-init
unfolding index_of
loop-class-init c = (refl, λ d h. absurd (omega arith))

pub find_from-requires-clause-held : goal.find_from-requires-clause-held
find_from-requires-clause-held c =
    let few = c.count.ensures.passed.few in
    let there = length-take {A = Bool} c.count.result (replicate 256 false) in
    held (groups c.args.sheets.now) c.loop-class.class _ (omega (arith, there, few)) (omega (arith, there, few)) c.loop-class.invariant.0

pub find_from-requires-clause-low : goal.find_from-requires-clause-low
find_from-requires-clause-low c = omega (arith, home_low c.name-name.result.now, c.home-home.ensures)

pub enter-requires-clause-low : goal.enter-requires-clause-low
enter-requires-clause-low c = omega (arith, home_low c.name-name.result.now, c.home-home.ensures)

pub loop-class-preserved : goal.loop-class-preserved
loop-class-preserved c =
    let g = groups c.args.sheets.now in
    let i = c.loop-class.invariant in
    let low : c.loop-class.class ≤ 256 = omega (arith, length-take {A = Bool} c.count.result (replicate 256 false), c.count.ensures.passed.few) in
    let now = met_now g c.group.ensures c.name-name.ensures i.0 c.home-home.ensures low c.find_from.ensures c.is_some.ensures in (
      enters g c.group.ensures c.name-name.ensures i.0 c.home-home.ensures c.enter.ensures,
      set_below false (λ d v. v ≡ name_met g d (class_record (g d))) _ _ _ (omega arith) i.1 now,
    )

pub returns : goal.returns
returns c =
    let few = c.count.ensures.passed.few in
    let all : length c.loop-class.entry-items ≡ c.count.result = omega (arith, length-take {A = Bool} c.count.result (replicate 256 false), few) in
    rw c.requires.unmarked (
    met_are (groups c.args.sheets.now) c.count.result c.loop-class.entry-items (omega (arith, few)) all (λ d h. c.loop-class.invariant.1 d (omega (arith, all)))
    ∙ ap (met_before (groups c.args.sheets.now)) c.count.ensures.count)
