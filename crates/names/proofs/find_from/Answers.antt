use Rattle.std.proofs.Common.{rules, refl, ◌∙◌}
use Rattle.spec.specs.Index.{found_from}
use Rattle.theory.proofs.Indexing.{found_none}
use Rattle.names.proofs.Probing.{out, onward, ended, inside, read_free, class_low, found_at, found_past}
use Rattle.names.proofs.find_from.Goals as goal

pub loop-init : goal.loop-init
loop-init c = record { within = c.requires.low; rest = refl }

pub offset_bounds-row-place : goal.offset_bounds-row-place
offset_bounds-row-place c = let l = c.loop.invariant.within in search rules

pub bounds-row-place : goal.bounds-row-place
bounds-row-place c = inside c.args.row.now c.loop.place c.loop.invariant.within c.requires.held.long

pub returns-then-row-place : goal.returns-then-row-place
returns-then-row-place c =
    out c.loop.invariant c.loop-test.true
    (found_none _ c.args.row.now _ _ c.loop.place (read_free c.args.row.now c.loop.place c.loop.invariant.within c.requires.held.long c.if-row-place.true))

pub offset_bounds-row-place-in-loop : goal.offset_bounds-row-place-in-loop
offset_bounds-row-place-in-loop c = let l = c.loop.invariant.within in search rules

pub bounds-row-place-in-loop : goal.bounds-row-place-in-loop
bounds-row-place-in-loop c = inside c.args.row.now c.loop.place c.loop.invariant.within c.requires.held.long

pub group-requires : goal.group-requires
group-requires c =
    class_low c.args.row.now c.loop.place c.loop.invariant.within c.requires.held.long c.if-row-place.false (c.requires.held.holds c.loop.place) c.from-class.ensures

pub returns-then-eq : goal.returns-then-eq
returns-then-eq c =
    found_at _ c.args.row.now c.args.name.now c.loop.place c.loop.invariant.within c.requires.held.long c.if-row-place.false
    c.from-class.ensures c.group.ensures c.name.ensures c.eq.ensures _ c.if-eq.true
    ∙ out c.loop.invariant c.loop-test.true refl

pub next_place-place-requires : goal.next_place-place-requires
next_place-place-requires c = c.loop.invariant.within

pub loop-preserved : goal.loop-preserved
loop-preserved c =
    onward c.loop.invariant c.loop-test.true c.next_place-place.ensures
    (found_past _ c.args.row.now c.args.name.now c.loop.place c.loop.invariant.within c.requires.held.long c.if-row-place.false
    c.from-class.ensures c.group.ensures c.name.ensures c.eq.ensures _ c.if-eq.false)

pub returns : goal.returns
unfolding found_from
returns c = ended c.loop.invariant c.loop-test.false refl
