use Rattle.std.proofs.Common.{rules, refl}
use Rattle.spec.specs.Index.{free_from}
use Rattle.theory.proofs.Indexing.{free_here, free_next}
use Rattle.names.proofs.Probing.{out, onward, ended, inside, read_free, read_taken}
use Rattle.names.proofs.free_from.Goals as goal

pub loop-init : goal.loop-init
loop-init c = record { within = c.requires.low; rest = refl }

pub offset_bounds-row-place : goal.offset_bounds-row-place
offset_bounds-row-place c = let l = c.loop.invariant.within in search rules

pub bounds-row-place : goal.bounds-row-place
bounds-row-place c = inside c.args.row.now c.loop.place c.loop.invariant.within c.requires.long

pub next_place-place-requires : goal.next_place-place-requires
next_place-place-requires c = c.loop.invariant.within

pub loop-preserved : goal.loop-preserved
loop-preserved c =
    onward c.loop.invariant c.loop-test.true c.next_place-place.ensures
    (free_next c.args.row.now _ c.loop.place (read_taken c.args.row.now c.loop.place c.loop.invariant.within c.requires.long c.if-row-place.false))

pub returns-after-loop : goal.returns-after-loop
unfolding free_from
returns-after-loop c = ended c.loop.invariant c.loop-test.false refl

pub returns-then-row-place : goal.returns-then-row-place
returns-then-row-place c =
    out c.loop.invariant c.loop-test.true
    (free_here c.args.row.now _ c.loop.place (read_free c.args.row.now c.loop.place c.loop.invariant.within c.requires.long c.if-row-place.true))
