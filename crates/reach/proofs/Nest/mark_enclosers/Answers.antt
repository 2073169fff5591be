-- The walk up, an encloser at a time.
use Rattle.std.proofs.Common.{◌<◌, arith}
use Rattle.sheets.specs.Sheets.{count, groups}
use Rattle.reach.specs.Reach.{outer_of}
use Rattle.lanes.proofs.Marking.{up_start, up_next, up_end}
use Rattle.reach.proofs.Encloser.{climb_to, climb_end}
use Rattle.reach.proofs.Nest.mark_enclosers.Goals as goal

pub loop-c-init : goal.loop-c-init
loop-c-init c = rw c.requires.unmarked (up_start (outer_of (groups c.args.self.now.formed.now.sheets)) c.args.m)

pub loop-c-preserved : goal.loop-c-preserved
loop-c-preserved c =
    let there : c.loop-c.c < count c.args.self.now.formed.now.sheets = omega (arith, c.loop-c.invariant.low, c.requires.there) in
    let lower : c.from-c.result < c.loop-c.c = omega (arith, c.loop-c-test.true, c.from.ensures, c.from-c.ensures) in
    up_next c.loop-c.invariant (climb_to c.args.self.now.read there c.from-c.ensures lower) lower (omega (arith, c.args.self.now.read.few, c.requires.there))

pub returns : goal.returns
returns c =
    let there : c.loop-c.c < count c.args.self.now.formed.now.sheets = omega (arith, c.loop-c.invariant.low, c.requires.there) in
    up_end c.loop-c.invariant (climb_end c.args.self.now.read there c.from.ensures c.loop-c-test.false)
