use Rattle.std.proofs.Common.{rules, arith}
use Rattle.names.proofs.Probing.{free_low}
use Rattle.names.proofs.enter.Goals as goal

pub offset_bounds-row-place : goal.offset_bounds-row-place
offset_bounds-row-place c = let l = free_low c.args.row.now 512 c.args.home c.requires.low in search rules

pub bounds-row-place : goal.bounds-row-place
bounds-row-place c = omega (arith, free_low c.args.row.now 512 c.args.home c.requires.low, c.free_from-place.ensures, c.requires.long)
