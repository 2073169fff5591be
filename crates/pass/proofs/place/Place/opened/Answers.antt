-- There is room for a class.
use Rattle.std.proofs.Common.{arith}
use Rattle.pass.proofs.Tests.{class_room}
use Rattle.pass.proofs.place.Place.opened.Goals as goal

pub invariant_of-result : goal.invariant_of-result
invariant_of-result c = record { few = omega (arith, class_room c.args.self _ c.requires.passes c.requires.class) }
