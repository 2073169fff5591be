-- A group is open, and there is room in it for a record.
use Rattle.std.proofs.Common.{arith}
use Rattle.pass.proofs.Tests.{group_room, group_open}
use Rattle.pass.proofs.place.Place.joined.Goals as goal

pub unwrap-open-requires : goal.unwrap-open-requires
unwrap-open-requires c = group_open c.args.self _ c.requires.passes c.requires.other

pub invariant_of-group : goal.invariant_of-group
invariant_of-group c =
    let r = rw c.unwrap-open.ensures at (group_room c.args.self _ c.requires.passes c.requires.other) in
    record { bounds = (omega arith, omega arith) }
