-- A class, and an index if the record has one.
use mathlib.Core.Path.{refl}
use native.Mathlib.Omega.{arith}
use Rattle.canonical.specs.declared.sets.Set.TheVariants.{Implements, Builds}
use Rattle.canonical.proofs.Records.{class_low, index_low, number_long, number_short, set_is}
use Rattle.canonical.proofs.sets.Set.number_of.Goals as goal

pub number-requires : goal.number-requires
number-requires c = omega (arith, c.in-Implements-Implements.ensures.1, class_low c.requires)

pub number-requires-in-Uses-Uses : goal.number-requires-in-Uses-Uses
number-requires-in-Uses-Uses c = omega (arith, c.in-Uses-Uses.ensures.1, c.in-Uses-Uses.ensures.2, class_low c.requires, index_low c.requires)

pub number-requires-in-Builds-Builds : goal.number-requires-in-Builds-Builds
number-requires-in-Builds-Builds c = omega (arith, c.in-Builds-Builds.ensures.1, class_low c.requires)

pub number-requires-in-Refers-Refers : goal.number-requires-in-Refers-Refers
number-requires-in-Refers-Refers c = omega (arith, c.in-Refers-Refers.ensures.1, c.in-Refers-Refers.ensures.2, class_low c.requires, index_low c.requires)

pub returns-in-Implements-Implements : goal.returns-in-Implements-Implements
returns-in-Implements-Implements c =
    let own = c.in-Implements-Implements in rw own.is-0 (number_short c.requires 2 own.ensures.0 (set_is Implements) refl own.ensures.1 c.number.ensures)

pub returns-in-Uses-Uses : goal.returns-in-Uses-Uses
returns-in-Uses-Uses c =
    let own = c.in-Uses-Uses in rw own.is-0 (number_long c.requires 5 own.ensures.0 own.ensures.1 own.ensures.2 c.number-in-Uses-Uses.ensures)

pub returns-in-Builds-Builds : goal.returns-in-Builds-Builds
returns-in-Builds-Builds c =
    let own = c.in-Builds-Builds in rw own.is-0 (number_short c.requires 6 own.ensures.0 (set_is Builds) refl own.ensures.1 c.number-in-Builds-Builds.ensures)

pub returns-in-Refers-Refers : goal.returns-in-Refers-Refers
returns-in-Refers-Refers c =
    let own = c.in-Refers-Refers in rw own.is-0 (number_long c.requires 8 own.ensures.0 own.ensures.1 own.ensures.2 c.number-in-Refers-Refers.ensures)
