use Rattle.std.proofs.Common.{rules}
use borrow.Author.Tests.{tests}
use Rattle.spec.specs.Record.{by_kind, unless_none, references}
use Rattle.named.proofs.named.Goals as goal

pub returns-in-Class : goal.returns-in-Class
unfolding references by_kind unless_none
returns-in-Class c = search (rules, tests)

pub returns-in-Implements : goal.returns-in-Implements
unfolding references by_kind
returns-in-Implements c = search (rules, tests)

pub returns-in-Field : goal.returns-in-Field
unfolding references by_kind
returns-in-Field c = search (rules, tests)

pub returns-in-Local : goal.returns-in-Local
unfolding references by_kind
returns-in-Local c = search (rules, tests)

pub returns-in-Uses : goal.returns-in-Uses
unfolding references by_kind
returns-in-Uses c = search (rules, tests)

pub returns-in-Builds : goal.returns-in-Builds
unfolding references by_kind
returns-in-Builds c = search (rules, tests)

pub returns-in-Member : goal.returns-in-Member
unfolding references by_kind
returns-in-Member c = search (rules, tests)

pub returns-in-Refers : goal.returns-in-Refers
unfolding references by_kind
returns-in-Refers c = search (rules, tests)
