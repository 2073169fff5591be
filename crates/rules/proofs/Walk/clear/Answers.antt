use Rattle.spec.specs.Record.{bit}
use Rattle.rules.specs.Walk.{kept_at}
use Rattle.rules.proofs.Walk.clear.Goals as goal

pub returns-in-Late : goal.returns-in-Late
unfolding kept_at bit
returns-in-Late c = rw c.in-Late.is (rw c.set.ensures.0 at c.has.ensures)
