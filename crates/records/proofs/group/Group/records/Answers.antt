use mathlib.Core.Path.{ap}
use native.Mathlib.Omega.{arith}
use lib.ListN.{length}
use Prim.Native.Nat.{ℕ}
use mathlib.Core.List.{List}
use Rattle.records.proofs.Lined.{few_records}
use Rattle.records.proofs.group.Group.records.Goals as goal

pub returns-clause-few : goal.returns-clause-few
returns-clause-few c = omega (arith, few_records c.self.inside.bytes.now, ap (λ (g : List (List ℕ)). length g) c.self.view_is, c.self.ranges)
