use mathlib.Core.Path.{sym, ap, ◌∙◌}
use native.Mathlib.Omega.{arith}
use mathlib.Core.List.{List}
use Prim.Native.Nat.{ℕ}
use Rattle.spec.specs.Sheet.{class_record}
use Rattle.records.specs.Kinds.{head_of}
use Rattle.records.proofs.Lined.{class_long, class_head}
use Rattle.records.proofs.group.Group.head.Goals as goal

pub head_in-requires : goal.head_in-requires
head_in-requires c = omega (arith, class_long c.self.invariant)

pub returns : goal.returns
returns c = c.head_in.ensures ∙ sym (class_head c.self.invariant) ∙ ap (λ (g : List (List ℕ)). head_of (class_record g)) c.self.view_is
