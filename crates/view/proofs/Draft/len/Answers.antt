-- The lengths of the three parts.
use mathlib.Core.Path.{sym, ap, ◌∙◌}
use mathlib.Core.List.{List}
use Prim.Native.Nat.{ℕ}
use lib.ListN.{length}
use Rattle.view.proofs.Splice.{length_spliced}
use Rattle.view.proofs.Draft.len.Goals as goal

pub returns : goal.returns
returns c = sym (length_spliced _ _ _ c.self.invariant) ∙ ap (λ (s : List ℕ). length s) c.self.view_is
