-- A class names another if one of its records does.
-- Assumes nothing.
use mathlib.Core.Path.{◌≡◌}
use mathlib.Core.Bool.{Bool}
use mathlib.Core.List.{List}
use Prim.Native.Nat.{ℕ}
use lib.Dec.{eqb}
use Rattle.spec.specs.Lists.{any, elem}
use Rattle.spec.specs.Record.{references}
use Rattle.spec.specs.Sheet.{Group, group_references}
use Rattle.theory.proofs.Somewhere.{any_gather}

abbrev pub record_names : ℕ → List ℕ → Bool
record_names t r = elem t (references r)

pub class_names : (t : ℕ) (h : Group) → elem t (group_references h) ≡ any (record_names t) h
unfolding elem group_references
class_names t h = any_gather (eqb t) references h
