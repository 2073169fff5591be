-- The table of closures: each entry is closed, holds its set, and lies in every closed set that does; and it is the union of its single markers' closures.
-- Each is one test, computed over all 256 entries.
-- Assumes nothing.
use mathlib.Core.List.{map}
use lib.Dec.{T, eqb}
use Rattle.spec.specs.Lists.{all, keep}
use Rattle.spec.specs.Markers.{sets, singles, is_closed, contains, union_all, closure, is_least_in}
use Rattle.spec.specs.Evaluate.{evaluation}

pub entries_closed : T (all (λ m. is_closed (closure m)) sets)
unfolding evaluation
entries_closed = tt

pub entries_contain : T (all (λ m. contains (closure m) m) sets)
unfolding evaluation
entries_contain = tt

pub entries_least : T (all (is_least_in (keep is_closed sets)) sets)
unfolding evaluation
entries_least = tt

pub entries_union : T (all (λ m. eqb (closure m) (union_all (map closure (singles m)))) sets)
unfolding evaluation
entries_union = tt
