-- Sheets that passed the first pass have an index: what is known of sheets by their index is known of them.
-- Assumes nothing.
use mathlib.Core.Path.{refl}
use mathlib.Core.List.{List, map}
use Prim.Native.Nat.{ℕ}
use native.Mathlib.Omega.{arith}
use Rattle.spec.specs.Lists.{span}
use Rattle.laws.proofs.Rows.{length_values, get_or_values}
use Rattle.groups.specs.Groups.{start_of, Indexed}
use Rattle.sheets.specs.Sheets.{Pair, Passed, library_count, count}

abbrev pub row_of : Pair → List ℕ
row_of p = map (start_of p.library p.user) (span 0 256)

pub indexed : {p : Pair} → Passed p → Indexed p.library p.user (library_count p) (count p) (row_of p)
indexed {p} h = record {
  library_clear = h.library_clear;
  user_clear = h.user_clear;
  library_size = h.library_size;
  user_size = h.user_size;
  nlib_is = refl;
  n_is = refl;
  some = h.some;
  few = h.few;
  long = length_values (start_of p.library p.user) 256;
  starts = λ c l. (let q = h.few in get_or_values (start_of p.library p.user) 256 0 c (omega arith));
}
