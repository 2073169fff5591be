-- Library classes neither use variables nor build: the table of kinds leaves these records to the user sheet.
-- Assumes nothing.
use mathlib.Core.Path.{◌≡◌, subst}
use mathlib.Core.Bool.{false}
use Prim.Native.Nat.{ℕ, ◌<◌}
use lib.Dec.{T}
use lib.ListN.{length}
use Rattle.spec.specs.Record.{kind_fits, USES, BUILDS}
use Rattle.spec.specs.Sheet.{of_kind}
use Rattle.theory.proofs.References.{by_kind_lem}
use Rattle.sheets.specs.Sheets.{Pair, Passed, library_count, groups}
use Rattle.sheets.proofs.Indexes.{indexed}
use Rattle.groups.proofs.Fitting.{library_none}

module _ {p : Pair} (x : Passed p) {m : ℕ} (h : m < library_count p) where
  pub library_uses_none : length (of_kind USES (groups p m)) ≡ 0
  unfolding kind_fits
  library_uses_none = library_none (indexed x) h USES (λ r f t. subst T (by_kind_lem r false _ USES t) f)

  pub library_builds_none : length (of_kind BUILDS (groups p m)) ≡ 0
  unfolding kind_fits
  library_builds_none = library_none (indexed x) h BUILDS (λ r f t. subst T (by_kind_lem r false _ BUILDS t) f)
