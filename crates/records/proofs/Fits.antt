-- How long a record is that fits its kind, and that its kind is one of the eight.
-- Assumes nothing.
use mathlib.Core.Path.{◌≡◌, sym, ◌∙◌}
use mathlib.Core.Bool.{true}
use mathlib.Core.List.{List}
use mathlib.Core.Logic.{inl, inr}
use Prim.Native.Nat.{ℕ, ◌≤◌}
use native.Mathlib.Omega.{arith}
use lib.ListN.{length, get_or}
use Rattle.std.specs.Result.{result_unwrap_or}
use Rattle.std.specs.declared.result.Result.{Result}
use Rattle.std.specs.declared.result.Result.TheVariants.{Ok, Err}
use Rattle.spec.specs.Record.{kind}
use Rattle.laws.proofs.Bools.{t_true}
use Rattle.records.specs.declared.kind.Kind.{Kind}
use Rattle.records.specs.declared.kind.UnknownKind.{UnknownKind}
use Rattle.records.specs.Records.{size_fits}
use Rattle.records.specs.Kinds.{Fits, Numbers, kind_number}
use Rattle.records.proofs.Sizes.{shortest, length_fits_lem, size_known, at_least, kind_sixes, no_kind}

module _ {r : List ℕ} (f : Fits r) where
  size : size_fits (kind r) (length r) ≡ true
  size = sym (length_fits_lem r) ∙ t_true _ f.fits

  -- a record's kind has a number from 1 to 8, so no default is taken
  pub known : (d : Kind) (k : Result Kind UnknownKind) → Numbers (kind r) k → kind_number (result_unwrap_or k d) ≡ kind r
  known d (Ok k) q = q
  known d (Err e) q = absurd (elim q.1 [
    | inl z ↦ no_kind (length r) (rw z at size)
    | inr h ↦ (let l = size_known (kind r) (length r) size in omega arith)
  ])

  pub six : 6 ≤ length r
  six = kind_sixes (kind r) (length r) size

  pub long : (j : ℕ) → j ≡ kind r → get_or shortest j 0 ≤ length r
  long j e = at_least j (sym e) size
