-- Faulted lines, counted in a row of structs into which a flat row was written, and in the flat row.
-- Assumes nothing.
use mathlib.Core.Path.{◌≡◌, refl, sym, ap, ◌∙◌}
use mathlib.Core.Bool.{Bool, true, false, not, cond}
use mathlib.Core.List.{List, ◌++◌}
use Prim.Native.Nat.{ℕ, zero, suc, ◌+◌, ◌-◌, min}
use native.Mathlib.Nat.{add-zero}
use native.Mathlib.Numerals.{add-one}
use native.Mathlib.Omega.{arith}
use lib.Dec.{eqb}
use lib.ListN.{length, drop, replicate, length-replicate, replicate-append-replicate}
use lib.Seq.{take_all, drop_at}
use Rattle.std.specs.List.{count_by}
use Rattle.std.proofs.lemmas.List.Sums.{sum_by-cons, sum_by-append, sum_by_push}
use Rattle.spec.specs.Verdicts.{flat_at}
use Rattle.laws.proofs.Count.{step, count_none, count_more}
use Rattle.verdicts.specs.Row.{clean, line_of, is_faulted, faulted_in, shared, first_lines, written, flat_faulted}
use Rattle.verdicts.specs.declared.Verdict.{Verdict}

-- a verdict counts 1 where it is faulted
abbrev one : Verdict → ℕ
one v = cond (is_faulted v) 1 0

clean_counted : (m : ℕ) → count_by is_faulted (replicate m clean) ≡ 0
clean_counted zero = refl
clean_counted (suc m) = sum_by-cons one clean (replicate m clean) ∙ ap (λ (k : ℕ). 0 + k) (clean_counted m)

one_more : (t : Bool) (k : ℕ) → k + cond t 1 0 ≡ step t k
one_more true k = add-one k
one_more false k = add-zero k

module _ (flat : List ℕ) where
  abbrev bad : ℕ → Bool
  bad i = not (eqb (flat_at flat i).rule 0)

  lines_counted : (n : ℕ) → count_by is_faulted (first_lines flat n) ≡ flat_faulted flat n
  unfolding first_lines flat_faulted
  lines_counted zero = sym (count_none bad)
  lines_counted (suc n) =
      sum_by_push one (first_lines flat n) (line_of (flat_at flat n))
      ∙ ap (λ (k : ℕ). k + cond (bad n) 1 0) (lines_counted n)
      ∙ one_more (bad n) (flat_faulted flat n)
      ∙ sym (count_more bad n)

  -- the row of `faulted`: the flat row's lines, then clean ones
  pub faults_counted : (n : ℕ) {ys : List Verdict} {r : ℕ} → ys ≡ written flat (replicate 256 clean) n → length ys ≡ 256
      → r ≡ faulted_in ys (min 256 (length ys)) → r ≡ flat_faulted flat (shared n 256 flat)
  unfolding faulted_in written
  faults_counted n {ys} e long told =
      told
      ∙ ap (count_by is_faulted) (take_all (min 256 (length ys)) ys (omega arith) ∙ e ∙ ap (λ (l : List Verdict). first_lines flat k ++ l) rest)
      ∙ sum_by-append one (first_lines flat k) (replicate (256 - k) clean)
      ∙ omega (arith, lines_counted k, clean_counted (256 - k))
    where
      k : ℕ
      k = shared n 256 flat

      rest : drop k (replicate 256 clean) ≡ replicate (256 - k) clean
      rest =
          let apart : k + (256 - k) ≡ 256 = omega arith in
          ap (drop k) (sym (replicate-append-replicate k (256 - k) clean ∙ ap (λ (m : ℕ). replicate m clean) apart))
          ∙ drop_at (replicate k clean) (replicate (256 - k) clean) k (length-replicate k clean)
