-- Which verdicts of the flat row are written, and how many are faulted.
-- Assumes nothing.
use Rattle.std.specs.Prelude.{Bool, false, not, ◌&&◌, List, ℕ, ◌+◌, ◌*◌, eqb, ltb, get_or}
use Rattle.std.proofs.lemmas.List.Edits.{sets}
use Rattle.spec.specs.Lists.{count, span}
use Rattle.spec.specs.Rules.{Verdict}
use Rattle.spec.specs.Verdicts.{verdict_bytes, flat_at, bytes_of}

-- a verdict's bytes written at its place of the row
unfoldable pub put_at : ℕ → Verdict → List ℕ → List ℕ
put_at i v row = sets row (verdict_bytes * i) (bytes_of v)

-- the i-th user class is below class n, and marked
unfoldable pub chosen : ℕ → ℕ → List Bool → ℕ → Bool
chosen nlib n marks i = ltb (nlib + i) n && get_or marks (nlib + i) false

-- the faulted ones among the first n verdicts
unfoldable pub faulted_in : List ℕ → ℕ → ℕ
faulted_in row n = count (λ i. not (eqb (flat_at row i).rule 0)) (span 0 n)

-- the marked ones of the first n classes
unfoldable pub marked_in : List Bool → ℕ → ℕ
marked_in marks n = count (λ c. get_or marks c false) (span 0 n)
