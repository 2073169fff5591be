-- The verdict row as a list of structs, the report over it, and a flat row's lines written into it.
-- Assumes nothing.
use Rattle.std.specs.Prelude.{Bool, true, false, not, List, [], ◌∷◌, ◌++◌, ℕ, zero, suc, min, eqb, length, get_or, take, drop, count_by}
use Rattle.spec.specs.Lists.{count, span}
use Rattle.spec.specs.Rules as spec
use Rattle.spec.specs.Verdicts.{VerdictRow, flat_lines, flat_at}
use Rattle.verdicts.specs.declared.Verdict.{Verdict}

-- ---- the row

abbrev pub clean : Verdict
clean = record { rule = 0; «record» = 0; class = 0 }

abbrev pub line_of : spec.Verdict → Verdict
line_of v = record { rule = v.rule; «record» = v.record_number; class = v.class }

unfoldable pub line_at : List Verdict → ℕ → spec.Verdict
line_at row i = let v = get_or row i clean in record { rule = v.rule; record_number = v.«record»; class = v.class }

-- the row in which line i is `v i` wherever `changed i`, counted from i
unfoldable pub rewritten_from : (ℕ → Bool) → (ℕ → spec.Verdict) → ℕ → List Verdict → List Verdict
rewritten_from changed v i [] = []
rewritten_from changed v i (x ∷ xs) = elim (changed i) [ true ↦ line_of (v i) | false ↦ x ] ∷ rewritten_from changed v (suc i) xs

abbrev pub structs : VerdictRow
structs = record { Row = List Verdict; lines = length; at = line_at; rewritten = λ changed v row. rewritten_from changed v 0 row }

-- ---- the report

abbrev pub is_faulted : Verdict → Bool
is_faulted v = not (eqb v.rule 0)

-- how many of the first n verdicts are faulted
unfoldable pub faulted_in : List Verdict → ℕ → ℕ
faulted_in row n = count_by is_faulted (take n row)

-- ---- a flat row, and its lines written into the row

-- how many of n lines both a row of so many structs and a flat row have
abbrev pub shared : ℕ → ℕ → List ℕ → ℕ
shared n lines flat = min (min n lines) (flat_lines flat)

-- the first n lines of a flat row
unfoldable pub first_lines : List ℕ → ℕ → List Verdict
first_lines flat zero = []
first_lines flat (suc n) = first_lines flat n ++ (line_of (flat_at flat n) ∷ [])

-- the row whose first n lines are the flat row's, as far as both have them
unfoldable pub written : List ℕ → List Verdict → ℕ → List Verdict
written flat row n = let k = shared n (length row) flat in first_lines flat k ++ drop k row

-- how many of the first n lines of a flat row are faulted
unfoldable pub flat_faulted : List ℕ → ℕ → ℕ
flat_faulted flat n = count (λ i. not (eqb (flat_at flat i).rule 0)) (span 0 n)
