-- The verdict row (document 01, "Slate, reader, locality"; its words for row and verdict are slate and line).
-- Assumes nothing.
use Rattle.std.specs.Prelude.{Bool, true, false, not, ◌&&◌, List, [], ◌∷◌, ℕ, suc, ◌+◌, ◌*◌, ◌/◌, ◌%◌, eqb, ltb, length, get_or}
use Rattle.spec.specs.Lists.{count, elem, span}
use Rattle.spec.specs.Sheet.{class_count, total, group}
use Rattle.spec.specs.Rules.{Verdict, verdict_of, dependencies}

-- ---- what judging two sheets says of their classes

module _ (library user : List ℕ) where
  unfoldable pub verdict_at : ℕ → Verdict
  verdict_at c = verdict_of (class_count library) (group library user) c

  -- the verdict of the i-th user class
  unfoldable pub user_verdict : ℕ → Verdict
  user_verdict i = verdict_at (class_count library + i)

  unfoldable pub faulted : ℕ → Bool
  faulted i = not (eqb (user_verdict i).rule 0)

  -- "user classes and faulted lines counted"
  unfoldable pub faulted_count : ℕ
  faulted_count = count faulted (span 0 (class_count user))

  -- class c depends on class n ("stands on")
  unfoldable pub depends_on : ℕ → ℕ → Bool
  depends_on n c = ltb c (total library user) && elem n (dependencies (group library user) c)

  -- "the count of classes standing on it"
  unfoldable pub dependent_count : ℕ → ℕ
  dependent_count n = count (depends_on n) (span 0 (total library user))

-- ---- a row of verdicts, of whatever make: how many verdicts it takes, the i-th one, and the row in which the i-th is `v i` wherever `changed i`

pub record VerdictRow : Type 1 where
  pub Row : Type 0
  pub lines : Row → ℕ
  pub at : Row → ℕ → Verdict
  pub rewritten : (ℕ → Bool) → (ℕ → Verdict) → Row → Row

-- ---- the flat row: rule, place, class, `verdict_bytes` bytes a user class; bytes after the last whole verdict belong to none

abbrev pub verdict_bytes : ℕ
verdict_bytes = 3

unfoldable pub flat_lines : List ℕ → ℕ
flat_lines row = length row / verdict_bytes

unfoldable pub flat_at : List ℕ → ℕ → Verdict
flat_at row i = record { rule = get_or row (verdict_bytes * i) 0; record_number = get_or row (verdict_bytes * i + 1) 0; class = get_or row (verdict_bytes * i + 2) 0 }

unfoldable pub bytes_of : Verdict → List ℕ
bytes_of v = v.rule ∷ v.record_number ∷ v.class ∷ []

-- a list whose element at place j is `f j` of what stood there, counted from i
unfoldable pub map_from : (ℕ → ℕ → ℕ) → ℕ → List ℕ → List ℕ
map_from f i [] = []
map_from f i (x ∷ xs) = f i x ∷ map_from f (suc i) xs

-- byte j belongs to verdict j / verdict_bytes
unfoldable pub flat_byte : (ℕ → Bool) → (ℕ → Verdict) → ℕ → ℕ → ℕ → ℕ
flat_byte changed v n j x =
    let i = j / verdict_bytes in
    elim (ltb i n && changed i) [ true ↦ get_or (bytes_of (v i)) (j % verdict_bytes) 0 | false ↦ x ]

unfoldable pub flat_rewritten : (ℕ → Bool) → (ℕ → Verdict) → List ℕ → List ℕ
flat_rewritten changed v row = map_from (flat_byte changed v (flat_lines row)) 0 row

abbrev pub flat : VerdictRow
flat = record { Row = List ℕ; lines = flat_lines; at = flat_at; rewritten = flat_rewritten }
