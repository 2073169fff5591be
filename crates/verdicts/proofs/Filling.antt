-- A row of structs that is written line by line from a flat row, and what is read in it afterwards.
-- Assumes nothing.
use mathlib.Core.Path.{◌≡◌, refl, sym, ap, ◌∙◌}
use mathlib.Core.List.{List, [], ◌∷◌, ◌++◌, append_assoc}
use Prim.Native.Nat.{ℕ, zero, suc, ◌+◌, ◌*◌, ◌-◌, ◌/◌, ◌≤◌, ◌<◌, min}
use native.Mathlib.Numerals.{add-one}
use native.Mathlib.Omega.{arith}
use lib.ListN.{length, get_or, set, take, drop, length-append, length-drop, get_or-append}
use lib.Seq.{drop-cons, set_at, get_or_at, get_or-take, get_or-drop, get_or-append-add}
use Rattle.std.specs.Simd.{first_chunks}
use Rattle.std.proofs.lemmas.List.{append-nil, drop_all, length-take}
use borrow.Author.Count.{below_more}
use Rattle.spec.specs.Rules as spec
use Rattle.spec.specs.Verdicts.{verdict_bytes, flat_lines, flat_at}
use Rattle.verdicts.specs.Row.{clean, line_of, line_at, shared, first_lines, written}
use Rattle.verdicts.specs.declared.Verdict.{Verdict}

-- how many lines there are, told from the flat row's bytes
pub shared_is : (flat : List ℕ) (n lines : ℕ) {k : ℕ} → k ≡ min (min n lines) (length flat / verdict_bytes) → k ≡ shared n lines flat
unfolding flat_lines
shared_is flat n lines e = e

-- the bytes of a chunk
chunk_byte : (m i j : ℕ) (xs : List ℕ) → i < m → j < verdict_bytes
    → get_or (get_or (first_chunks verdict_bytes m xs) i []) j 0 ≡ get_or xs (verdict_bytes * i + j) 0
chunk_byte zero i j xs h b = absurd (omega arith)
chunk_byte (suc m) zero j xs h b = get_or-take verdict_bytes xs j 0 b ∙ ap (λ (k : ℕ). get_or xs k 0) (omega arith)
chunk_byte (suc m) (suc i) j xs h b =
    chunk_byte m i j (drop verdict_bytes xs) (omega arith) b ∙ get_or-drop verdict_bytes xs (verdict_bytes * i + j) 0 ∙ ap (λ (k : ℕ). get_or xs k 0) (omega arith)

-- a line as it is read
read : Verdict → spec.Verdict
read v = record { rule = v.rule; record_number = v.«record»; class = v.class }

module _ (flat : List ℕ) where
  abbrev pub line : ℕ → Verdict
  line i = line_of (flat_at flat i)

  -- the chunks of the flat row are its lines
  pub line_read : {lines : List (List ℕ)} → lines ≡ first_chunks verdict_bytes (length flat / verdict_bytes) flat → (i : ℕ) → i < length flat / verdict_bytes
      → record { rule = get_or (get_or lines i []) 0 0; «record» = get_or (get_or lines i []) 1 0; class = get_or (get_or lines i []) 2 0 } ≡ line i
  unfolding flat_at
  line_read e i h =
      let byte = λ (j : ℕ) (b : j < verdict_bytes). chunk_byte (length flat / verdict_bytes) i j flat h b in
      rw e (λ k. record {
        rule = (byte 0 (omega arith) ∙ ap (λ (j : ℕ). get_or flat j 0) {x = verdict_bytes * i + 0} {y = verdict_bytes * i} (omega arith)) k;
        «record» = byte 1 (omega arith) k;
        class = byte 2 (omega arith) k;
      })

  first_length_lem : (n : ℕ) → length (first_lines flat n) ≡ n
  unfolding first_lines
  first_length_lem zero = refl
  first_length_lem (suc n) = length-append (first_lines flat n) (line n ∷ []) ∙ ap (λ (k : ℕ). k + 1) (first_length_lem n) ∙ add-one n

  first_at : (n i : ℕ) → i < n → get_or (first_lines flat n) i clean ≡ line i
  unfolding first_lines
  first_at zero i h = absurd (omega arith)
  first_at (suc n) i h =
      below_more (λ j. get_or (first_lines flat (suc n)) j clean ≡ line j) n
      (λ j l. get_or-append (first_lines flat n) (line n ∷ []) clean j (omega (arith, first_length_lem n)) ∙ first_at n j l)
      (get_or_at (first_lines flat n) (line n) [] clean n (first_length_lem n))
      i (omega arith)

  module _ (row : List Verdict) where
    -- a row after its first i lines
    abbrev pub filled : ℕ → List Verdict
    filled i = first_lines flat i ++ drop i row

    pub filled_none : row ≡ filled 0
    unfolding first_lines
    filled_none = refl

    pub filled_length : (i : ℕ) → i ≤ length row → length (filled i) ≡ length row
    filled_length i h = omega (arith, length-append (first_lines flat i) (drop i row), first_length_lem i, length-drop i row)

    filled_suc : (i : ℕ) → filled (suc i) ≡ first_lines flat i ++ line i ∷ drop (suc i) row
    unfolding first_lines
    filled_suc i = append_assoc (first_lines flat i) (line i ∷ []) (drop (suc i) row)

    pub filled_more : (i : ℕ) → i < length row → set (filled i) i (line i) ≡ filled (i + 1)
    filled_more i h =
        ap (λ (l : List Verdict). set (first_lines flat i ++ l) i (line i)) (drop-cons row i clean h)
        ∙ set_at (first_lines flat i) (get_or row i clean) (drop (suc i) row) (line i) i (first_length_lem i)
        ∙ sym (filled_suc i)
        ∙ ap filled (sym (add-one i))

    module _ (n : ℕ) where
      pub written_length : length (written flat row n) ≡ length row
      unfolding written
      written_length = filled_length (shared n (length row) flat) (omega arith)

      -- the slice reads what the flat row reads
      written_at : (i : ℕ) → i < shared n (length row) flat → get_or (written flat row n) i clean ≡ line i
      unfolding written
      written_at i h =
          let k : ℕ = shared n (length row) flat in
          get_or-append (first_lines flat k) (drop k row) clean i (omega (arith, first_length_lem k)) ∙ first_at k i h

      pub reads_flat : (i : ℕ) → i < shared n (length row) flat → line_at (written flat row n) i ≡ flat_at flat i
      unfolding line_at flat_at read
      reads_flat i h = ap read (written_at i h)

      -- and past the lines that were written what it read before
      pub reads_row : (i : ℕ) → shared n (length row) flat ≤ i → line_at (written flat row n) i ≡ line_at row i
      unfolding line_at written read
      reads_row i h =
          let k : ℕ = shared n (length row) flat in
          let z : length (first_lines flat k) + (i - k) ≡ i = omega (arith, first_length_lem k) in
          ap read
          (ap (λ (j : ℕ). get_or (first_lines flat k ++ drop k row) j clean) (sym z)
          ∙ get_or-append-add (first_lines flat k) (drop k row) (i - k) clean ∙ get_or-drop k row (i - k) clean
          ∙ ap (λ (j : ℕ). get_or row j clean) (let y : k + (i - k) ≡ i = omega arith in y))

  -- the lines that both rows have, filled apart from the others
  pub filled_front : (row : List Verdict) (n : ℕ) {k i : ℕ} → k ≡ shared n (length row) flat → i ≡ length (take k row) → filled (take k row) i ++ drop k row ≡ written flat row n
  unfolding written
  filled_front row n {k} {i} e f =
      let all : i ≡ k = omega (arith, length-take k row) in
      ap (λ (j : ℕ). filled (take k row) j ++ drop k row) all
      ∙ ap (λ (l : List Verdict). (first_lines flat k ++ l) ++ drop k row) (drop_all k (take k row) (omega (arith, length-take k row)))
      ∙ ap (λ (l : List Verdict). l ++ drop k row) (append-nil (first_lines flat k))
      ∙ ap (λ (j : ℕ). first_lines flat j ++ drop j row) e
