-- The flat row of verdicts, `verdict_bytes` bytes a user class: what stands at each byte after it was rewritten.
-- Assumes nothing.
use mathlib.Core.Path.{◌≡◌, refl, sym, ap, ◌∙◌}
use mathlib.Core.Bool.{Bool, true, false, not, ◌&&◌}
use mathlib.Core.List.{List, [], ◌∷◌, ◌++◌}
use Prim.Native.Nat.{ℕ, zero, suc, ◌+◌, ◌*◌, ◌/◌, ◌%◌, ◌≤◌, ◌<◌, suc-le-suc}
use native.Mathlib.Nat.{zero-add, add-zero, add-suc, suc-add, mul_comm, mul-suc, mul-le-mul_left, mul-div-le, div-add-mod, mod-lt}
use native.Mathlib.Nat.{le_of_suc-le-suc, not-suc-le-zero, zero-lt-suc}
use native.Mathlib.Decide.{ℕ_discrete}
use native.Mathlib.Omega.{arith}
use lib.Arith.{digits_div, digits_mod}
use lib.Dec.{T, eqb, ltb, lt→ltb}
use borrow.Author.Tests.{ne_eqb}
use lib.ListN.{length, get_or, set, take, drop, length-set}
use lib.Seq.{get_or-set_same, get_or-set_other, ext_get_or, sets, length-sets, sets-eq, paste, take_all}
use Rattle.spec.specs.Rules.{Verdict}
use Rattle.spec.specs.Verdicts.{verdict_bytes, flat_lines, flat_at, bytes_of, map_from, flat_byte, flat_rewritten}
use Rattle.laws.proofs.Bools.{t_true, t_false, t_and, and_r, not_mono, eq→eqb}

-- ---- a row of lines of w bytes

-- byte j of line i
pub line_of_lem : (w i j : ℕ) → j < w → ((w * i + j) / w ≡ i) × ((w * i + j) % w ≡ j)
line_of_lem w i j h = rw (mul_comm w i) (digits_div i h, digits_mod i h)

-- the place of a byte in its line
of_line : (w i j : ℕ) → j / w ≡ i → w * i + j % w ≡ j
of_line w i j e = ap (λ (k : ℕ). w * k + j % w) (sym e) ∙ div-add-mod j w

-- a line that n bytes hold is there whole
line_ends : (w n i : ℕ) → i < n / w → w * i + w ≤ n
line_ends w n i h = omega (arith, mul-suc w i, mul-le-mul_left w h, mul-div-le n w)

-- ---- the width of a verdict

pub width_some : 0 < verdict_bytes
width_some = omega arith

pub bytes_long : (v : Verdict) → length (bytes_of v) ≡ verdict_bytes
unfolding bytes_of
bytes_long v = refl

pub line_room : (row : List ℕ) {i : ℕ} → i < flat_lines row → verdict_bytes * i + verdict_bytes ≤ length row
unfolding flat_lines
line_room row {i} h = line_ends verdict_bytes (length row) i h

-- ---- a run of stores

-- outside the run
sets_kept : (vs l : List ℕ) (i j : ℕ) → ((k : ℕ) → k < length vs → j ≡ i + k → ⊥) → get_or (sets l i vs) j 0 ≡ get_or l j 0
sets_kept [] l i j h = refl
sets_kept (a ∷ vs) l i j h =
    sets_kept vs (set l i a) (suc i) j (λ k b e. h (suc k) (suc-le-suc b) (e ∙ suc-add i k ∙ sym (add-suc i k)))
    ∙ get_or-set_other l i j a 0 (λ e. h 0 (zero-lt-suc (length vs)) (e ∙ sym (add-zero i)))

-- in it
sets_new : (vs l : List ℕ) (i k : ℕ) → i + length vs ≤ length l → k < length vs → get_or (sets l i vs) (i + k) 0 ≡ get_or vs k 0
sets_new [] l i k r h = absurd (not-suc-le-zero h)
sets_new (a ∷ vs) l i zero r h =
    ap (λ (j : ℕ). get_or (sets (set l i a) (suc i) vs) j 0) (add-zero i)
    ∙ sets_kept vs (set l i a) (suc i) i (λ k b e. omega (arith, suc-add i k))
    ∙ get_or-set_same l i a 0 (omega arith)
sets_new (a ∷ vs) l i (suc k) r h =
    ap (λ (j : ℕ). get_or (sets (set l i a) (suc i) vs) j 0) (add-suc i k ∙ sym (suc-add i k))
    ∙ sets_new vs (set l i a) (suc i) k (omega (arith, length-set l i a)) (le_of_suc-le-suc h)

-- ---- a list changed place by place

module _ (f : ℕ → ℕ → ℕ) where
  from_length : (i : ℕ) (xs : List ℕ) → length (map_from f i xs) ≡ length xs
  unfolding map_from
  from_length i [] = refl
  from_length i (x ∷ xs) = ap suc (from_length (suc i) xs)

  from_new : (i : ℕ) (xs : List ℕ) (j : ℕ) → j < length xs → get_or (map_from f i xs) j 0 ≡ f (i + j) (get_or xs j 0)
  unfolding map_from
  from_new i [] j h = absurd (not-suc-le-zero h)
  from_new i (x ∷ xs) zero h = ap (λ (k : ℕ). f k x) (sym (add-zero i))
  from_new i (x ∷ xs) (suc j) h = from_new (suc i) xs j (le_of_suc-le-suc h) ∙ ap (λ (k : ℕ). f k (get_or xs j 0)) (suc-add i j ∙ sym (add-suc i j))

  -- past the end too, where nothing stands before and after
  from_kept : (i : ℕ) (xs : List ℕ) (j : ℕ) → ((x : ℕ) → f (i + j) x ≡ x) → get_or (map_from f i xs) j 0 ≡ get_or xs j 0
  unfolding map_from
  from_kept i [] j h = refl
  from_kept i (x ∷ xs) zero h = ap (λ (k : ℕ). f k x) (sym (add-zero i)) ∙ h x
  from_kept i (x ∷ xs) (suc j) h = from_kept (suc i) xs j (λ y. ap (λ (k : ℕ). f k y) (suc-add i j ∙ sym (add-suc i j)) ∙ h y)

-- ---- one byte

module _ (changed : ℕ → Bool) (v : ℕ → Verdict) (n i j : ℕ) (x : ℕ) where
  byte_if : Bool → ℕ
  byte_if b = elim b [ true ↦ get_or (bytes_of (v i)) (j % verdict_bytes) 0 | false ↦ x ]

  byte_is : j / verdict_bytes ≡ i → flat_byte changed v n j x ≡ byte_if (ltb i n && changed i)
  unfolding flat_byte byte_if
  byte_is e = ap (λ (k : ℕ). elim (ltb k n && changed k) as (λ (b : Bool). ℕ) [ true ↦ get_or (bytes_of (v k)) (j % verdict_bytes) 0 | false ↦ x ]) e

  byte_new : j / verdict_bytes ≡ i → i < n → T (changed i) → flat_byte changed v n j x ≡ get_or (bytes_of (v i)) (j % verdict_bytes) 0
  unfolding byte_if
  byte_new e h t = byte_is e ∙ ap byte_if (t_true (ltb i n && changed i) (t_and (ltb i n) (changed i) (lt→ltb i n h) t))

  byte_kept : j / verdict_bytes ≡ i → T (not (changed i)) → flat_byte changed v n j x ≡ x
  unfolding byte_if
  byte_kept e t = byte_is e ∙ ap byte_if (t_false (ltb i n && changed i) (not_mono (ltb i n && changed i) (changed i) (and_r (ltb i n) (changed i)) t))

pub rewritten_length : (changed : ℕ → Bool) (v : ℕ → Verdict) (row : List ℕ) → length (flat_rewritten changed v row) ≡ length row
unfolding flat_rewritten
rewritten_length changed v row = from_length (flat_byte changed v (flat_lines row)) 0 row

pub rewritten_lines : (changed : ℕ → Bool) (v : ℕ → Verdict) (row : List ℕ) → flat_lines (flat_rewritten changed v row) ≡ flat_lines row
unfolding flat_lines
rewritten_lines changed v row = ap (λ (n : ℕ). n / verdict_bytes) (rewritten_length changed v row)

-- ---- the bytes of a verdict, and the verdict

module _ (changed : ℕ → Bool) (v : ℕ → Verdict) (row : List ℕ) (i : ℕ) where
  module _ (h : i < flat_lines row) (t : T (changed i)) where
    pub read_new : (j : ℕ) → j / verdict_bytes ≡ i → get_or (flat_rewritten changed v row) j 0 ≡ get_or (bytes_of (v i)) (j % verdict_bytes) 0
    unfolding flat_rewritten
    read_new j e =
        from_new (flat_byte changed v (flat_lines row)) 0 row j (omega (arith, line_room row h, of_line verdict_bytes i j e, mod-lt j width_some))
        ∙ ap (λ (k : ℕ). flat_byte changed v (flat_lines row) k (get_or row j 0)) (zero-add j)
        ∙ byte_new changed v (flat_lines row) i j (get_or row j 0) e h t

    pub line_new : (j : ℕ) → j < verdict_bytes → get_or (flat_rewritten changed v row) (verdict_bytes * i + j) 0 ≡ get_or (bytes_of (v i)) j 0
    line_new j l = let o = line_of_lem verdict_bytes i j l in read_new (verdict_bytes * i + j) o.0 ∙ ap (λ (k : ℕ). get_or (bytes_of (v i)) k 0) o.1

    pub at_new : flat_at (flat_rewritten changed v row) i ≡ v i
    unfolding flat_at bytes_of
    at_new k = record { rule = (rw add-zero at (line_new 0 width_some)) k; record_number = line_new 1 (omega arith) k; class = line_new 2 (omega arith) k }

  module _ (t : T (not (changed i))) where
    pub read_kept : (j : ℕ) → j / verdict_bytes ≡ i → get_or (flat_rewritten changed v row) j 0 ≡ get_or row j 0
    unfolding flat_rewritten
    read_kept j e =
        from_kept (flat_byte changed v (flat_lines row)) 0 row j
        (λ x. ap (λ (k : ℕ). flat_byte changed v (flat_lines row) k x) (zero-add j) ∙ byte_kept changed v (flat_lines row) i j x e t)

    pub line_kept : (j : ℕ) → j < verdict_bytes → get_or (flat_rewritten changed v row) (verdict_bytes * i + j) 0 ≡ get_or row (verdict_bytes * i + j) 0
    line_kept j l = read_kept (verdict_bytes * i + j) (line_of_lem verdict_bytes i j l).0

    pub at_kept : flat_at (flat_rewritten changed v row) i ≡ flat_at row i
    unfolding flat_at
    at_kept k = record { rule = (rw add-zero at (line_kept 0 width_some)) k; record_number = line_kept 1 (omega arith) k; class = line_kept 2 (omega arith) k }

-- ---- the whole row

module _ (v : ℕ → Verdict) (row : List ℕ) where
  pub read_is : (changed : ℕ → Bool) (j : ℕ) → j < length row → get_or (flat_rewritten changed v row) j 0 ≡ flat_byte changed v (flat_lines row) j (get_or row j 0)
  unfolding flat_rewritten
  read_is changed j h = from_new (flat_byte changed v (flat_lines row)) 0 row j h ∙ ap (λ (k : ℕ). flat_byte changed v (flat_lines row) k (get_or row j 0)) (zero-add j)

  -- a row that has the right bytes
  pub rewritten_by : (changed : ℕ → Bool) (r : List ℕ) → length r ≡ length row → ((j : ℕ) → j < length row → get_or r j 0 ≡ flat_byte changed v (flat_lines row) j (get_or row j 0))
      → r ≡ flat_rewritten changed v row
  rewritten_by changed r e h =
      ext_get_or 0 r (flat_rewritten changed v row) (e ∙ sym (rewritten_length changed v row)) (λ j l. let k : j < length row = omega (arith, e) in h j k ∙ sym (read_is changed j k))

  -- nothing changes
  pub rewritten_none : (changed : ℕ → Bool) → ((i : ℕ) → T (not (changed i))) → row ≡ flat_rewritten changed v row
  rewritten_none changed h =
      rewritten_by changed row refl (λ j l. sym (byte_kept changed v (flat_lines row) (j / verdict_bytes) j (get_or row j 0) refl (h (j / verdict_bytes))))

  byte_same : (p q : ℕ → Bool) (j x : ℕ) → p (j / verdict_bytes) ≡ q (j / verdict_bytes) → flat_byte p v (flat_lines row) j x ≡ flat_byte q v (flat_lines row) j x
  unfolding flat_byte
  byte_same p q j x e =
      let i = j / verdict_bytes in
      ap (λ (b : Bool). elim (ltb i (flat_lines row) && b) as (λ (c : Bool). ℕ) [ true ↦ get_or (bytes_of (v i)) (j % verdict_bytes) 0 | false ↦ x ]) e

  pub rewritten_same : (p q : ℕ → Bool) → ((i : ℕ) → p i ≡ q i) → flat_rewritten p v row ≡ flat_rewritten q v row
  rewritten_same p q e =
      rewritten_by q (flat_rewritten p v row) (rewritten_length p v row) (λ j l. read_is p j l ∙ byte_same p q j (get_or row j 0) (e (j / verdict_bytes)))

  -- one verdict more is written, byte by byte
  pub rewritten_more : (p q : ℕ → Bool) (i : ℕ) → i < flat_lines row → T (q i) → ((k : ℕ) → (k ≡ i → ⊥) → p k ≡ q k)
      → sets (flat_rewritten p v row) (verdict_bytes * i) (bytes_of (v i)) ≡ flat_rewritten q v row
  rewritten_more p q i h t same =
      rewritten_by q (sets r at bytes) (length-sets r at bytes ∙ rewritten_length p v row) (λ j l. go j l (ℕ_discrete (j / verdict_bytes) i))
    where
      r : List ℕ
      r = flat_rewritten p v row

      at : ℕ
      at = verdict_bytes * i

      bytes : List ℕ
      bytes = bytes_of (v i)

      room : at + length bytes ≤ length r
      room = rw (bytes_long (v i), rewritten_length p v row) (line_room row h)

      go : (j : ℕ) → j < length row → Dec (j / verdict_bytes ≡ i) → get_or (sets r at bytes) j 0 ≡ flat_byte q v (flat_lines row) j (get_or row j 0)
      go j l (yes e) =
          ap (λ (k : ℕ). get_or (sets r at bytes) k 0) (sym (of_line verdict_bytes i j e))
          ∙ sets_new bytes r at (j % verdict_bytes) room (rw (bytes_long (v i)) (mod-lt j width_some))
          ∙ sym (byte_new q v (flat_lines row) i j (get_or row j 0) e h t)
      go j l (no n) =
          sets_kept bytes r at j (λ k b e. n (ap (λ (m : ℕ). m / verdict_bytes) e ∙ (line_of_lem verdict_bytes i k (rw (bytes_long (v i)) at b)).0))
          ∙ read_is p j l
          ∙ byte_same p q j (get_or row j 0) (same (j / verdict_bytes) n)

-- one verdict alone is written, all of its bytes at once
pub line_put : (v : Verdict) (row : List ℕ) (i : ℕ) → i < flat_lines row → paste row (verdict_bytes * i) (bytes_of v) verdict_bytes ≡ flat_rewritten (λ j. eqb j i) (λ j. v) row
line_put v row i h =
    let at : ℕ = verdict_bytes * i in
    let w : length (bytes_of v) ≡ verdict_bytes = bytes_long v in
    ap (λ (bs : List ℕ). (take at row ++ bs) ++ drop (at + verdict_bytes) row) (take_all verdict_bytes (bytes_of v) (omega arith))
    ∙ ap (λ (k : ℕ). (take at row ++ bytes_of v) ++ drop (at + k) row) (sym w)
    ∙ sym (sets-eq (bytes_of v) row at (rw w (line_room row h)))
    ∙ ap (λ (r : List ℕ). sets r at (bytes_of v)) (rewritten_none (λ j. v) row (λ j. false) (λ j. tt))
    ∙ rewritten_more (λ j. v) row (λ j. false) (λ j. eqb j i) i h (eq→eqb {m = i} refl) (λ k ne. sym (ne_eqb k i ne))
