-- Eight bytes tested at once, in the number that they make: the highest bits of all of them, and the same after a number is added to each byte or each is taken from one.
-- Assumes nothing.
use mathlib.Core.Path.{◌≡◌, refl, sym, ap, ◌∙◌}
use mathlib.Core.Bool.{Bool, true, false, ◌&&◌}
use mathlib.Core.List.{List, [], ◌∷◌, map}
use Prim.Native.Nat.{ℕ, zero, suc, ◌+◌, ◌-◌, ◌*◌, ◌≤◌, ◌<◌}
use native.Mathlib.Nat.{add-zero}
use native.Mathlib.Omega.{arith}
use lib.Dec.{T, eqb, eqb→eq, leb, leb→le, le→leb}
use lib.ListN.{length, get_or, drop, drop_of_length-le}
use lib.Seq.{get_or-drop, drop-drop}
use borrow.Author.Tests.{eq-eqb, leb-true, leb-false}
use lib.Bits.{bit_and, and_block, and_shifted, and_comm, and_zero_r}
use mir.Syntax.{w64}
use Rattle.std.proofs.lemmas.Bool.{false≢true}
use Rattle.std.specs.Int.{from_le_bytes}
use Rattle.spec.specs.Record.{name_fits}
use Rattle.laws.proofs.Bools.{true_t, t_true, t_and, and_l, and_r}
use Rattle.laws.proofs.All.{All, all_map, weaken, all_true, true_all}
use Rattle.theory.proofs.Answers.{of_map}

-- the number that bytes make, the lowest first
abbrev joined : List ℕ → ℕ
joined [] = 0
joined (b ∷ bs) = joined bs * 256 + b

-- the number that as many bytes make, each of them m
abbrev filling : ℕ → List ℕ → ℕ
filling m bs = joined (map (λ b. m) bs)

-- the highest bits of all bytes
abbrev tops : List ℕ → ℕ
tops bs = bit_and (joined bs) (filling 128 bs)

tops_cons : (b : ℕ) (bs : List ℕ) → b < 256 → tops (b ∷ bs) ≡ tops bs * 256 + bit_and b 128
tops_cons b bs h = and_block 8 (joined bs) (filling 128 bs) b 128 h (omega arith)

-- of one byte
top_low : (b : ℕ) → b < 128 → bit_and b 128 ≡ 0
top_low b h = and_comm b 128 ∙ and_shifted 1 7 b h

low_top : (b : ℕ) → b < 256 → bit_and b 128 ≡ 0 → b < 128
low_top b h e = go (leb 128 b) refl
  where
    go : (t : Bool) → leb 128 b ≡ t → b < 128
    go true q =
        let l = leb-true 128 b q in
        let r : ℕ = b - 128 in
        let eb : b ≡ 128 + r = omega arith in
        let z : bit_and (128 + r) 128 ≡ 128 = and_block 7 1 1 r 0 (omega arith) (omega arith) ∙ ap (λ (x : ℕ). 128 + x) (and_zero_r r) in
        absurd (omega (arith, rw eb at e, z))
    go false q = leb-false 128 b q

none_high : (bs : List ℕ) → All (λ b. b < 128) bs → tops bs ≡ 0
none_high [] h = refl
none_high (b ∷ bs) h = rw (tops_cons b bs (omega (arith, h.0)), top_low b h.0, none_high bs h.1)

all_low : (bs : List ℕ) → All (λ b. b < 256) bs → tops bs ≡ 0 → All (λ b. b < 128) bs
all_low [] w e = tt
all_low (b ∷ bs) w e =
    let q = sym (tops_cons b bs w.0) ∙ e in
    (low_top b w.0 (omega (arith, q)), all_low bs w.1 (omega (arith, q)))

-- ---- a number added to each byte, or each byte taken from one

added : (m : ℕ) (bs : List ℕ) → joined (map (λ b. b + m) bs) ≡ joined bs + filling m bs
added m [] = refl
added m (b ∷ bs) = omega (arith, added m bs)

taken : (m : ℕ) (bs : List ℕ) → All (λ b. b ≤ m) bs → joined (map (λ b. m - b) bs) + joined bs ≡ filling m bs
taken m [] h = refl
taken m (b ∷ bs) h = omega (arith, taken m bs h.1, h.0)

filling_map : (m : ℕ) (f : ℕ → ℕ) (bs : List ℕ) → filling m (map f bs) ≡ filling m bs
filling_map m f [] = refl
filling_map m f (b ∷ bs) = rw (filling_map m f bs)

-- ---- the bytes of a name

-- a byte that may stand in a name
pub record Fit (b : ℕ) : Type 0 where
  pub low : 33 ≤ b
  pub high : b ≤ 126

pub fit_all : (bs : List ℕ) → name_fits bs ≡ true → All Fit bs
unfolding name_fits
fit_all bs e =
    weaken (λ b. T (leb 33 b && leb b 126)) Fit
    (λ b t. record { low = leb→le 33 b (and_l (leb 33 b) (leb b 126) t); high = leb→le b 126 (and_r (leb 33 b) (leb b 126) t) }) bs
    (all_true (λ b. leb 33 b && leb b 126) bs (true_t e))

pub all_fit : (bs : List ℕ) → All Fit bs → name_fits bs ≡ true
unfolding name_fits
all_fit bs h =
    t_true (name_fits bs) (true_all (λ b. leb 33 b && leb b 126) bs
    (weaken Fit (λ b. T (leb 33 b && leb b 126)) (λ b f. t_and (leb 33 b) (leb b 126) (le→leb 33 b f.low) (le→leb b 126 f.high)) bs h))

-- what refutes a name
unfit : (bs : List ℕ) → (All Fit bs → ⊥) → false ≡ name_fits bs
unfit bs n = go (name_fits bs) refl
  where
    go : (t : Bool) → name_fits bs ≡ t → false ≡ t
    go true e = absurd (n (fit_all bs e))
    go false e = refl

-- the three tests pass where all bytes fit
module _ (bs : List ℕ) (h : All Fit bs) where
  fit_none : (f : ℕ → ℕ) → ((b : ℕ) → Fit b → f b < 128) → bit_and (joined (map f bs)) (filling 128 bs) ≡ 0
  fit_none f g = rw (filling_map 128 f bs) at (none_high (map f bs) (all_map Fit (λ b. b < 128) f g bs h))

  fit_first : bit_and (joined bs) (filling 128 bs) ≡ 0
  fit_first = none_high bs (weaken Fit (λ b. b < 128) (λ b f. omega (arith, f.high)) bs h)

  fit_second : bit_and (joined bs + filling 1 bs) (filling 128 bs) ≡ 0
  fit_second = rw (added 1 bs) at (fit_none (λ b. b + 1) (λ b f. omega (arith, f.high)))

  fit_third : bit_and (filling 160 bs - joined bs) (filling 128 bs) ≡ 0
  fit_third =
      let e : joined (map (λ b. 160 - b) bs) ≡ filling 160 bs - joined bs = omega (arith, taken 160 bs (weaken Fit (λ b. b ≤ 160) (λ b f. omega (arith, f.high)) bs h)) in
      rw e at (fit_none (λ b. 160 - b) (λ b f. omega (arith, f.low)))

-- and they refuse any other byte
module _ (bs : List ℕ) (w : All (λ b. b < 256) bs) (z : bit_and (joined bs) (filling 128 bs) ≡ 0) where
  below : All (λ b. b < 128) bs
  below = all_low bs w z

  fall : joined bs ≤ filling 127 bs
  fall = omega (arith, taken 127 bs (weaken (λ b. b < 128) (λ b. b ≤ 127) (λ b l. omega arith) bs below))

  passes : bit_and (joined bs + filling 1 bs) (filling 128 bs) ≡ 0 → bit_and (filling 160 bs - joined bs) (filling 128 bs) ≡ 0 → true ≡ name_fits bs
  passes y x =
      let e : joined (map (λ b. 160 - b) bs) ≡ filling 160 bs - joined bs = omega (arith, taken 160 bs (weaken (λ b. b < 128) (λ b. b ≤ 160) (λ b l. omega arith) bs below)) in
      let p = low_after (λ b. b + 1) (λ b l. omega arith) (rw (added 1 bs) y) in
      let q = low_after (λ b. 160 - b) (λ b l. omega arith) (rw e x) in
      sym (all_fit bs (both bs p q))
    where
      low_after : (f : ℕ → ℕ) → ((b : ℕ) → b < 128 → f b < 256) → bit_and (joined (map f bs)) (filling 128 bs) ≡ 0 → All (λ b. f b < 128) bs
      low_after f g d = of_map (λ b. b < 128) f bs (all_low (map f bs) (all_map (λ b. b < 128) (λ b. b < 256) f g bs below) (rw (filling_map 128 f bs) d))

      both : (xs : List ℕ) → All (λ b. b + 1 < 128) xs → All (λ b. 160 - b < 128) xs → All Fit xs
      both [] p q = tt
      both (b ∷ xs) p q = (record { low = omega (arith, q.0); high = omega (arith, p.0) }, both xs p.1 q.1)

-- ---- eight bytes

-- in each of eight bytes: the highest bit
abbrev highs : ℕ
highs = 9259542123273814144

-- eight bytes, and their number
pub record Eight (bs : List ℕ) (word : ℕ) : Type 0 where
  pub long : length bs ≡ 8
  pub bytes : (i : ℕ) → get_or bs i 0 < 256
  pub is : word ≡ from_le_bytes w64 bs

joined_rest : (bs : List ℕ) → joined bs ≡ get_or bs 0 0 + 256 * joined (drop 1 bs)
joined_rest [] = refl
joined_rest (b ∷ bs) = omega arith

joined_drop : (bs : List ℕ) (i : ℕ) → joined (drop i bs) ≡ get_or bs i 0 + 256 * joined (drop (i + 1) bs)
joined_drop bs i = omega (arith, joined_rest (drop i bs), rw (add-zero i) at (get_or-drop i bs 0 0), ap joined (drop-drop 1 i bs))

at_all : (P : ℕ → Type 0) (bs : List ℕ) → ((i : ℕ) → P (get_or bs i 0)) → All P bs
at_all P [] h = tt
at_all P (b ∷ bs) h = (h 0, at_all P bs (λ i. h (suc i)))

ones : ℕ → ℕ
ones zero = 0
ones (suc n) = ones n * 256 + 1

filling_ones : (m : ℕ) (bs : List ℕ) → filling m bs ≡ m * ones (length bs)
unfolding ones
filling_ones m [] = omega arith
filling_ones m (b ∷ bs) = omega (arith, filling_ones m bs)

module _ {bs : List ℕ} {word : ℕ} (w : Eight bs word) where
  word_is : word ≡ joined bs
  word_is =
      let j = joined_drop bs in
      let z : joined (drop 8 bs) ≡ 0 = ap joined (drop_of_length-le bs {i = 8} (omega (arith, w.long))) in
      omega (arith, w.is, j 0, j 1, j 2, j 3, j 4, j 5, j 6, j 7, z)

  filling_is : (m : ℕ) → filling m bs ≡ m * 72340172838076673
  unfolding ones
  filling_is m = filling_ones m bs ∙ ap (λ (n : ℕ). m * ones n) w.long

  all_bytes : All (λ b. b < 256) bs
  all_bytes = at_all (λ b. b < 256) bs w.bytes

  first_none : bit_and word highs ≡ 0 → bit_and (joined bs) (filling 128 bs) ≡ 0
  first_none z = rw (← word_is, filling_is 128) z

  -- a byte over 127
  pub over : (bit_and word highs ≡ 0 → ⊥) → false ≡ name_fits bs
  over n = unfit bs (λ h. n (rw (word_is, ← filling_is 128) (fit_first bs h)))

  module _ (z : bit_and word highs ≡ 0) where
    -- no sum or difference leaves the word
    pub small : word ≤ 9187201950435737471
    small = omega (arith, word_is, fall bs all_bytes (first_none z), filling_is 127)

    -- a byte of 127
    pub last : (bit_and (word + 72340172838076673) highs ≡ 0 → ⊥) → false ≡ name_fits bs
    last n = unfit bs (λ h. n (rw (word_is, ← filling_is 128, ← filling_is 1) (fit_second bs h)))

    -- a byte under 33, or none
    pub rest : bit_and (word + 72340172838076673) highs ≡ 0 → eqb (bit_and (11574427654092267680 - word) highs) 0 ≡ name_fits bs
    rest y = go (eqb (bit_and (11574427654092267680 - word) highs) 0) refl
      where
        go : (t : Bool) → eqb (bit_and (11574427654092267680 - word) highs) 0 ≡ t → t ≡ name_fits bs
        go true e = passes bs all_bytes (first_none z) (rw (← word_is, filling_is 1, filling_is 128) y) (rw (← word_is, filling_is 160, filling_is 128) (eqb→eq _ 0 (true_t e)))
        go false e = unfit bs (λ h. false≢true (sym e ∙ eq-eqb _ 0 (rw (word_is, ← filling_is 128, ← filling_is 160) (fit_third bs h))))
