-- A name in parts: its first bytes and its last ones, which may overlap, and eight at a time.
-- Assumes nothing.
use mathlib.Core.Path.{◌≡◌, refl, ap, ap₂, ◌∙◌}
use mathlib.Core.Bool.{Bool, true, false, ◌&&◌}
use mathlib.Core.List.{List, [], ◌∷◌, ◌++◌}
use Prim.Native.Nat.{ℕ, zero, suc, ◌+◌, ◌-◌, ◌*◌, ◌/◌, ◌≤◌, ◌<◌}
use native.Mathlib.Omega.{arith}
use lib.Dec.{leb}
use lib.ListN.{length, get_or, take, drop, length-drop}
use lib.Seq.{length-take-le, take-add}
use Rattle.std.specs.List.{list_all}
use Rattle.std.specs.Simd.{first_chunks}
use Rattle.spec.specs.Lists.{all}
use Rattle.spec.specs.Record.{name_fits}

-- ---- the elements of a list that pass a test

module _ {A : Type 0} (p : A → Bool) where
  pub joined : (xs ys : List A) → all p (xs ++ ys) ≡ (all p xs && all p ys)
  unfolding all
  joined [] ys = refl
  joined (x ∷ xs) ys = go (p x) (all p (xs ++ ys)) (all p xs) (all p ys) (joined xs ys)
    where
      go : (b f g h : Bool) → f ≡ (g && h) → (b && f) ≡ (b && g && h)
      go true f g h e = e
      go false f g h e = refl

  front : (k : ℕ) (xs : List A) → (all p (take k xs) && all p xs) ≡ all p xs
  unfolding all
  front zero xs = refl
  front (suc k) [] = refl
  front (suc k) (x ∷ xs) = go (p x) (all p (take k xs)) (all p xs) (front k xs)
    where
      go : (b f g : Bool) → (f && g) ≡ g → (b && f && (b && g)) ≡ (b && g)
      go true f g e = e
      go false f g e = refl

  -- the first k elements, and all after the first j
  pub covered : (j k : ℕ) (xs : List A) → j ≤ k → (all p (take k xs) && all p (drop j xs)) ≡ all p xs
  unfolding all
  covered zero k xs h = front k xs
  covered (suc j) zero xs h = absurd (omega arith)
  covered (suc j) (suc k) [] h = refl
  covered (suc j) (suc k) (x ∷ xs) h = go (p x) (all p (take k xs)) (all p (drop j xs)) (all p xs) (covered j k xs (omega arith))
    where
      go : (b f g h : Bool) → (f && g) ≡ h → (b && f && g) ≡ (b && h)
      go true f g h e = e
      go false f g h e = refl

  pub listed : (xs : List A) → list_all p xs ≡ all p xs
  unfolding all
  listed [] = refl
  listed (x ∷ xs) = ap (λ (b : Bool). p x && b) (listed xs)

  -- the first chunks of n
  pub in_chunks : (n k : ℕ) (xs : List A) → list_all (all p) (first_chunks n k xs) ≡ all p (take (k * n) xs)
  unfolding all
  in_chunks n zero xs = let e : 0 * n ≡ 0 = omega arith in rw e
  in_chunks n (suc k) xs =
      let e : suc k * n ≡ n + k * n = omega arith in
      rw (e, take-add n (k * n) xs, joined (take n xs) (take (k * n) (drop n xs)), in_chunks n k (drop n xs))

-- ---- names

-- a byte may stand in a name
abbrev pub fits : ℕ → Bool
fits b = leb 33 b && leb b 126

four_listed : (xs : List ℕ) → length xs ≡ 4 → get_or xs 0 0 ∷ get_or xs 1 0 ∷ get_or xs 2 0 ∷ get_or xs 3 0 ∷ [] ≡ xs
four_listed [] e = absurd (omega arith)
four_listed (a ∷ []) e = absurd (omega arith)
four_listed (a ∷ b ∷ []) e = absurd (omega arith)
four_listed (a ∷ b ∷ c ∷ []) e = absurd (omega arith)
four_listed (a ∷ b ∷ c ∷ d ∷ []) e = refl
four_listed (a ∷ b ∷ c ∷ d ∷ f ∷ xs) e = absurd (omega arith)

module _ (name : List ℕ) where
  pub ones : list_all fits name ≡ name_fits name
  unfolding name_fits
  ones = listed fits name

  -- whole chunks of eight, and the last eight bytes
  pub eights : 8 ≤ length name → (list_all name_fits (first_chunks 8 (length name / 8) name) && name_fits (drop (length name - 8) name)) ≡ name_fits name
  unfolding name_fits
  eights h =
      ap (λ (b : Bool). b && all fits (drop (length name - 8) name)) (in_chunks fits 8 (length name / 8) name)
      ∙ covered fits (length name - 8) (length name / 8 * 8) name (omega arith)

  -- the first four bytes and the last four
  pub fours : (first last : List ℕ) → 4 ≤ length name → length name < 8 → first ≡ take 4 name → last ≡ drop (length name - 4) name
      → name_fits (get_or first 0 0 ∷ get_or first 1 0 ∷ get_or first 2 0 ∷ get_or first 3 0 ∷ get_or last 0 0 ∷ get_or last 1 0 ∷ get_or last 2 0 ∷ get_or last 3 0 ∷ []) ≡ name_fits name
  unfolding name_fits
  fours first last l h ef el =
      ap₂ (λ (xs ys : List ℕ). all fits (xs ++ ys))
      (four_listed first (omega (arith, ap length ef, length-take-le 4 name l)))
      (four_listed last (omega (arith, ap length el, length-drop (length name - 4) name)))
      ∙ rw (ef, el) (joined fits (take 4 name) (drop (length name - 4) name) ∙ covered fits (length name - 4) 4 name (omega arith))
