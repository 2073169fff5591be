-- Enclosers are lower and nest: of two that enclose one class, the lower encloses the other. So an entry that fits passes down a chain.
-- Assumes nothing.
use mathlib.Core.Path.{◌≡◌, sym, ◌∙◌, subst}
use mathlib.Core.Logic.{◌⊎◌, inl, inr, ⊎_elim}
use Prim.Native.Nat.{ℕ, ◌≤◌, ◌<◌}
use native.Mathlib.Nat.{eq-or-lt_of_le}
use native.Mathlib.Omega.{arith}
use Rattle.lanes.specs.Lanes.{Nested, direct, deeper, OwnerFits}

module _ {outer : ℕ → ℕ} where
  pub inside_lower : {x m : ℕ} → Nested outer x m → x < m
  inside_lower (direct e l) = l
  inside_lower (deeper e l i) = let r = inside_lower i in omega arith

  pub inside_trans : {x d m : ℕ} → Nested outer x d → Nested outer d m → Nested outer x m
  inside_trans i (direct e l) = deeper e l i
  inside_trans i (deeper e l j) = deeper e l (inside_trans i j)

  -- what encloses c is the encloser of c or encloses that
  pub inside_up : {x c e : ℕ} → e ≡ outer c → Nested outer x c → (x ≡ e) ⊎ Nested outer x e
  inside_up q (direct f k) = inl (sym f ∙ sym q)
  inside_up {x} q (deeper f k j) = inr (subst (Nested outer x) (sym f ∙ sym q) j)

  -- where the encloser is not lower there is none
  pub inside_none : {x c e : ℕ} → e ≡ outer c → c ≤ e → Nested outer x c → ⊥
  inside_none q h (direct f k) = omega (arith, f)
  inside_none q h (deeper f k j) = omega (arith, f)

  -- of two enclosers of one class, the lower encloses the other
  pub inside_nests : {x y t : ℕ} → Nested outer x t → Nested outer y t → x < y → Nested outer x y
  inside_nests (direct e l) (direct f k) h = absurd (let q = sym e ∙ f in omega arith)
  inside_nests (direct e l) (deeper f k j) h = absurd (let q = sym e ∙ f in let b = inside_lower j in omega arith)
  inside_nests {x} (deeper e l i) (direct f k) h = subst (Nested outer x) (sym e ∙ f) i
  inside_nests {x} {y} (deeper e l i) (deeper f k j) h = inside_nests i (subst (Nested outer y) (sym f ∙ e) j) h

  -- where a higher entry fits both t and m, a lower one that fits t fits m too
  pub fits_lower : {x y t m : ℕ} → x ≤ y → OwnerFits outer x t → OwnerFits outer y t → OwnerFits outer y m → OwnerFits outer x m
  fits_lower h (inl a) b c = inl a
  fits_lower h (inr a) (inl b) c = inl (omega arith)
  fits_lower h (inr a) (inr b) (inl c) = inl (omega arith)
  fits_lower {x} {y} {m = m} h (inr a) (inr b) (inr c) =
      ⊎_elim (λ q. inr (subst (λ (z : ℕ). Nested outer z m) (sym q) c)) (λ l. inr (inside_trans (inside_nests a b l) c)) (eq-or-lt_of_le (omega arith))

  -- an entry that fits is never 65,535, which is none
  pub fits_owner : {y m : ℕ} → m < 256 → OwnerFits outer y m → y < 65535
  fits_owner h (inl a) = omega arith
  fits_owner h (inr a) = let b = inside_lower a in omega arith
