-- The walk from class m up its enclosers, that marks each: of a row without marks it marks just the enclosers.
-- Assumes nothing.
use mathlib.Core.Path.{◌≡◌, refl, sym, ◌∙◌, subst}
use mathlib.Core.Bool.{Bool, true, false}
use mathlib.Core.List.{List}
use mathlib.Core.Logic.{◌⊎◌, inl, inr, ⊎_elim}
use Prim.Native.Nat.{ℕ, ◌≤◌, ◌<◌}
use native.Mathlib.Nat.{le_refl}
use native.Mathlib.Omega.{arith}
use Rattle.std.proofs.lemmas.Bool.{false≢true}
use lib.ListN.{length, get_or, set, replicate, length-set}
use Rattle.laws.proofs.Rows.{same_all}
use Rattle.lanes.specs.Lanes.{Nested, direct, Enclosers}
use Rattle.lanes.proofs.Rows.{marked_by, marked_still}
use Rattle.lanes.proofs.Enclosing.{inside_trans, inside_up, inside_none}

-- The walk stands at c, which is m or encloses it. What encloses m is marked or encloses c.
pub record Up (outer : ℕ → ℕ) (m : ℕ) (row : List Bool) (c : ℕ) : Type 0 where
  pub long : length row ≡ 256
  pub low : c ≤ m
  pub chain : (c ≡ m) ⊎ Nested outer c m
  pub only : (x : ℕ) → get_or row x false ≡ true → Nested outer x m
  pub every : (x : ℕ) → Nested outer x m → (get_or row x false ≡ true) ⊎ Nested outer x c

pub up_start : (outer : ℕ → ℕ) (m : ℕ) → Up outer m (replicate 256 false) m
up_start outer m =
    record { long = refl; low = le_refl m; chain = inl refl; only = λ x h. absurd (false≢true (sym (same_all false 256 x) ∙ h)); every = λ x i. inr i }

module _ {outer : ℕ → ℕ} {m : ℕ} {row : List Bool} {c : ℕ} (f : Up outer m row c) where
  pub up_next : {e : ℕ} → e ≡ outer c → e < c → m ≤ 256 → Up outer m (set row e true) e
  up_next {e} q h b =
      let l : e < length row = omega (arith, f.long, f.low) in
      let above : Nested outer e c = direct (sym q) h in
      let i : Nested outer e m = ⊎_elim (λ p. subst (Nested outer e) p above) (λ j. inside_trans above j) f.chain in
      record {
        long = length-set row e true ∙ f.long;
        low = omega (arith, f.low);
        chain = inr i;
        only = λ x y. ⊎_elim (λ p. subst (λ (z : ℕ). Nested outer z m) (sym p) i) (λ o. f.only x o) (marked_by row e x y);
        every = λ x y.
            ⊎_elim (λ o. inl (marked_still row e x l (inr o)))
            (λ j. ⊎_elim (λ p. inl (marked_still row e x l (inl p))) (λ o. inr o) (inside_up q j))
            (f.every x y);
      }

  pub up_end : c ≤ outer c → Enclosers outer m row
  up_end h = record { only = f.only; every = λ x i. ⊎_elim (λ o. o) (λ j. absurd (inside_none refl h j)) (f.every x i) }
