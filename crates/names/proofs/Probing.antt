-- A walk along the places from a home, going round: after some steps, what it finds from where it is, is what it finds from the home.
-- Assumes nothing.
use mathlib.Core.Path.{◌≡◌, refl, sym, ap, ◌∙◌, subst}
use mathlib.Core.Bool.{Bool, true, false, ◌&&◌}
use mathlib.Core.Logic.{◌⊎◌, inl, inr}
use mathlib.Core.List.{List, [], ◌∷◌}
use Prim.Native.Nat.{ℕ, zero, suc, ◌+◌, ◌-◌, ◌<◌, ◌≤◌}
use native.Mathlib.Omega.{arith}
use lib.Dec.{eqb}
use lib.ListN.{length, get_or}
use lib.Pointwise.{pointwise}
use Rattle.std.proofs.Math.Facts.{no_eqb}
use Rattle.std.proofs.lemmas.List.{get_or_default}
use Rattle.spec.specs.Lists.{same_list}
use Rattle.spec.specs.Record.{none16, class_name}
use Rattle.spec.specs.Sheet.{Group, class_record}
use Rattle.spec.specs.Index.{index_places, is_free, next_place, free_from, name_of, has_name, found_from}
use Rattle.std.specs.Prelude.{Some}
use Rattle.theory.proofs.Indexing.{found_here, found_next}
use Rattle.laws.proofs.Bools.{t_true, t_false, eq→eqb}

pub record Probing {A : Type 0} (walk : ℕ → ℕ → A) (home done place : ℕ) : Type 0 where
  pub within : place < index_places
  pub rest : walk (index_places - done) place ≡ walk index_places home

next_low : (p : ℕ) → next_place p < index_places
unfolding next_place
next_low p = omega arith

-- the place that a class gets
pub free_low : (row : List ℕ) (k p : ℕ) → p < index_places → free_from row k p < index_places
unfolding free_from
free_low row zero p l = l
free_low row (suc k) p l = go (is_free row p) (free_low row k (next_place p) (next_low p))
  where
    go : (b : Bool) → free_from row k (next_place p) < index_places → (elim b as (λ (x : Bool). ℕ) [ true ↦ p | false ↦ free_from row k (next_place p) ]) < index_places
    go true h = l
    go false h = h

module _ {A : Type 0} {walk : ℕ → ℕ → A} {home done place : ℕ} (w : Probing walk home done place) where
  -- it ends here
  pub out : done < index_places → {a : A} → walk (suc (index_places - (done + 1))) place ≡ a → a ≡ walk index_places home
  out l q = sym q ∙ ap (λ (n : ℕ). walk n place) (let e : suc (index_places - (done + 1)) ≡ index_places - done = omega arith in e) ∙ w.rest

  -- it goes on
  pub onward : done < index_places → {p : ℕ} → p ≡ next_place place → walk (suc (index_places - (done + 1))) place ≡ walk (index_places - (done + 1)) (next_place place)
      → Probing walk home (done + 1) p
  onward l d q = record { within = subst (λ (x : ℕ). x < index_places) (sym d) (next_low place); rest = ap (walk (index_places - (done + 1))) d ∙ out l q }

  -- it has been at each place
  pub ended : index_places ≤ done → {a : A} → walk 0 place ≡ a → a ≡ walk index_places home
  ended l q = sym q ∙ ap (λ (n : ℕ). walk n place) (let e : 0 ≡ index_places - done = omega arith in e) ∙ w.rest

-- ---- what is read at a place

-- names are compared byte by byte
same_bytes : (xs ys : List ℕ) → pointwise eqb xs ys ≡ same_list xs ys
unfolding same_list
same_bytes [] [] = refl
same_bytes [] (y ∷ ys) = refl
same_bytes (x ∷ xs) [] = refl
same_bytes (x ∷ xs) (y ∷ ys) = ap (λ (b : Bool). eqb x y && b) (same_bytes xs ys)

module _ (row : List ℕ) (p : ℕ) (low : p < index_places) (long : length row ≡ index_places) where
  pub inside : p < length row
  inside = omega arith

  read : get_or row p none16 ≡ get_or row p 0
  read = get_or_default row p none16 0 inside

  pub read_free : get_or row p 0 ≡ none16 → is_free row p ≡ true
  unfolding is_free
  read_free e = t_true (is_free row p) (eq→eqb (read ∙ e))

  pub read_taken : (get_or row p 0 ≡ none16 → ⊥) → is_free row p ≡ false
  unfolding is_free
  read_taken n = t_false (is_free row p) (no_eqb (λ e. n (sym read ∙ e)))

  -- a class, and whether it has a name
  module _ (taken : get_or row p 0 ≡ none16 → ⊥) where
    pub class_low : {n : ℕ} → (get_or row p none16 ≡ none16) ⊎ (get_or row p none16 < n) → {c : ℕ} → c ≡ get_or row p 0 → c < n
    class_low (inl e) q = absurd (taken (sym read ∙ e))
    class_low (inr k) q = omega (arith, read, k, q)

-- a taken place holds class c, whose records are h and whose name is x; the walk compares that with a name
module _ (g : ℕ → Group) (row name : List ℕ) (p : ℕ) (low : p < index_places) (long : length row ≡ index_places) (taken : get_or row p 0 ≡ none16 → ⊥)
    {c : ℕ} {h : Group} {x : List ℕ} {b : Bool} (ec : c ≡ get_or row p 0) (eh : h ≡ g c) (ex : x ≡ class_name (class_record h)) (eb : b ≡ pointwise eqb x name) where
  named : has_name g name (get_or row p none16) ≡ b
  unfolding has_name name_of
  named = sym (eb ∙ same_bytes x name ∙ rw (ex, eh, ec, ← read row p low long) refl)

  pub found_at : (k : ℕ) → b ≡ true → Some c ≡ found_from g row name (suc k) p
  found_at k t = ap Some (ec ∙ sym (read row p low long)) ∙ sym (found_here g row name k p (read_taken row p low long taken) (named ∙ t))

  pub found_past : (k : ℕ) → b ≡ false → found_from g row name (suc k) p ≡ found_from g row name k (next_place p)
  found_past k t = found_next g row name k p (read_taken row p low long taken) (named ∙ t)
