-- The encloser of a class, or the class itself.
-- Assumes nothing.
use mathlib.Core.Path.{◌≡◌, sym, ap, ◌∙◌}
use mathlib.Core.List.{List}
use Prim.Native.Nat.{ℕ, ◌≤◌, ◌<◌, min}
use native.Mathlib.Omega.{arith}
use lib.ListN.{get_or}
use Rattle.std.specs.Prelude.{Option, None, Some}
use Rattle.spec.specs.Sheet.{Group, class_record}
use Rattle.records.specs.declared.record.Head.{Head}
use Rattle.records.specs.Kinds.{optional, head_of}
use Rattle.records.proofs.Optional.{some_is, none_is}
use Rattle.sheets.specs.Sheets.{Pair, count, groups}
use Rattle.reach.specs.Reach.{outer_of, nearest, Outers}

module _ (g : ℕ → Group) (c : ℕ) where
  -- as it is read
  pub outer_read : {h : Group} {k : Head} → k ≡ head_of (class_record h) → h ≡ g c → k.encloser ≡ optional (outer_of g c)
  unfolding outer_of
  outer_read e q = ap (λ (k : Head). k.encloser) (e ∙ ap (λ (h : Group). head_of (class_record h)) q)

  pub nearest_some : {o : Option ℕ} {e r : ℕ} → o ≡ optional (outer_of g c) → o ≡ Some e → r ≡ min e c → r ≡ nearest g c
  nearest_some q n f = f ∙ ap (λ (x : ℕ). min x c) (sym (some_is (outer_of g c) (sym n ∙ q)))

  pub nearest_none : {o : Option ℕ} → o ≡ optional (outer_of g c) → o ≡ None → c ≤ 256 → c ≡ nearest g c
  nearest_none q n few = let e = none_is (outer_of g c) (sym n ∙ q) in omega arith

-- a step of the climb along the row
module _ {p : Pair} {row : List ℕ} (o : Outers p row) {c : ℕ} (there : c < count p) where
  pub climb_to : {e : ℕ} → e ≡ get_or row c 0 → e < c → e ≡ outer_of (groups p) c
  climb_to q l = let s = o.is c there in omega arith

  pub climb_end : {e : ℕ} → e ≡ get_or row c 0 → c ≤ e → c ≤ outer_of (groups p) c
  climb_end q l = let s = o.is c there in omega arith
