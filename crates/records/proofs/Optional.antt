-- A class that a record names, unless its number stands for none.
-- Assumes nothing.
use mathlib.Core.Path.{◌≡◌, refl, sym, ap, ◌∙◌}
use mathlib.Core.Bool.{Bool, true, false}
use Prim.Native.Nat.{ℕ}
use lib.Dec.{eqb}
use borrow.Author.Tests.{eqb-true}
use Rattle.std.specs.Prelude.{Option, None, Some}
use Rattle.records.specs.Kinds.{optional}

abbrev pub get : ℕ → Option ℕ → ℕ
get d None = d
get d (Some c) = c

-- the number, as it stands in the record
pub number_is : (x : ℕ) → get 65535 (optional x) ≡ x
number_is x = go (eqb x 65535) refl
  where
    go : (b : Bool) → eqb x 65535 ≡ b → get 65535 (elim b as (λ (_ : Bool). Option ℕ) [ true ↦ None | false ↦ Some x ]) ≡ x
    go true e = sym (eqb-true x 65535 e)
    go false e = refl

pub some_is : (x : ℕ) {c : ℕ} → Some c ≡ optional x → x ≡ c
some_is x e = sym (ap (get 65535) e ∙ number_is x)

pub none_is : (x : ℕ) → None ≡ optional x → x ≡ 65535
none_is x e = sym (ap (get 65535) e ∙ number_is x)
