-- The marks of the classes that an edit touches.
-- Assumes nothing.
use mathlib.Core.Path.{◌≡◌, refl, sym, ◌∙◌}
use mathlib.Core.Bool.{true, false}
use mathlib.Core.List.{List, map}
use Prim.Native.Nat.{ℕ, ◌<◌}
use native.Mathlib.Decide.{ℕ_discrete}
use lib.Dec.{eqb}
use lib.ListN.{get_or, set, replicate, length-set}
use lib.Seq.{get_or-set_same, get_or-set_other}
use borrow.Author.Tests.{eq-eqb, ne_eqb}
use Rattle.spec.specs.Lists.{span}
use Rattle.spec.specs.Verdicts.{depends_on}
use Rattle.laws.proofs.Rows.{same_all, length_values, get_or_values, values_are}
use Rattle.view.specs.declared.Cut.{Cut}
use Rattle.verifier.specs.Changing.{touches}

module _ (library new : List ℕ) (cut : Cut) (c : ℕ) where
  -- one class alone
  pub touched_one : c < 256 → cut.from ≡ cut.used → set (replicate 256 false) c true ≡ map (touches library new cut c) (span 0 256)
  unfolding touches
  touched_one few e =
      values_are (touches library new cut c) 256 false (length-set (replicate 256 false) c true)
      (λ d b. at d (ℕ_discrete d c) ∙ sym (rw (eq-eqb cut.from cut.used e, touches) refl))
    where
      at : (d : ℕ) → Dec (d ≡ c) → get_or (set (replicate 256 false) c true) d false ≡ eqb d c
      at d (yes q) = rw (q, get_or-set_same (replicate 256 false) c true false few) (sym (eq-eqb c c refl))
      at d (no q) = rw (get_or-set_other (replicate 256 false) c d true false q, ne_eqb d c q) (same_all false 256 d)

  -- all that depend on it
  pub touched_all : (cut.from ≡ cut.used → ⊥) → map (depends_on library new c) (span 0 256) ≡ map (touches library new cut c) (span 0 256)
  unfolding touches
  touched_all ne =
      values_are (touches library new cut c) 256 false (length_values (depends_on library new c) 256)
      (λ d b. get_or_values (depends_on library new c) 256 false d b ∙ sym (rw (ne_eqb cut.from cut.used ne, touches) refl))
