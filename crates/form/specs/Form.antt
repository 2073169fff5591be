-- The deemed markers by class number, and what the first pass of both sheets refuses.
-- Assumes nothing.
use Rattle.std.specs.Prelude.{Bool, true, false, not, ◌&&◌, ◌||◌, List, [], ◌∷◌, ℕ, zero, suc, ◌+◌, eqb}
use Rattle.std.proofs.Math.Option.{Option}
use Rattle.spec.specs.Lists.{first_of}
use Rattle.spec.specs.Sheet.{Group, class_count}
use Rattle.spec.specs.Markers.{clash}
use Rattle.spec.specs.Classes.{overlay}
use Rattle.spec.specs.Refusals.{Refusal, record_refusal, torn_refusal, no_class_refusal}

-- 11: the deemed markers m of class c clash, or it is class 0 and has any
unfoldable pub deemed_breaks : ℕ → ℕ → Bool
deemed_breaks c m = clash m || (eqb c 0 && not (eqb m 0))

-- the first class from c on, of k, whose deemed markers are refused, or the one after the last
unfoldable pub deemed_from : (ℕ → Group) → ℕ → ℕ → ℕ
deemed_from g c zero = c
deemed_from g c (suc k) = elim (deemed_breaks c (overlay g c)) [ true ↦ c | false ↦ deemed_from g (c + 1) k ]

unfoldable pub first_deemed : (ℕ → Group) → ℕ → ℕ
first_deemed g nlib = deemed_from g 0 nlib

-- ---- the first pass of both sheets: 2 to 7 and 16

unfoldable pub passes_refusal : List ℕ → List ℕ → Option Refusal
passes_refusal library user =
    first_of
    (record_refusal 0 0 library
    ∷ torn_refusal 0 library
    ∷ no_class_refusal library
    ∷ record_refusal 1 (class_count library) user
    ∷ torn_refusal 1 user
    ∷ [])
