-- Captured variables stand by class and index, each once.
-- Assumes nothing.
use mathlib.Core.Path.{subst₂}
use mathlib.Core.List.Memᴰ
use mathlib.Core.List.{List, [], ◌∷◌, map}
use Prim.Native.Nat.{ℕ, ◌<◌}
use lib.ListN.{length}
use Rattle.spec.specs.Lists.{gather, ascending, reach}
use Rattle.spec.specs.Sheet.{Group}
use Rattle.spec.specs.Classes.{locals, used_indexes, enclosers, builds_inside, captured_of, captured}
use Rattle.spec.specs.Relations.{At, Before, lower, same}
use Rattle.laws.proofs.Sorted.{Sorted, sorted_at, sorted_map, sorted_gather, sorted_ascending}

-- a captured variable's place among those of its class
abbrev pub variable_place : ℕ × ℕ → List ℕ
variable_place v = v.0 ∷ v.1 ∷ []

pub sorted_captured : (g : ℕ → Group) (l : ℕ) → Sorted (λ v w. Before (variable_place v) (variable_place w)) (captured g l)
unfolding captured captured_of
sorted_captured g l =
    sorted_gather (λ d e. d < e) (λ v w. Before (variable_place v) (variable_place w)) (λ d. map (λ i. (d, i)) (captured_of g l d))
    (λ d.
    sorted_map (λ i j. i < j) (λ v w. Before (variable_place v) (variable_place w)) (λ i. (d, i)) (λ i j h. same (lower h)) (captured_of g l d)
    (sorted_ascending (length (locals (g d))) (gather (λ m. used_indexes d (g m)) (reach (builds_inside g d) l))))
    (ascending l (enclosers g l))
    (λ d e v w _ _ h m n.
    let a = Memᴰ.of_map (λ (i : ℕ). (d, i)) (captured_of g l d) m in
    let b = Memᴰ.of_map (λ (i : ℕ). (e, i)) (captured_of g l e) n in
    subst₂ (λ (v w : ℕ × ℕ). Before (variable_place v) (variable_place w)) a.2 b.2 (lower h))
    (sorted_ascending l (enclosers g l))

pub captured_order : (g : ℕ → Group) (l i j d e x y : ℕ) → At (captured g l) i (d, x) → At (captured g l) j (e, y) → i < j → Before (d ∷ x ∷ []) (e ∷ y ∷ [])
captured_order g l i j d e x y a b h = sorted_at (λ v w. Before (variable_place v) (variable_place w)) a b h (sorted_captured g l)
