-- A class that is not there has no markers; and the markers of a type.
-- Assumes nothing.
use mathlib.Core.Path.{◌≡◌, refl, sym, ap, ◌∙◌, subst}
use mathlib.Core.Bool.{Bool, true, false, not, ◌&&◌, and-true}
use mathlib.Core.Logic.{◌⊎◌, inl, inr}
use mathlib.Core.List.{List, [], ◌∷◌, ◌++◌, map}
use Prim.Native.Nat.{ℕ, zero, suc, ◌+◌, ◌-◌, ◌≤◌, ◌<◌}
use native.Mathlib.Omega.{arith}
use native.Mathlib.Nat.{zero-add}
use lib.Dec.{T, eqb, ltb, ltb→lt, nltb→le}
use lib.ListN.{length, get_or, replicate, length-append, length-replicate}
use Rattle.std.proofs.lemmas.List.{get_or_append_left, get_or-append_right}
use Rattle.spec.specs.Lists.{all, keep, gather, span}
use Rattle.spec.specs.Record.{u8, bit, own_markers, Ty, ty_references}
use Rattle.spec.specs.Sheet.{Group, class_record, of_kind}
use Rattle.spec.specs.Markers.{union, union_all, closures, closure}
use Rattle.spec.specs.Classes.{superclasses, targets, supertypes, gathered, overlay, has_marker, satisfies}
use Rattle.laws.proofs.Bools.{decide, t_true, t_false}
use Rattle.laws.proofs.All.{all_span}
use Rattle.sheets.specs.Sheets.{Pair, groups, count}
use Rattle.theory.proofs.Closure.{bit_zero}
use Rattle.theory.proofs.Form.{group_past}
use Rattle.overlay.specs.Types.{Known, markers_by, type_markers, row_markers}
use Rattle.overlay.proofs.Unions.{union_zero}

-- ---- a class that is not there

empty_overlay : (g : ℕ → Group) (c : ℕ) → g c ≡ [] → overlay g c ≡ 0
unfolding overlay gathered own_markers u8 class_record supertypes superclasses targets of_kind keep gather union_all closure closures
empty_overlay g c e =
    ap (λ (h : Group). closure (union (own_markers (class_record h)) (union_all (map (gathered g c) (supertypes h))))) e ∙ ap closure (union_zero 0)

pub overlay_past : (p : Pair) (c : ℕ) → count p ≤ c → overlay (groups p) c ≡ 0
overlay_past p c h = empty_overlay (groups p) c (group_past p.library p.user c h)

zeros : (n k : ℕ) → ◌≡◌ {A = ℕ} (get_or (replicate n 0) k 0) 0
zeros zero k = refl
zeros (suc n) zero = refl
zeros (suc n) (suc k) = zeros n k

-- the entries of the classes that are there, and 0 from there on
pub known_all : (p : Pair) (row : List ℕ) → length row ≡ count p → (k : ℕ) → length row + k ≡ 256 → ((c : ℕ) → c < length row → get_or row c 0 ≡ overlay (groups p) c)
    → Known (groups p) (row ++ replicate k 0)
known_all p row there k all is = record { long = length-append row (replicate k 0) ∙ ap (λ (m : ℕ). length row + m) (length-replicate k 0) ∙ all; is = λ c. go c (decide (ltb c (length row))) }
  where
    go : (c : ℕ) → T (ltb c (length row)) ⊎ T (not (ltb c (length row))) → get_or (row ++ replicate k 0) c 0 ≡ overlay (groups p) c
    go c (inl t) = let low = ltb→lt c (length row) t in get_or_append_left row (replicate k 0) 0 c low ∙ is c low
    go c (inr t) =
        let past = nltb→le c (length row) t in
        get_or-append_right row (replicate k 0) (length row) c 0 refl past ∙ zeros k (c - length row) ∙ sym (overlay_past p c (omega (arith, there)))

-- ---- the markers of a type

-- a right row tells them
pub row_markers_lem : {g : ℕ → Group} {row : List ℕ} → Known g row → (t : Ty) → row_markers row t ≡ type_markers g t
unfolding row_markers type_markers
row_markers_lem k t = ap (λ (f : ℕ → ℕ). markers_by f t) (λ i c. k.is c i)

bit_all : (k : ℕ) → k < 8 → bit k 255 ≡ true
unfolding all span bit
bit_all k h = subst (λ (i : ℕ). bit i 255 ≡ true) (zero-add k) (t_true (bit (0 + k) 255) (all_span (λ i. bit i 255) 0 8 tt k h))

-- a type satisfies the markers that it has
pub satisfies_bit : (g : ℕ → Group) (k : ℕ) (t : Ty) → k < 8 → satisfies g k t ≡ bit k (type_markers g t)
unfolding satisfies type_markers markers_by ty_references all has_marker
satisfies_bit g k t h = go (eqb t.dims 0) (eqb t.code 0)
  where
    go : (a b : Bool) → (a && all (has_marker g k) (elim b as (λ (y : Bool). List ℕ) [ true ↦ t.class ∷ [] | false ↦ [] ]))
        ≡ bit k (elim a as (λ (y : Bool). ℕ) [ true ↦ elim b as (λ (y : Bool). ℕ) [ true ↦ overlay g t.class | false ↦ 255 ] | false ↦ 0 ])
    go true true = and-true (bit k (overlay g t.class))
    go true false = sym (bit_all k h)
    go false b = sym (t_false (bit k 0) (bit_zero k))
