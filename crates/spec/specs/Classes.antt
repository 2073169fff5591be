-- What a class has from its own and other groups: overlay markers, enclosers, superclasses, root, captured variables, slots
-- (document 01, "Marks" and "Captured locals and slots"). Over the groups by class number and, for superclasses, the number of library classes.
-- Assumes nothing.
use Rattle.std.specs.Prelude.{Bool, true, false, ◌&&◌, List, [], ◌∷◌, ◌++◌, map, ℕ, zero, suc, eqb, ltb, length, take, drop}
use Rattle.spec.specs.Lists.{all, keep, gather, numbered, only_if, elem, ascending, reach}
use Rattle.spec.specs.Record.{bit, is_kind, CLASS, IMPLEMENTS, LOCAL, USES, BUILDS, own_markers, superclass, encloser, target, index, Ty, field_ty, local_ty, is_final, is_transient, unless_none}
use Rattle.spec.specs.Record.{ty_references}
use Rattle.spec.specs.Sheet.{Group, class_record, of_kind, is_inner, is_instance_field}
use Rattle.spec.specs.Markers.{closure, union, union_all}

-- ---- one group by itself

-- the superclass, if there is one; so the encloser (a group has one CLASS record)
unfoldable pub superclasses : Group → List ℕ
superclasses g = gather (λ r. unless_none (superclass r)) (of_kind CLASS g)

unfoldable pub enclosing : Group → List ℕ
enclosing g = gather (λ r. unless_none (encloser r)) (of_kind CLASS g)

-- the classes that the records of a kind name as their target
unfoldable pub targets : ℕ → Group → List ℕ
targets k g = map target (of_kind k g)

-- "a class asks its superclass and its interfaces, and each interface asks those it extends"
unfoldable pub supertypes : Group → List ℕ
supertypes g = superclasses g ++ targets IMPLEMENTS g

-- the LOCALs with their record numbers, in record order
unfoldable pub locals : Group → List (ℕ × List ℕ)
locals g = keep (λ n. is_kind LOCAL n.1) (numbered 0 g)

-- the LOCAL of that index: "Indexes count from 0 in record order"
unfoldable pub local_at : Group → ℕ → List (ℕ × List ℕ)
local_at g i = take 1 (drop i (locals g))

-- the indexes of d's LOCALs that the group USES
unfoldable pub used_indexes : ℕ → Group → List ℕ
used_indexes d g = map index (keep (λ r. eqb (target r) d) (of_kind USES g))

-- the type of an object of a class
unfoldable pub class_ty : ℕ → Ty
class_ty c = record { dims = 0; code = 0; class = c }

-- A slot: the class and record that declare it, whether it is final and transient, and its type. Encloser and captured variables never change.
pub record Slot : Type 0 where
  pub holder : ℕ
  pub record_number : ℕ
  pub final : Bool
  pub transient : Bool
  pub type : Ty

unfoldable pub field_slot : ℕ → ℕ × List ℕ → Slot
field_slot c n = record { holder = c; record_number = n.0; final = is_final n.1; transient = is_transient n.1; type = field_ty n.1 }

unfoldable pub encloser_slot : ℕ → ℕ → Slot
encloser_slot c e = record { holder = c; record_number = 0; final = true; transient = false; type = class_ty e }

unfoldable pub variable_slot : ℕ → ℕ × List ℕ → Slot
variable_slot d n = record { holder = d; record_number = n.0; final = true; transient = false; type = local_ty n.1 }

module _ (group : ℕ → Group) where
  -- ---- markers

  -- own markers joined with those of all supertypes; supertypes have lower numbers, so c + 1 levels are enough
  unfoldable pub gathered : ℕ → ℕ → ℕ
  gathered zero c = 0
  gathered (suc n) c = union (own_markers (class_record (group c))) (union_all (map (gathered n) (supertypes (group c))))

  -- "The overlay marks of a class close its own marks joined with those of all supertypes"
  unfoldable pub overlay : ℕ → ℕ
  overlay c = closure (gathered (suc c) c)

  unfoldable pub has_marker : ℕ → ℕ → Bool
  has_marker k c = bit k (overlay c)

  -- "A type without dimensions has its class's overlay marks; a primitive one satisfies every mark that a rule below asks. An array satisfies none of those."
  unfoldable pub satisfies : ℕ → Ty → Bool
  satisfies k t = eqb t.dims 0 && all (has_marker k) (ty_references t)

  -- ---- enclosers

  unfoldable pub enclosers_in : ℕ → ℕ → List ℕ
  enclosers_in zero c = []
  enclosers_in (suc n) c = gather (λ e. e ∷ enclosers_in n e) (enclosing (group c))

  -- the classes that enclose c "at any depth", innermost first; an encloser has a lower number
  unfoldable pub enclosers : ℕ → List ℕ
  enclosers c = enclosers_in (suc c) c

  -- l "lies strictly inside" d
  unfoldable pub inside : ℕ → ℕ → Bool
  inside d l = elem d (enclosers l)

  -- ---- captured variables: the paper's captured locals

  -- BUILDS steps to classes inside d
  unfoldable pub builds_inside : ℕ → ℕ → List ℕ
  builds_inside d m = keep (inside d) (targets BUILDS (group m))

  -- the indexes of d's variables that l captures: "a chain from L, of no or more BUILDS steps, ends at a class that USES it, and every class on the chain lies strictly inside D"
  unfoldable pub captured_of : ℕ → ℕ → List ℕ
  captured_of l d = ascending (length (locals (group d))) (gather (λ m. used_indexes d (group m)) (reach (builds_inside d) l))

  -- owner and index of each, ascending, without repeats; owners enclose l, so they are below it
  unfoldable pub captured : ℕ → List (ℕ × ℕ)
  captured l = gather (λ d. map (λ i. (d, i)) (captured_of l d)) (ascending l (enclosers l))

  -- ---- slots

  unfoldable pub encloser_slots : ℕ → List Slot
  encloser_slots c = only_if (is_inner (group c)) (map (encloser_slot c) (enclosing (group c)))

  unfoldable pub field_slots : ℕ → List Slot
  field_slots c = map (field_slot c) (keep (λ n. is_instance_field n.1) (numbered 0 (group c)))

  unfoldable pub captured_slots : ℕ → List Slot
  captured_slots c = gather (λ v. map (variable_slot v.0) (local_at (group v.0) v.1)) (captured c)

  unfoldable pub own_slots : ℕ → List Slot
  own_slots c = encloser_slots c ++ (field_slots c ++ captured_slots c)

module _ (nlib : ℕ) (group : ℕ → Group) where
  -- ---- superclasses and root

  unfoldable pub lineage_in : ℕ → ℕ → List ℕ
  lineage_in zero c = []
  lineage_in (suc n) c = elim (ltb c nlib) [ true ↦ [] | false ↦ c ∷ gather (lineage_in n) (superclasses (group c)) ]

  -- c and "each user superclass upward"
  unfoldable pub lineage : ℕ → List ℕ
  lineage c = lineage_in (suc c) c

  unfoldable pub root_in : ℕ → ℕ → List ℕ
  root_in zero c = []
  root_in (suc n) c = elim (ltb c nlib) [ true ↦ c ∷ [] | false ↦ gather (root_in n) (superclasses (group c)) ]

  -- "The walk ends at the first library superclass, called its root"
  unfoldable pub root : ℕ → List ℕ
  root c = root_in (suc c) c

  -- "The slots of a class are its instance fields, its encloser if it is inner, its captured variables, and those of each user superclass upward"
  unfoldable pub slots : ℕ → List Slot
  slots c = gather (own_slots group) (lineage c)
