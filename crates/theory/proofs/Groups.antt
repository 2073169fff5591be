-- One group: the classes that its records name, as lists and as relations; and what its CLASS record says.
-- Assumes nothing.
use mathlib.Core.Path.{◌≡◌, refl, sym, ◌∙◌, subst}
use mathlib.Core.Logic.{◌≢◌, ◌↔◌}
use mathlib.Core.Bool.{Bool, true, false, not}
use mathlib.Core.List.Memᴰ
use mathlib.Core.List.{List, [], ◌∷◌, map, Memᴰ}
use Prim.Native.Nat.{ℕ}
use lib.Dec.{T, T_not, eqb, eqb→eq}
use Rattle.spec.specs.Lists.{keep, gather}
use Rattle.spec.specs.Record.{u8, u16, bit, none16, is_kind, CLASS, USES, flags, own_markers, superclass, encloser, target, index, references, unless_none}
use Rattle.spec.specs.Sheet.{Group, class_record, group_references, of_kind}
use Rattle.spec.specs.Classes.{superclasses, enclosing, targets, used_indexes}
use Rattle.spec.specs.Relations.{At, here, Says, Superclass, Encloser, Builds, Uses, References}
use Rattle.spec.specs.Breaks.{Flag}
use Rattle.laws.proofs.Bools.{eq→eqb}
use Rattle.theory.proofs.Closure.{bit_zero}
use Rattle.theory.proofs.References.{references_builds}
use Rattle.laws.proofs.Members.{gather_mem, mem_gather, keep_mem, mem_keep}
use Rattle.laws.proofs.Sorted.{Lone, empty, single, lone_gather}

-- ---- one group

none_mem : (x s : ℕ) → Memᴰ s (unless_none x) → (x ≡ s) × (s ≢ none16)
unfolding unless_none
none_mem x s m = go (eqb x none16) refl m
  where
    go : (b : Bool) → eqb x none16 ≡ b → Memᴰ s (elim b as (λ (c : Bool). List ℕ) [ true ↦ [] | false ↦ x ∷ [] ]) → (x ≡ s) × (s ≢ none16)
    go true e m = absurd (Memᴰ.not-nil m)
    go false e m =
        let q : s ≡ x = Memᴰ.eq_of_singleton m in
        (sym q, λ n. T_not (eqb x none16) (subst (λ (b : Bool). T (not b)) (sym e) tt) (eq→eqb (sym q ∙ n)))

mem_none : (x s : ℕ) → x ≡ s → s ≢ none16 → Memᴰ s (unless_none x)
unfolding unless_none
mem_none x s q n = go (eqb x none16) (λ t. n (sym q ∙ eqb→eq x none16 t))
  where
    go : (b : Bool) → (T b → ⊥) → Memᴰ s (elim b as (λ (c : Bool). List ℕ) [ true ↦ [] | false ↦ x ∷ [] ])
    go true f = absurd (f tt)
    go false f = Memᴰ.head (sym q)

-- the class that a CLASS record names in one of two places, and the list that holds it
said_class : (f : List ℕ → ℕ) (g : Group) (s : ℕ) → Memᴰ s (gather (λ r. unless_none (f r)) (of_kind CLASS g)) → Says CLASS f g s × (s ≢ none16)
unfolding of_kind
said_class f g s m =
    let a = gather_mem (λ r. unless_none (f r)) (keep (is_kind CLASS) g) s m in
    let k = keep_mem (is_kind CLASS) g a.source a.member in
    let q = none_mem (f a.source) s a.part in
    (record { bytes = a.source; member = k.0; of_kind = k.1; is = q.0 }, q.1)

class_said : (f : List ℕ → ℕ) (g : Group) (s : ℕ) → Says CLASS f g s → s ≢ none16 → Memᴰ s (gather (λ r. unless_none (f r)) (of_kind CLASS g))
unfolding of_kind
class_said f g s h n = mem_gather (λ r. unless_none (f r)) (mem_keep (is_kind CLASS) h.member h.of_kind) (mem_none (f h.bytes) s h.is n)

pub superclass_is : (g : Group) (s : ℕ) → Memᴰ s (superclasses g) ↔ Superclass g s
unfolding superclasses
superclass_is g s = (
  (λ m. let q = said_class superclass g s m in record { said = q.0; some = q.1 }),
  (λ h. class_said superclass g s h.said h.some),
)

pub encloser_is : (g : Group) (e : ℕ) → Memᴰ e (enclosing g) ↔ Encloser g e
unfolding enclosing
encloser_is g e = (
  (λ m. let q = said_class encloser g e m in record { said = q.0; some = q.1 }),
  (λ h. class_said encloser g e h.said h.some),
)

-- a group of one CLASS record has at most one superclass and one encloser
unless_lone : (x : ℕ) → Lone (unless_none x)
unfolding unless_none
unless_lone x = go (eqb x none16)
  where
    go : (b : Bool) → Lone (elim b as (λ (c : Bool). List ℕ) [ true ↦ [] | false ↦ x ∷ [] ])
    go true = empty
    go false = single

pub superclasses_lone : (g : Group) → Lone (of_kind CLASS g) → Lone (superclasses g)
unfolding superclasses
superclasses_lone g l = lone_gather (λ r. unless_none (superclass r)) (λ r. unless_lone (superclass r)) l

pub enclosing_lone : (g : Group) → Lone (of_kind CLASS g) → Lone (enclosing g)
unfolding enclosing
enclosing_lone g l = lone_gather (λ r. unless_none (encloser r)) (λ r. unless_lone (encloser r)) l

pub target_is : (k : ℕ) (g : Group) (t : ℕ) → Memᴰ t (targets k g) ↔ Says k target g t
unfolding targets of_kind
target_is k g t = (
  (λ m.
      let a = Memᴰ.of_map target (keep (is_kind k) g) m in
      let q = keep_mem (is_kind k) g a.0 a.1 in
      record { bytes = a.0; member = q.0; of_kind = q.1; is = a.2 }),
  (λ h. subst (λ (x : ℕ). Memᴰ x (map target (keep (is_kind k) g))) h.is (Memᴰ.map target (mem_keep (is_kind k) h.member h.of_kind))),
)

pub reference_is : (g : Group) (d : ℕ) → Memᴰ d (group_references g) ↔ References g d
unfolding group_references
reference_is g d = (
  (λ m. let a = gather_mem references g d m in record { bytes = a.source; member = a.member; names = a.part }),
  (λ h. mem_gather references h.member h.names),
)

pub uses_is : (d i : ℕ) (g : Group) → Memᴰ i (used_indexes d g) ↔ Uses g d i
unfolding used_indexes of_kind
uses_is d i g = (
  (λ m.
      let a = Memᴰ.of_map index (keep (λ r. eqb (target r) d) (keep (is_kind USES) g)) m in
      let q = keep_mem (λ r. eqb (target r) d) (keep (is_kind USES) g) a.0 a.1 in
      let k = keep_mem (is_kind USES) g a.0 q.0 in
      record { bytes = a.0; member = k.0; of_kind = k.1; owner = eqb→eq (target a.0) d q.1; variable = a.2 }),
  (λ h. subst (λ (x : ℕ). Memᴰ x (map index (keep (λ r. eqb (target r) d) (keep (is_kind USES) g)))) h.variable
      (Memᴰ.map index (mem_keep (λ r. eqb (target r) d) (mem_keep (is_kind USES) h.member h.of_kind) (eq→eqb h.owner)))),
)

-- a BUILDS record names its target
pub builds_reference : (g : Group) (t : ℕ) → Builds g t → References g t
builds_reference g t h =
    record { bytes = h.bytes; member = h.member; names = subst (Memᴰ t) (sym (references_builds h.bytes h.of_kind)) (Memᴰ.head (sym h.is)) }

-- ---- the CLASS record

pub first_record : {g : Group} {r : List ℕ} → At g 0 r → class_record g ≡ r
unfolding class_record
first_record here = refl

-- a bit that is set in the CLASS record, of a number that is 0 where there is none
first_set : (number : List ℕ → ℕ) → number [] ≡ 0 → (g : Group) (k : ℕ) → T (bit k (number (class_record g))) → (r : List ℕ) × At g 0 r × T (bit k (number r))
unfolding class_record
first_set number z [] k t = absurd (T_not (bit k 0) (bit_zero k) (subst (λ (x : ℕ). T (bit k x)) z t))
first_set number z (r ∷ g) k t = (r, here, t)

pub first_own : (g : Group) (k : ℕ) → T (bit k (own_markers (class_record g))) → (r : List ℕ) × At g 0 r × T (bit k (own_markers r))
first_own g k t = first_set own_markers (unfold own_markers u8 in refl) g k t

pub flag_is : (k : ℕ) (g : Group) → T (bit k (flags (class_record g))) ↔ Flag k g
flag_is k g = (
  (λ t. let r = first_set flags (unfold flags u16 in refl) g k t in record { bytes = r.0; first = r.1; set = r.2 }),
  (λ h. subst (λ (r : List ℕ). T (bit k (flags r))) (sym (first_record h.first)) h.set),
)
