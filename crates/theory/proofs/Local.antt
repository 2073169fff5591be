-- Locality: the verdict of a class depends only on the number of library classes and on the groups of the classes that it depends on.
-- Assumes nothing.
use mathlib.Core.Path.{◌≡◌, refl, ap, ap₂, ◌∙◌, subst}
use mathlib.Core.Bool.{Bool, true, false, not, ◌&&◌}
use mathlib.Core.List.{List, [], ◌∷◌, ◌++◌, map}
use Prim.Native.Nat.{ℕ, zero, suc}
use lib.Dec.{T, eqb, ltb}
use lib.ListN.{length, get_or, take, drop}
use Rattle.spec.specs.Lists.{any, keep, gather, numbered, only_if, elem, ascending}
use Rattle.spec.specs.Record.{bit, is_kind, CLASS, IMPLEMENTS, FIELD, LOCAL, BUILDS, MEMBER, REFERS, flags, superclass, encloser}
use Rattle.spec.specs.Record.{target, index, Ty, field_ty, local_ty, is_final, is_static, unless_none, ty_references, references}
use Rattle.spec.specs.Sheet.{Group, class_count, group, class_record, group_references, of_kind, is_interface, is_inner, is_allowed, is_static_field, is_instance_field}
use Rattle.spec.specs.Markers.{Immutable, Powerless, Selfless, DeepSelfless}
use Rattle.spec.specs.Classes.{superclasses, enclosing, targets, supertypes, locals, local_at, used_indexes, class_ty, Slot, field_slot, encloser_slot}
use Rattle.spec.specs.Classes.{variable_slot, has_marker, satisfies, enclosers_in, enclosers, inside, lineage_in, lineage, root_in, root}
use Rattle.spec.specs.Classes.{builds_inside, captured_of, captured, encloser_slots, field_slots, captured_slots, own_slots, slots}
use Rattle.spec.specs.Rules.{Fault, static_breaks, slot_fault, faults_at, fault_if, forbidden, rule1, member_allowed, rule2, rule3, rule4, rule5, rule6, judged_for}
use Rattle.spec.specs.Rules.{slot_faults, root_fits, root_faults, rule7, rule8, base_fits, base_faults, rule9, rule10, rules, verdict_of}
use Rattle.spec.specs.Relations.{Depends, self, onward}
use Rattle.spec.specs.Verdicts.{verdict_at}
use Rattle.theory.specs.Claims.{Locality}
use Rattle.laws.proofs.Bools.{and_l, and_cong}
use Rattle.laws.proofs.All.{All, all_append, all_left, all_right, all_keep, all_take, all_drop, all_if, of_members, at_member, weaken, all_kept}
use Rattle.laws.proofs.All.{all_gather, all_map, all_parts, any_cong, all_cong, keep_cong, all_numbered, gather_same}
use Rattle.theory.proofs.Reach.{reach_in, reach_same}
use Rattle.theory.proofs.Alike.{overlay_same}
use Rattle.laws.proofs.Members.{gather_mem, ascending_mem}
use Rattle.theory.proofs.References.{references_class, references_implements, references_field, references_local, references_builds, references_refers}

-- one step of a walk up the superclasses: at a library class xs, at a user class ys and what is further up
abbrev walked : Bool → List ℕ → List ℕ → List ℕ → List ℕ
walked library xs ys further = elim library [ true ↦ xs | false ↦ ys ++ further ]

-- ---- two rows of groups that agree on a set of classes which holds all that its members name

module _ (nlib : ℕ) (g g' : ℕ → Group) (P : ℕ → Type 0) (closed : (d : ℕ) → P d → All P (group_references (g d))) (same : (d : ℕ) → P d → g d ≡ g' d) where
  -- all classes that a record names are in the set; so for a type and a slot
  abbrev RecordIn : List ℕ → Type 0
  RecordIn r = All P (references r)

  abbrev TypeIn : Ty → Type 0
  TypeIn t = All P (ty_references t)

  abbrev SlotIn : Slot → Type 0
  SlotIn s = TypeIn s.type

  -- A law `x-in` says that what x gives over the first row is in the set, a law `x-same` that x is the same over both rows.

  records_in_lem : (c : ℕ) → P c → All RecordIn (g c)
  unfolding group_references
  records_in_lem c p = all_parts P references (g c) (closed c p)

  numbered_in : (c : ℕ) → P c → All (λ n. RecordIn n.1) (numbered 0 (g c))
  numbered_in c p = all_numbered RecordIn 0 (g c) (records_in_lem c p)

  kept_in : (test : List ℕ → Bool) (c : ℕ) → P c → All (λ n. RecordIn n.1 × T (test n.1)) (keep (λ n. test n.1) (numbered 0 (g c)))
  kept_in test c p = all_kept (λ n. RecordIn n.1) (λ n. test n.1) (numbered 0 (g c)) (numbered_in c p)

  -- ---- the classes that a group names in one kind of record

  kind_in : (k c : ℕ) → P c → All (λ r. RecordIn r × T (is_kind k r)) (of_kind k (g c))
  unfolding of_kind
  kind_in k c p = all_kept RecordIn (is_kind k) (g c) (records_in_lem c p)

  class_in : (f : List ℕ → List ℕ) → ((r : List ℕ) → All P (unless_none (superclass r) ++ unless_none (encloser r)) → All P (f r)) → (c : ℕ) → P c
      → All P (gather f (of_kind CLASS (g c)))
  class_in f h c p =
      all_gather (λ r. RecordIn r × T (is_kind CLASS r)) P f (λ r q. h r (subst (All P) (references_class r q.1) q.0)) (of_kind CLASS (g c)) (kind_in CLASS c p)

  superclasses_in : (c : ℕ) → P c → All P (superclasses (g c))
  unfolding superclasses
  superclasses_in c p = class_in (λ r. unless_none (superclass r)) (λ r q. all_left P (unless_none (superclass r)) (unless_none (encloser r)) q) c p

  enclosing_in : (c : ℕ) → P c → All P (enclosing (g c))
  unfolding enclosing
  enclosing_in c p = class_in (λ r. unless_none (encloser r)) (λ r q. all_right P (unless_none (superclass r)) (unless_none (encloser r)) q) c p

  targets_in : (k : ℕ) → ((r : List ℕ) → T (is_kind k r) → references r ≡ target r ∷ []) → (c : ℕ) → P c → All P (targets k (g c))
  unfolding targets
  targets_in k h c p = all_map (λ r. RecordIn r × T (is_kind k r)) P target (λ r q. (subst (All P) (h r q.1) q.0).0) (of_kind k (g c)) (kind_in k c p)

  supertypes_in : (c : ℕ) → P c → All P (supertypes (g c))
  unfolding supertypes
  supertypes_in c p = all_append P (superclasses (g c)) (targets IMPLEMENTS (g c)) (superclasses_in c p) (targets_in IMPLEMENTS references_implements c p)

  -- ---- markers

  marker_same : (k c : ℕ) → P c → has_marker g k c ≡ has_marker g' k c
  unfolding has_marker
  marker_same k c p = ap (bit k) (overlay_same g g' P supertypes_in same c p)

  type_same : (k : ℕ) (t : Ty) → TypeIn t → satisfies g k t ≡ satisfies g' k t
  unfolding satisfies
  type_same k t q = ap (λ (b : Bool). eqb t.dims 0 && b) (all_cong P (has_marker g k) (has_marker g' k) (marker_same k) (ty_references t) q)

  -- ---- enclosers, superclasses, root

  enclosers_in_in : (n c : ℕ) → P c → All P (enclosers_in g n c)
  unfolding enclosers_in
  enclosers_in_in zero c p = tt
  enclosers_in_in (suc n) c p = all_gather P P (λ e. e ∷ enclosers_in g n e) (λ e q. (q, enclosers_in_in n e q)) (enclosing (g c)) (enclosing_in c p)

  enclosers_in_same : (n c : ℕ) → P c → enclosers_in g n c ≡ enclosers_in g' n c
  unfolding enclosers_in
  enclosers_in_same zero c p = refl
  enclosers_in_same (suc n) c p =
      gather_same P (λ e. e ∷ enclosers_in g n e) (λ e. e ∷ enclosers_in g' n e) (λ e q. ap (λ (l : List ℕ). e ∷ l) (enclosers_in_same n e q))
      (ap enclosing (same c p)) (enclosing_in c p)

  enclosers_in_lem : (c : ℕ) → P c → All P (enclosers g c)
  unfolding enclosers
  enclosers_in_lem c p = enclosers_in_in (suc c) c p

  pub enclosers_same : (c : ℕ) → P c → enclosers g c ≡ enclosers g' c
  unfolding enclosers
  enclosers_same c p = enclosers_in_same (suc c) c p

  inside_same : (d l : ℕ) → P l → inside g d l ≡ inside g' d l
  unfolding inside
  inside_same d l p = ap (elem d) (enclosers_same l p)

  upward_same : {B : Type 0} (f f' : ℕ → List B) → ((c : ℕ) → P c → f c ≡ f' c) → (c : ℕ) → P c → gather f (superclasses (g c)) ≡ gather f' (superclasses (g' c))
  upward_same f f' h c p = gather_same P f f' h (ap superclasses (same c p)) (superclasses_in c p)

  walked_in : (xs ys : List ℕ) (f : ℕ → List ℕ) → All P xs → All P ys → ((c : ℕ) → P c → All P (f c)) → (c : ℕ) → P c
      → All P (walked (ltb c nlib) xs ys (gather f (superclasses (g c))))
  walked_in xs ys f h k i c p =
      all_if P (ltb c nlib) xs (ys ++ gather f (superclasses (g c))) h
      (all_append P ys (gather f (superclasses (g c))) k (all_gather P P f i (superclasses (g c)) (superclasses_in c p)))

  lineage_in_in : (n c : ℕ) → P c → All P (lineage_in nlib g n c)
  unfolding lineage_in
  lineage_in_in zero c p = tt
  lineage_in_in (suc n) c p = walked_in [] (c ∷ []) (lineage_in nlib g n) tt (p, tt) (lineage_in_in n) c p

  lineage_in_same : (n c : ℕ) → P c → lineage_in nlib g n c ≡ lineage_in nlib g' n c
  unfolding lineage_in
  lineage_in_same zero c p = refl
  lineage_in_same (suc n) c p = ap (walked (ltb c nlib) [] (c ∷ [])) (upward_same (lineage_in nlib g n) (lineage_in nlib g' n) (lineage_in_same n) c p)

  root_in_in : (n c : ℕ) → P c → All P (root_in nlib g n c)
  unfolding root_in
  root_in_in zero c p = tt
  root_in_in (suc n) c p = walked_in (c ∷ []) [] (root_in nlib g n) (p, tt) tt (root_in_in n) c p

  root_in_same : (n c : ℕ) → P c → root_in nlib g n c ≡ root_in nlib g' n c
  unfolding root_in
  root_in_same zero c p = refl
  root_in_same (suc n) c p = ap (walked (ltb c nlib) (c ∷ []) []) (upward_same (root_in nlib g n) (root_in nlib g' n) (root_in_same n) c p)

  -- ---- captured variables

  builds_inside_in : (d m : ℕ) → P m → All P (builds_inside g d m)
  unfolding builds_inside
  builds_inside_in d m p = all_keep P (inside g d) (targets BUILDS (g m)) (targets_in BUILDS references_builds m p)

  builds_inside_same : (d m : ℕ) → P m → builds_inside g d m ≡ builds_inside g' d m
  unfolding builds_inside
  builds_inside_same d m p =
      rw (← same m p) (keep_cong P (inside g d) (inside g' d) (inside_same d) (targets BUILDS (g m)) (targets_in BUILDS references_builds m p))

  captured_of_same : (l : ℕ) → P l → (d : ℕ) → P d → captured_of g l d ≡ captured_of g' l d
  unfolding captured_of
  captured_of_same l p d q =
      ap₂ (λ (h : Group) (is : List ℕ). ascending (length (locals h)) is) (same d q)
      (gather_same P (λ m. used_indexes d (g m)) (λ m. used_indexes d (g' m)) (λ m s. ap (used_indexes d) (same m s))
      (reach_same P (builds_inside g d) (builds_inside g' d) (builds_inside_same d) (builds_inside_in d) l p)
      (reach_in P (builds_inside g d) (builds_inside_in d) l p))

  owners_in : (l : ℕ) → P l → All P (ascending l (enclosers g l))
  owners_in l p =
      of_members P (ascending l (enclosers g l)) (λ d m. at_member P (enclosers g l) (enclosers_in_lem l p) (ascending_mem l (enclosers g l) d m))

  captured_in : (l : ℕ) → P l → All (λ v. P v.0) (captured g l)
  unfolding captured
  captured_in l p =
      all_gather P (λ v. P v.0) (λ d. map (λ i. (d, i)) (captured_of g l d))
      (λ d q. all_map (λ i. Unit {0}) (λ v. P v.0) (λ i. (d, i)) (λ i _. q) (captured_of g l d) (of_members (λ i. Unit {0}) (captured_of g l d) (λ i _. tt)))
      (ascending l (enclosers g l)) (owners_in l p)

  captured_same : (l : ℕ) → P l → captured g l ≡ captured g' l
  unfolding captured
  captured_same l p =
      gather_same P (λ d. map (λ i. (d, i)) (captured_of g l d)) (λ d. map (λ i. (d, i)) (captured_of g' l d))
      (λ d q. ap (map (λ (i : ℕ). (d, i))) (captured_of_same l p d q)) (ap (ascending l) (enclosers_same l p)) (owners_in l p)

  -- ---- slots

  field_in : (r : List ℕ) → RecordIn r → T (is_kind FIELD r) → TypeIn (field_ty r)
  field_in r q t = subst (All P) (references_field r t) q

  field_slots_in : (c : ℕ) → P c → All SlotIn (field_slots g c)
  unfolding field_slots field_slot is_instance_field
  field_slots_in c p =
      all_map (λ n. RecordIn n.1 × T (is_instance_field n.1)) SlotIn (field_slot c)
      (λ n q. field_in n.1 q.0 (and_l (is_kind FIELD n.1) (not (is_static n.1)) q.1))
      (keep (λ n. is_instance_field n.1) (numbered 0 (g c))) (kept_in is_instance_field c p)

  encloser_slots_in : (c : ℕ) → P c → All SlotIn (encloser_slots g c)
  unfolding encloser_slots only_if encloser_slot class_ty ty_references
  encloser_slots_in c p =
      all_if SlotIn (is_inner (g c)) (map (encloser_slot c) (enclosing (g c))) []
      (all_map P SlotIn (encloser_slot c) (λ e q. (q, tt)) (enclosing (g c)) (enclosing_in c p)) tt

  local_at_in : (d i : ℕ) → P d → All (λ n. TypeIn (local_ty n.1)) (local_at (g d) i)
  unfolding local_at locals
  local_at_in d i p =
      all_take (λ n. TypeIn (local_ty n.1)) 1 (drop i (locals (g d)))
      (all_drop (λ n. TypeIn (local_ty n.1)) i (locals (g d))
      (weaken (λ n. RecordIn n.1 × T (is_kind LOCAL n.1)) (λ n. TypeIn (local_ty n.1)) (λ n q. subst (All P) (references_local n.1 q.1) q.0) (locals (g d))
      (kept_in (is_kind LOCAL) d p)))

  captured_slots_in : (c : ℕ) → P c → All SlotIn (captured_slots g c)
  unfolding captured_slots variable_slot
  captured_slots_in c p =
      all_gather (λ v. P v.0) SlotIn (λ v. map (variable_slot v.0) (local_at (g v.0) v.1))
      (λ v q. all_map (λ n. TypeIn (local_ty n.1)) SlotIn (variable_slot v.0) (λ n s. s) (local_at (g v.0) v.1) (local_at_in v.0 v.1 q))
      (captured g c) (captured_in c p)

  captured_slots_same : (c : ℕ) → P c → captured_slots g c ≡ captured_slots g' c
  unfolding captured_slots
  captured_slots_same c p =
      gather_same (λ v. P v.0) (λ v. map (variable_slot v.0) (local_at (g v.0) v.1)) (λ v. map (variable_slot v.0) (local_at (g' v.0) v.1))
      (λ v q. ap (λ (h : Group). map (variable_slot v.0) (local_at h v.1)) (same v.0 q)) (captured_same c p) (captured_in c p)

  own_slots_in : (c : ℕ) → P c → All SlotIn (own_slots g c)
  unfolding own_slots
  own_slots_in c p =
      all_append SlotIn (encloser_slots g c) (field_slots g c ++ captured_slots g c) (encloser_slots_in c p)
      (all_append SlotIn (field_slots g c) (captured_slots g c) (field_slots_in c p) (captured_slots_in c p))

  own_slots_same : (c : ℕ) → P c → own_slots g c ≡ own_slots g' c
  unfolding own_slots encloser_slots field_slots
  own_slots_same c p = cc (same c p, captured_slots_same c p)

  slots_in : (c : ℕ) → P c → All SlotIn (slots nlib g c)
  unfolding slots lineage
  slots_in c p = all_gather P SlotIn (own_slots g) own_slots_in (lineage_in nlib g (suc c) c) (lineage_in_in (suc c) c p)

  slots_same : (c : ℕ) → P c → slots nlib g c ≡ slots nlib g' c
  unfolding slots lineage
  slots_same c p = gather_same P (own_slots g) (own_slots g') own_slots_same (lineage_in_same (suc c) c p) (lineage_in_in (suc c) c p)

  -- ---- rules 1, 2 and 5, which test the records of the class's own group

  faults_same : (bad bad' : List ℕ → Bool) → ((r : List ℕ) → RecordIn r → bad r ≡ bad' r) → (c : ℕ) → P c → faults_at g bad c ≡ faults_at g' bad' c
  unfolding faults_at
  faults_same bad bad' h c p =
      rw (← same c p)
      (ap (map (λ (n : ℕ × List ℕ). record { class = c; record_number = n.0 }))
      (keep_cong (λ n. RecordIn n.1) (λ n. bad n.1) (λ n. bad' n.1) (λ n q. h n.1 q) (numbered 0 (g c)) (numbered_in c p)))

  rule1_same : (c : ℕ) → P c → rule1 nlib g c ≡ rule1 nlib g' c
  unfolding rule1 forbidden
  rule1_same c p =
      faults_same (λ r. any (forbidden nlib g) (references r)) (λ r. any (forbidden nlib g') (references r))
      (λ r q. any_cong P (forbidden nlib g) (forbidden nlib g') (λ d s. ap (λ (h : Group). ltb d nlib && not (is_allowed h)) (same d s)) (references r) q) c p

  rule2_same : (c : ℕ) → P c → rule2 nlib g c ≡ rule2 nlib g' c
  unfolding rule2 member_allowed
  rule2_same c p =
      faults_same (λ r. is_kind REFERS r && not (member_allowed g (target r) (index r))) (λ r. is_kind REFERS r && not (member_allowed g' (target r) (index r)))
      (λ r q. and_cong (is_kind REFERS r) (λ t.
      ap (λ (h : Group). not (bit 0 (flags (get_or (of_kind MEMBER h) (index r) [])))) (same (target r) (subst (All P) (references_refers r t) q).0))) c p

  rule5_same : (c : ℕ) → P c → rule5 nlib g c ≡ rule5 nlib g' c
  unfolding rule5 is_static_field
  rule5_same c p =
      faults_same (static_breaks g) (static_breaks g')
      (λ r q. and_cong (is_static_field r) (λ t. ap (λ (b : Bool). not (is_final r && b))
      (type_same Powerless (field_ty r) (field_in r q (and_l (is_kind FIELD r) (is_static r) t))))) c p

  -- ---- rules 7 to 10

  judged_for_same : (k c : ℕ) → P c → judged_for g k c ≡ judged_for g' k c
  unfolding judged_for
  judged_for_same k c p = ap₂ (λ (h : Group) (b : Bool). not (is_interface h) && b) (same c p) (marker_same k c p)

  slot_faults_same : (ok ok' : Slot → Bool) → ((s : Slot) → SlotIn s → ok s ≡ ok' s) → (c : ℕ) → P c → slot_faults nlib g ok c ≡ slot_faults nlib g' ok' c
  unfolding slot_faults
  slot_faults_same ok ok' h c p =
      rw (← slots_same c p)
      (ap (map slot_fault) (keep_cong SlotIn (λ s. not (ok s)) (λ s. not (ok' s)) (λ s q. ap not (h s q)) (slots nlib g c) (slots_in c p)))

  root_faults_same : (k c : ℕ) → P c → root_faults nlib g k c ≡ root_faults nlib g' k c
  unfolding root_faults root fault_if root_fits
  root_faults_same k c p =
      gather_same P (λ d. fault_if (not (root_fits g k d)) d) (λ d. fault_if (not (root_fits g' k d)) d)
      (λ d q. rw (marker_same k d q)) (root_in_same (suc c) c p) (root_in_in (suc c) c p)

  base_faults_same : (c : ℕ) → P c → base_faults g c ≡ base_faults g' c
  unfolding base_faults fault_if base_fits
  base_faults_same c p =
      upward_same (λ s. fault_if (not (base_fits g (flags (class_record (g c))) s)) c) (λ s. fault_if (not (base_fits g' (flags (class_record (g' c))) s)) c)
      (λ s q. rw (same c p, marker_same Selfless s q)) c p

  -- each of these rules asks for a marker and tests the slots, and then something more
  judged_same : (k : ℕ) (ok ok' : Slot → Bool) → ((s : Slot) → SlotIn s → ok s ≡ ok' s) → {more more' : List Fault} → more ≡ more' → (c : ℕ) → P c
      → only_if (judged_for g k c) (slot_faults nlib g ok c ++ more) ≡ only_if (judged_for g' k c) (slot_faults nlib g' ok' c ++ more')
  judged_same k ok ok' h e c p = cc (judged_for_same k c p, slot_faults_same ok ok' h c p, e)

  -- rules 7, 8 and 10 want the marker of the slots' types and of the root; `first` is what else they test of a slot
  marked_same : (k : ℕ) (first : Slot → Bool) (c : ℕ) → P c
      → only_if (judged_for g k c) (slot_faults nlib g (λ s. first s && satisfies g k s.type) c ++ root_faults nlib g k c)
      ≡ only_if (judged_for g' k c) (slot_faults nlib g' (λ s. first s && satisfies g' k s.type) c ++ root_faults nlib g' k c)
  marked_same k first c p =
      judged_same k (λ s. first s && satisfies g k s.type) (λ s. first s && satisfies g' k s.type)
      (λ s q. ap (λ (b : Bool). first s && b) (type_same k s.type q)) (root_faults_same k c p) c p

  rule7_same : (c : ℕ) → P c → rule7 nlib g c ≡ rule7 nlib g' c
  unfolding rule7
  rule7_same c p = marked_same Immutable (λ s. s.final) c p

  rule8_same : (c : ℕ) → P c → rule8 nlib g c ≡ rule8 nlib g' c
  unfolding rule8
  rule8_same c p = marked_same Powerless (λ s. true) c p

  rule9_same : (c : ℕ) → P c → rule9 nlib g c ≡ rule9 nlib g' c
  unfolding rule9
  rule9_same c p = judged_same Selfless (λ s. s.final && not s.transient) (λ s. s.final && not s.transient) (λ s q. refl) (base_faults_same c p) c p

  rule10_same : (c : ℕ) → P c → rule10 nlib g c ≡ rule10 nlib g' c
  unfolding rule10
  rule10_same c p = marked_same DeepSelfless (λ s. true) c p

  -- ---- the verdict; rules 3, 4 and 6 ask only the group and the overlay markers of the class itself

  pub verdict_same : (c : ℕ) → P c → verdict_of nlib g c ≡ verdict_of nlib g' c
  unfolding verdict_of rules rule3 rule4 rule6 fault_if
  verdict_same c p =
      cc (same c p, overlay_same g g' P supertypes_in same c p, rule1_same c p, rule2_same c p, rule5_same c p, rule7_same c p, rule8_same c p, rule9_same c p, rule10_same c p)

-- ---- the classes that c depends on are such a set

depends_closed : (g : ℕ → Group) (c d : ℕ) → Depends g c d → All (Depends g c) (group_references (g d))
unfolding group_references
depends_closed g c d p =
    of_members (Depends g c) (group_references (g d))
    (λ e m. let a = gather_mem references (g d) e m in onward p (record { bytes = a.source; member = a.member; names = a.part }))

pub locality : (nlib : ℕ) (g g' : ℕ → Group) (c : ℕ) → ((d : ℕ) → Depends g c d → g d ≡ g' d) → verdict_of nlib g c ≡ verdict_of nlib g' c
locality nlib g g' c same = verdict_same nlib g g' (Depends g c) (depends_closed g c) same c self

-- the claim asks for accepted sheets; it holds of any
pub local : Locality
unfolding verdict_at
local library user used _ library' user' used' _ e c same =
    let u : List ℕ = take used user in
    let u' : List ℕ = take used' user' in
    locality (class_count library) (group library u) (group library' u') c same ∙ ap (λ (n : ℕ). verdict_of n (group library' u') c) e
