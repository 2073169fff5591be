-- The ten rules and the verdict of a class, computed (document 01, "The ten rules, for each user class").
-- Over the number of library classes and the groups by class number.
-- Assumes nothing.
use Rattle.std.specs.Prelude.{Bool, not, ◌&&◌, ◌||◌, List, [], ◌∷◌, ◌++◌, map, ℕ, suc, eqb, ltb, get_or}
use Rattle.spec.specs.Lists.{any, keep, gather, numbered, only_if, reach}
use Rattle.spec.specs.Record.{bit, is_kind, MEMBER, REFERS, flags, own_markers, target, index, field_ty, is_final, references}
use Rattle.spec.specs.Sheet.{Group, class_record, group_references, of_kind, is_interface, is_allowed, is_static_field}
use Rattle.spec.specs.Markers.{Immutable, Powerless, Selfless, Token, Throwable, Enum, DeepSelfless, clash}
use Rattle.spec.specs.Classes.{Slot, superclasses, overlay, has_marker, satisfies, root, slots}

-- a fault with the class and the record where it sits
pub record Fault : Type 0 where
  pub class : ℕ
  pub record_number : ℕ

-- a line of the slate: "rule then place"; 02, C-16: "a third number, the class in which the fault sits"
pub record Verdict : Type 0 where
  pub rule : ℕ
  pub record_number : ℕ
  pub class : ℕ

-- 02, C-16: "clean lines hold three zeros"
abbrev pub clean : Verdict
clean = record { rule = 0; record_number = 0; class = 0 }

unfoldable pub slot_fault : Slot → Fault
slot_fault s = record { class = s.holder; record_number = s.record_number }

-- a fault at record 0 of class c
unfoldable pub fault_if : Bool → ℕ → List Fault
fault_if bad c = only_if bad (record { class = c; record_number = 0 } ∷ [])

module _ (group : ℕ → Group) where
  -- the records of the class's own group that pass a test
  unfoldable pub faults_at : (List ℕ → Bool) → ℕ → List Fault
  faults_at bad c = map (λ n. record { class = c; record_number = n.0 }) (keep (λ n. bad n.1) (numbered 0 (group c)))

  -- a member "that isn't allowed"
  unfoldable pub member_allowed : ℕ → ℕ → Bool
  member_allowed d i = bit 0 (flags (get_or (of_kind MEMBER (group d)) i []))

  -- a record against rule 5
  abbrev pub static_breaks : List ℕ → Bool
  static_breaks r = is_static_field r && not (is_final r && satisfies group Powerless (field_ty r))

  -- "Interfaces are judged by 1 to 6 only"; rules 7 to 10 each ask a class that has their marker
  unfoldable pub judged_for : ℕ → ℕ → Bool
  judged_for k c = not (is_interface (group c)) && has_marker group k c

  -- "the root is class 0 or" has the marker
  unfoldable pub root_fits : ℕ → ℕ → Bool
  root_fits k d = eqb d 0 || has_marker group k d

  -- "either the superclass is Selfless, or it is class 0 with flags 2 and 3 set and 4 clear"
  unfoldable pub base_fits : ℕ → ℕ → Bool
  base_fits f s = has_marker group Selfless s || (eqb s 0 && bit 2 f && bit 3 f && not (bit 4 f))

  unfoldable pub base_faults : ℕ → List Fault
  base_faults c = gather (λ s. fault_if (not (base_fits (flags (class_record (group c))) s)) c) (superclasses (group c))

module _ (nlib : ℕ) (group : ℕ → Group) where
  -- a library class "that isn't allowed"
  unfoldable pub forbidden : ℕ → Bool
  forbidden d = ltb d nlib && not (is_allowed (group d))

  -- the slots that fail a test
  unfoldable pub slot_faults : (Slot → Bool) → ℕ → List Fault
  slot_faults ok c = map slot_fault (keep (λ s. not (ok s)) (slots nlib group c))

  unfoldable pub root_faults : ℕ → ℕ → List Fault
  root_faults k c = gather (λ d. fault_if (not (root_fits group k d)) d) (root nlib group c)

  -- 1. "No record names a library class that isn't allowed"
  unfoldable pub rule1 : ℕ → List Fault
  rule1 c = faults_at group (λ r. any forbidden (references r)) c

  -- 2. "No REFERS to a member that isn't allowed"
  unfoldable pub rule2 : ℕ → List Fault
  rule2 c = faults_at group (λ r. is_kind REFERS r && not (member_allowed group (target r) (index r))) c

  -- 3. "Own marks hold none of Token, Throwable, Enum"
  unfoldable pub rule3 : ℕ → List Fault
  rule3 c = let m = own_markers (class_record (group c)) in fault_if (bit Token m || bit Throwable m || bit Enum m) c

  -- 4. "Overlay marks don't clash"
  unfoldable pub rule4 : ℕ → List Fault
  rule4 c = fault_if (clash (overlay group c)) c

  -- 5. 02, C-11: "a static field must be final and of a Powerless type"
  unfoldable pub rule5 : ℕ → List Fault
  rule5 c = faults_at group (static_breaks group) c

  -- 6. "None of the flags 5 to 7"
  unfoldable pub rule6 : ℕ → List Fault
  rule6 c = let f = flags (class_record (group c)) in fault_if (bit 5 f || bit 6 f || bit 7 f) c

  -- 7. "If Immutable: every field slot is final, every slot's type is Immutable, the root is class 0 or Immutable"
  unfoldable pub rule7 : ℕ → List Fault
  rule7 c = only_if (judged_for group Immutable c) (slot_faults (λ s. s.final && satisfies group Immutable s.type) c ++ root_faults Immutable c)

  -- 8. "If Powerless: every slot's type is Powerless, the root is class 0 or Powerless"
  unfoldable pub rule8 : ℕ → List Fault
  rule8 c = only_if (judged_for group Powerless c) (slot_faults (λ s. satisfies group Powerless s.type) c ++ root_faults Powerless c)

  -- 9. "If Selfless: every field slot is final and not transient; and either the superclass is Selfless, or it is class 0 with flags 2 and 3 set and 4 clear"
  unfoldable pub rule9 : ℕ → List Fault
  rule9 c = only_if (judged_for group Selfless c) (slot_faults (λ s. s.final && not s.transient) c ++ base_faults group c)

  -- 10. "If DeepSelfless: every slot's type is DeepSelfless, the root is class 0 or DeepSelfless"
  unfoldable pub rule10 : ℕ → List Fault
  rule10 c = only_if (judged_for group DeepSelfless c) (slot_faults (λ s. satisfies group DeepSelfless s.type) c ++ root_faults DeepSelfless c)

  unfoldable pub rules : ℕ → List (List Fault)
  rules c = rule1 c ∷ rule2 c ∷ rule3 c ∷ rule4 c ∷ rule5 c ∷ rule6 c ∷ rule7 c ∷ rule8 c ∷ rule9 c ∷ rule10 c ∷ []

-- the first broken rule, counted from n, and the first of its faults. Those of rules 1 to 6 stand in record order, those of rules 7 to 10 in the order of the slots, which is that
-- of the walk; the root comes after them, and rule 9's second part.
unfoldable pub first_broken : ℕ → List (List Fault) → Verdict
first_broken n [] = clean
first_broken n (fs ∷ rest) = elim fs [ [] ↦ first_broken (suc n) rest | f ∷ more ↦ record { rule = n; record_number = f.record_number; class = f.class } ]

module _ (nlib : ℕ) (group : ℕ → Group) where
  unfoldable pub verdict_of : ℕ → Verdict
  verdict_of c = first_broken 1 (rules nlib group c)

-- ---- "C stands on D if D is C, or a chain of namings (any record) leads from C to D"; here: c depends on d
unfoldable pub dependencies : (ℕ → Group) → ℕ → List ℕ
dependencies group c = reach (λ d. group_references (group d)) c
