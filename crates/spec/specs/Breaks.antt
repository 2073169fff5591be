-- "Class c breaks rule r": the ten sentences of document 01, one clause a rule, each with the fault's place in the walk, its class and its record (02, C-16).
-- Assumes nothing.
use Rattle.std.specs.Prelude.{◌≡◌, ◌⊎◌, ◌≢◌, ℕ, ◌<◌, T}
use mathlib.Core.List.{List, [], ◌∷◌, Memᴰ}
use Rattle.spec.specs.Record.{bit, is_kind, FIELD, LOCAL, MEMBER, REFERS, flags, own_markers, target, index, Ty, field_ty, local_ty, is_final, is_transient, is_static, references}
use Rattle.spec.specs.Sheet.{Group}
use Rattle.spec.specs.Markers.{Immutable, Powerless, Selfless, Equatable, Token, Throwable, Enum, DeepSelfless}
use Rattle.spec.specs.Relations.{At, Superclass, Encloser, Nth, Marked, Lineage, Root, Captures}

abbrev pub Not : Type 0 → Type 0
Not P = P → ⊥

-- flag k of the class whose group it is: its CLASS record is record 0
pub record Flag (k : ℕ) (g : Group) : Type 0 where
  pub bytes : List ℕ
  pub first : At g 0 bytes
  pub set : T (bit k (flags bytes))

-- "A type without dimensions has its class's overlay marks; a primitive one satisfies every mark that a rule below asks. An array satisfies none of those."
pub data Satisfies (group : ℕ → Group) (k : ℕ) (t : Ty) : Type 0 where
  object : t.dims ≡ 0 → t.code ≡ 0 → Marked group t.class k → Satisfies group k t
  primitive : t.dims ≡ 0 → t.code ≢ 0 → Satisfies group k t

-- MEMBER number i of the group is allowed: "flags u16 (bit 0 allowed)"
pub record Allowed (g : Group) (i : ℕ) : Type 0 where
  pub record_number : ℕ
  pub bytes : List ℕ
  pub member : Nth MEMBER g i record_number bytes
  pub set : T (bit 0 (flags bytes))

-- ---- slots

-- what a rule asks of a slot: a field's record, which says whether it is final and transient, or the type of a slot that never changes
pub data SlotShape : Type 0 where
  field : List ℕ → SlotShape
  fixed : Ty → SlotShape

abbrev pub type_of : SlotShape → Ty
type_of (field r) = field_ty r
type_of (fixed t) = t

abbrev pub Final : SlotShape → Type 0
Final (field r) = T (is_final r)
Final (fixed t) = Unit {0}

abbrev pub Transient : SlotShape → Type 0
Transient (field r) = T (is_transient r)
Transient (fixed t) = ⊥

-- "The slots of a class are its instance fields, its encloser if it is inner, its captured variables": each with its place among those of its class, and the class and the record
-- where its fault sits. 02, C-16: "in each the encloser (record 0), FIELDs in order, captured variables by class and index (place: the LOCAL, class: its owner)"
pub data OwnSlot (group : ℕ → Group) (t : ℕ) : List ℕ → ℕ → ℕ → SlotShape → Type 0 where
  outer : {e : ℕ} → Flag 1 (group t) → Encloser (group t) e → OwnSlot group t (0 ∷ []) t 0 (fixed (record { dims = 0; code = 0; class = e }))
  instance : {k : ℕ} {r : List ℕ} → At (group t) k r → T (is_kind FIELD r) → Not (T (is_static r)) → OwnSlot group t (1 ∷ k ∷ []) t k (field r)
  captured : {d i k : ℕ} {r : List ℕ} → Captures group t d i → Nth LOCAL (group d) i k r → OwnSlot group t (2 ∷ d ∷ i ∷ []) d k (fixed (local_ty r))

-- "and those of each user superclass upward": "own class, then upward"
pub data HasSlot (nlib : ℕ) (group : ℕ → Group) (c : ℕ) : List ℕ → ℕ → ℕ → SlotShape → Type 0 where
  of : {h t d k : ℕ} {w : List ℕ} {s : SlotShape} → Lineage nlib group c h t → OwnSlot group t w d k s → HasSlot nlib group c (h ∷ w) d k s

-- ---- the rules. A fault has its place in the walk, the class and the record where it sits. In the walk of rules 7 to 10 the slots come first (0), then the root (1), then rule 9's
-- second part (2); rules 1 to 6 go by the records of the class itself.

module _ (nlib : ℕ) (group : ℕ → Group) where
  -- "every slot's type is", "the root is class 0 or": this part of rules 7, 8 and 10 is broken for marker m. "then a root fault, naming the root and 0"
  pub data Lacks (m c : ℕ) : List ℕ → ℕ → ℕ → Type 0 where
    slot : {w : List ℕ} {d k : ℕ} {s : SlotShape} → HasSlot nlib group c w d k s → Not (Satisfies group m (type_of s)) → Lacks m c (0 ∷ w) d k
    root : {d : ℕ} → Root nlib group c d → d ≢ 0 → Not (Marked group d m) → Lacks m c (1 ∷ []) d 0

  -- "every field slot is final", broken
  pub data Varies (c : ℕ) : List ℕ → ℕ → ℕ → Type 0 where
    slot : {w : List ℕ} {d k : ℕ} {s : SlotShape} → HasSlot nlib group c w d k s → Not (Final s) → Varies c (0 ∷ w) d k

  -- "and not transient", broken
  pub data Drops (c : ℕ) : List ℕ → ℕ → ℕ → Type 0 where
    slot : {w : List ℕ} {d k : ℕ} {s : SlotShape} → HasSlot nlib group c w d k s → Transient s → Drops c (0 ∷ w) d k

  -- "either the superclass is Selfless, or it is class 0 with flags 2 and 3 set and 4 clear"
  pub data SelflessBase (c s : ℕ) : Type 0 where
    marked : Marked group s Selfless → SelflessBase c s
    overrides : s ≡ 0 → Flag 2 (group c) → Flag 3 (group c) → Not (Flag 4 (group c)) → SelflessBase c s

  -- "a fault of rule 9's second part names the class and 0 and comes last"
  pub data UnfitBase (c : ℕ) : List ℕ → ℕ → ℕ → Type 0 where
    unfit : {s : ℕ} → Superclass (group c) s → Not (SelflessBase c s) → UnfitBase c (2 ∷ []) c 0

  -- "Interfaces are judged by 1 to 6 only": c is no interface and has the marker
  pub record Claims (m c : ℕ) : Type 0 where
    pub class : Not (Flag 0 (group c))
    pub marked : Marked group c m

  -- class c breaks a rule: where in the walk, in which class, at which record. "For rules 1 to 6 it is the class itself"
  pub data Breaks (c : ℕ) : ℕ → List ℕ → ℕ → ℕ → Type 0 where
    -- 1. "No record names a library class that isn't allowed"
    rule1 : {k d : ℕ} {r : List ℕ} → At (group c) k r → Memᴰ d (references r) → d < nlib → Not (Flag 8 (group d)) → Breaks c 1 (k ∷ []) c k
    -- 2. "No REFERS to a member that isn't allowed"
    rule2 : {k : ℕ} {r : List ℕ} → At (group c) k r → T (is_kind REFERS r) → Not (Allowed (group (target r)) (index r)) → Breaks c 2 (k ∷ []) c k
    -- 3. "Own marks hold none of Token, Throwable, Enum"
    rule3 : {r : List ℕ} → At (group c) 0 r → T (bit Token (own_markers r)) ⊎ (T (bit Throwable (own_markers r)) ⊎ T (bit Enum (own_markers r))) → Breaks c 3 (0 ∷ []) c 0
    -- 4. "Overlay marks don't clash": "Powerless with Token, Selfless with Equatable"
    rule4 : (Marked group c Powerless × Marked group c Token) ⊎ (Marked group c Selfless × Marked group c Equatable) → Breaks c 4 (0 ∷ []) c 0
    -- 5. 02, C-11: "a static field must be final and of a Powerless type"
    rule5 : {k : ℕ} {r : List ℕ} → At (group c) k r → T (is_kind FIELD r) → T (is_static r) → Not (T (is_final r) × Satisfies group Powerless (field_ty r)) → Breaks c 5 (k ∷ []) c k
    -- 6. "None of the flags 5 to 7"
    rule6 : Flag 5 (group c) ⊎ (Flag 6 (group c) ⊎ Flag 7 (group c)) → Breaks c 6 (0 ∷ []) c 0
    -- 7. "If Immutable: every field slot is final, every slot's type is Immutable, the root is class 0 or Immutable"
    rule7 : {w : List ℕ} {d k : ℕ} → Claims Immutable c → Varies c w d k ⊎ Lacks Immutable c w d k → Breaks c 7 w d k
    -- 8. "If Powerless: every slot's type is Powerless, the root is class 0 or Powerless"
    rule8 : {w : List ℕ} {d k : ℕ} → Claims Powerless c → Lacks Powerless c w d k → Breaks c 8 w d k
    -- 9. "If Selfless: every field slot is final and not transient; and either the superclass is Selfless, or it is class 0 with flags 2 and 3 set and 4 clear"
    rule9 : {w : List ℕ} {d k : ℕ} → Claims Selfless c → (Varies c w d k ⊎ Drops c w d k) ⊎ UnfitBase c w d k → Breaks c 9 w d k
    -- 10. "If DeepSelfless: every slot's type is DeepSelfless, the root is class 0 or DeepSelfless"
    rule10 : {w : List ℕ} {d k : ℕ} → Claims DeepSelfless c → Lacks DeepSelfless c w d k → Breaks c 10 w d k
