-- The fields of a class: the set of one, and of all.
-- Assumes nothing.
use mathlib.Core.Path.{◌≡◌, refl, sym, ap, ap₂, ◌∙◌}
use mathlib.Core.Bool.{Bool, true, false, not, ◌&&◌, ◌||◌, and-true}
use mathlib.Core.List.{List, [], ◌∷◌}
use Prim.Native.Nat.{ℕ, ◌<◌}
use native.Mathlib.Omega.{arith}
use borrow.Author.Tests.{eq-eqb}
use Rattle.spec.specs.Lists.{any}
use Rattle.spec.specs.Record.{bit, kind, is_kind, FIELD, flags, field_ty, is_final, is_transient, is_static}
use Rattle.spec.specs.Sheet.{Group, is_instance_field}
use Rattle.spec.specs.Classes.{Slot, field_slot, satisfies}
use Rattle.records.specs.declared.record.Ty.{Ty}
use Rattle.records.specs.declared.record.Body.{Body}
use Rattle.records.specs.declared.record.Body.TheVariants.{Field}
use Rattle.records.specs.Kinds.{Reads, spec_ty}
use Rattle.records.proofs.Bodies.{is_not, not_field}
use Rattle.overlay.specs.Types.{Known, row_markers, type_markers}
use Rattle.overlay.proofs.Types.{row_markers_lem, satisfies_bit}
use Rattle.slots.specs.declared.Late.{Late}
use Rattle.slots.specs.declared.Late.TheVariants.{Immutable, Powerless, Selfless, DeepSelfless}
use Rattle.slots.specs.Slots.{rule_marker, slot_fits, field_breaks, Passes, slot_by, FieldSet, FieldsSet}
use Rattle.slots.proofs.Sets.{twice, passes_all, passes_as}

-- ---- one field

-- where a field stands in its class does not count
pub anywhere : (g : ℕ → Group) (rule : Late) (t k : ℕ) (r : List ℕ) → field_breaks g rule 0 0 r ≡ field_breaks g rule t k r
unfolding field_breaks field_slot
anywhere g Immutable t k r = refl
anywhere g Powerless t k r = refl
anywhere g Selfless t k r = refl
anywhere g DeepSelfless t k r = refl

-- no field has no slot
pub field_other : (g : ℕ → Group) (rule : Late) (t i : ℕ) (r : List ℕ) → is_kind FIELD r ≡ false → field_breaks g rule t i r ≡ false
unfolding field_breaks is_instance_field
field_other g rule t i r n = rw n

-- a slot by the two flags and the markers of the type
slot_is : (g : ℕ → Group) (f m : ℕ) (s : Slot) → s.final ≡ bit 0 f → s.transient ≡ bit 1 f → ((j : ℕ) → j < 8 → satisfies g j s.type ≡ bit j m) → (rule : Late) → slot_fits g rule s ≡ slot_by f m rule
slot_is g f m s ef et sat Immutable = ap₂ (λ (a b : Bool). a && b) ef (sat 0 (omega arith))
slot_is g f m s ef et sat Powerless = sat 1 (omega arith)
slot_is g f m s ef et sat Selfless = ap₂ (λ (a b : Bool). a && not b) ef et
slot_is g f m s ef et sat DeepSelfless = sat 7 (omega arith)

module _ (r : List ℕ) {f : ℕ} {ty : Ty} (w : Reads r (Field f ty)) where
  is_field : is_kind FIELD r ≡ true
  is_field = eq-eqb (kind r) FIELD w.0

  -- nor has a static one
  pub field_static : (g : ℕ → Group) (rule : Late) (t i : ℕ) → bit 2 f ≡ true → field_breaks g rule t i r ≡ false
  unfolding field_breaks is_instance_field is_static
  field_static g rule t i h = rw (is_field, ← w.1, h)

  -- another one is the slot of its flags and its type
  pub field_own : {g : ℕ → Group} {row : List ℕ} → Known g row → (rule : Late) (t i : ℕ) → bit 2 f ≡ false → {m : ℕ} → m ≡ row_markers row (spec_ty ty)
      → field_breaks g rule t i r ≡ not (slot_by f m rule)
  unfolding field_breaks is_instance_field is_static field_slot is_final is_transient
  field_own {g} {row} k rule t i h {m} em =
      let stat : bit 2 (flags r) ≡ false = ap (bit 2) (sym w.1) ∙ h in
      rw (is_field, stat) (ap not (slot_is g f m (field_slot t (i, r)) (ap (bit 0) (sym w.1)) (ap (bit 1) (sym w.1)) sat rule))
    where
      same : m ≡ type_markers g (field_ty r)
      same = em ∙ ap (λ (y : Ty). row_markers row (spec_ty y)) w.2 ∙ row_markers_lem k (field_ty r)

      sat : (j : ℕ) → j < 8 → satisfies g j (field_ty r) ≡ bit j m
      sat j l = satisfies_bit g j (field_ty r) l ∙ ap (bit j) (sym same)

pub static_set : {row : List ℕ} {f : ℕ} {ty : Ty} → bit 2 f ≡ true → FieldSet row f ty 255
static_set h = record { is = λ r w g k. passes_all (λ rule. ap not (field_static r w g rule 0 0 h)) }

pub instance_set : {row : List ℕ} {f : ℕ} {ty : Ty} → bit 2 f ≡ false → {m : ℕ} → m ≡ row_markers row (spec_ty ty) → {set : ℕ} → Passes (slot_by f m) set → FieldSet row f ty set
instance_set {f = f} h {m} em s = record { is = λ r w g k. passes_as s (λ rule. sym (ap not (field_own r w k rule 0 0 h em) ∙ twice (slot_by f m rule))) }

-- ---- all of them

-- the set, and what is left of the records, tell of all records
pub record Fielding (row : List ℕ) (all : Group) (set : ℕ) (left : Group) : Type 0 where
  pub rest : (g : ℕ → Group) → Known g row → (rule : Late)
      → (bit (rule_marker rule) set && not (any (field_breaks g rule 0 0) left)) ≡ not (any (field_breaks g rule 0 0) all)

pub fielding_start : {row : List ℕ} {all left : Group} → left ≡ all → Fielding row all 255 left
fielding_start {all = all} e = record {
  rest = λ g k rule.
      ap (λ (rs : Group). bit (rule_marker rule) 255 && not (any (field_breaks g rule 0 0) rs)) e
      ∙ ap (λ (b : Bool). b && not (any (field_breaks g rule 0 0) all)) ((passes_all {P = λ i. true} (λ i. refl)).is rule);
}

module _ {row : List ℕ} {all : Group} {set : ℕ} {left : Group} (w : Fielding row all set left) where
  pub fielding_end : left ≡ [] → FieldsSet row all set
  unfolding any
  fielding_end e = record {
    is = λ g k. record {
      is = λ rule.
          sym (and-true (bit (rule_marker rule) set)) ∙ ap (λ (rs : Group). bit (rule_marker rule) set && not (any (field_breaks g rule 0 0) rs)) (sym e) ∙ w.rest g k rule;
    };
  }

  module _ {r : List ℕ} {left' : Group} (e : left ≡ r ∷ left') where
    next : {s : ℕ} → ((g : ℕ → Group) → Known g row → (rule : Late) → bit (rule_marker rule) s ≡ (bit (rule_marker rule) set && not (field_breaks g rule 0 0 r))) → Fielding row all s left'
    unfolding any
    next {s} h = record {
      rest = λ g k rule.
          let fb : List ℕ → Bool = field_breaks g rule 0 0 in
          ap (λ (b : Bool). b && not (any fb left')) (h g k rule) ∙ both (bit (rule_marker rule) set) (fb r) (any fb left')
          ∙ ap (λ (rs : Group). bit (rule_marker rule) set && not (any fb rs)) (sym e) ∙ w.rest g k rule;
    }
      where
        both : (a b c : Bool) → ((a && not b) && not c) ≡ (a && not (b || c))
        both true true c = refl
        both true false c = refl
        both false b c = refl

    pub fielding_other : (b : Body) → Reads r b → ((f : ℕ) (t : Ty) → b ≡ Field f t → ⊥) → Fielding row all set left'
    fielding_other b q n =
        next (λ g _ rule. sym (and-true (bit (rule_marker rule) set))
        ∙ ap (λ (b : Bool). bit (rule_marker rule) set && not b) (sym (field_other g rule 0 0 r (is_not r b q (not_field b n)))))

    pub fielding_field : {f : ℕ} {ty : Ty} → Reads r (Field f ty) → {one : ℕ} → FieldSet row f ty one → {s : ℕ} → ((j : ℕ) → bit j s ≡ (bit j set && bit j one)) → Fielding row all s left'
    fielding_field q o h = next (λ g k rule. h (rule_marker rule) ∙ ap (λ (b : Bool). bit (rule_marker rule) set && b) ((o.is r q g k).is rule))
