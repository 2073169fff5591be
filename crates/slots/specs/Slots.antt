-- Slots against rules 7 to 10: as the definitions have them, and as sets of the markers whose rules a slot passes.
-- Assumes nothing.
use Rattle.std.specs.Prelude.{◌≡◌, Bool, true, false, not, ◌&&◌, ◌||◌, Option, None, Some, is_some, List, [], ◌∷◌, map, ℕ, ◌-◌, ◌^◌, ◌≤◌, ◌<◌, eqb, ltb, get_or}
use Rattle.std.specs.Option.{unwrap_or}
use Rattle.spec.specs.Lists.{any, keep}
use Rattle.spec.specs.Record.{bit, none16, flags}
use Rattle.spec.specs.Sheet.{Group, class_record, is_instance_field}
use Rattle.spec.specs.Markers as marker
use Rattle.spec.specs.Classes.{Slot, field_slot, superclasses, satisfies, encloser_slots, captured_slots, own_slots}
use Rattle.spec.specs.Rules.{Fault, slot_fault, root_fits, base_fits}
use Rattle.records.specs.declared.record.Ty.{Ty}
use Rattle.records.specs.declared.record.Head.{Head}
use Rattle.records.specs.declared.record.Body.TheVariants.{Field}
use Rattle.records.specs.Kinds.{Reads}
use Rattle.lanes.specs.Lanes.{words, entry_at}
use Rattle.overlay.specs.Types.{Known}
use Rattle.captured.specs.declared.Lane.{Lane}
use Rattle.captured.specs.declared.Lane.TheVariants as lane
use Rattle.captured.specs.Captured.{lane_marker, lane_place, variable_of}
use Rattle.slots.specs.declared.Late.{Late}
use Rattle.slots.specs.declared.Late.TheVariants.{Immutable, Powerless, Selfless, DeepSelfless}

abbrev pub rule_number : Late → ℕ
rule_number Immutable = 7
rule_number Powerless = 8
rule_number Selfless = 9
rule_number DeepSelfless = 10

abbrev pub rule_marker : Late → ℕ
rule_marker Immutable = marker.Immutable
rule_marker Powerless = marker.Powerless
rule_marker Selfless = marker.Selfless
rule_marker DeepSelfless = marker.DeepSelfless

-- the marker of a rule by its number; a number past 10 is asked as 10
abbrev pub number_marker : ℕ → ℕ
number_marker rule = get_or (marker.Immutable ∷ marker.Powerless ∷ marker.Selfless ∷ []) (rule - 7) marker.DeepSelfless

module _ (g : ℕ → Group) where
  -- ---- one record of one class

  -- a slot passes the rule
  abbrev pub slot_fits : Late → Slot → Bool
  slot_fits Immutable s = s.final && satisfies g marker.Immutable s.type
  slot_fits Powerless s = satisfies g marker.Powerless s.type
  slot_fits Selfless s = s.final && not s.transient
  slot_fits DeepSelfless s = satisfies g marker.DeepSelfless s.type

  -- record 0: the encloser
  unfoldable pub encloser_breaks : Late → ℕ → Bool
  encloser_breaks rule t = any (λ s. not (slot_fits rule s)) (encloser_slots g t)

  -- the captured variables that fail, where they are declared
  unfoldable pub captured_faults : Late → ℕ → List Fault
  captured_faults rule t = map slot_fault (keep (λ s. not (slot_fits rule s)) (captured_slots g t))

  -- record 0 of the root
  abbrev pub root_breaks : Late → ℕ → Bool
  root_breaks Immutable d = not (root_fits g marker.Immutable d)
  root_breaks Powerless d = not (root_fits g marker.Powerless d)
  root_breaks Selfless d = false
  root_breaks DeepSelfless d = not (root_fits g marker.DeepSelfless d)

  -- record 0 of the class itself: rule 9's second part
  unfoldable pub base_breaks : ℕ → Bool
  base_breaks c = any (λ s. not (base_fits g (flags (class_record (g c))) s)) (superclasses (g c))

  -- the other records
  unfoldable pub field_breaks : Late → ℕ → ℕ → List ℕ → Bool
  field_breaks rule t k r = is_instance_field r && not (slot_fits rule (field_slot t (k, r)))

  -- the own slots of class t
  unfoldable pub slots_break : Late → ℕ → Bool
  slots_break rule t = any (λ s. not (slot_fits rule s)) (own_slots g t)

-- record 0 of class t: as a root, or by its encloser
unfoldable pub head_breaks : ℕ → (ℕ → Group) → Late → ℕ → Bool
head_breaks nlib g rule t = elim (ltb t nlib) [ true ↦ root_breaks g rule t | false ↦ encloser_breaks g rule t ]

-- ---- sets: 1 Immutable, 2 Powerless, 4 Selfless, 128 DeepSelfless

-- the set has the markers of just the rules that P passes
pub record Passes (P : Late → Bool) (set : ℕ) : Type 0 where
  pub is : (rule : Late) → bit (rule_marker rule) set ≡ P rule

-- a slot passes the rule, by the flags of its field and the markers of its type
abbrev pub slot_by : ℕ → ℕ → Late → Bool
slot_by f m Immutable = bit 0 f && bit marker.Immutable m
slot_by f m Powerless = bit marker.Powerless m
slot_by f m Selfless = bit 0 f && not (bit 1 f)
slot_by f m DeepSelfless = bit marker.DeepSelfless m

-- a field with these flags and this type, and all those of some records, by a row of overlay markers
pub record FieldSet (row : List ℕ) (f : ℕ) (ty : Ty) (set : ℕ) : Type 0 where
  pub is : (r : List ℕ) → Reads r (Field f ty) → (g : ℕ → Group) → Known g row → Passes (λ rule. not (field_breaks g rule 0 0 r)) set

pub record FieldsSet (row : List ℕ) (rs : Group) (set : ℕ) : Type 0 where
  pub is : (g : ℕ → Group) → Known g row → Passes (λ rule. not (any (field_breaks g rule 0 0) rs)) set

-- class d as a root
pub record RootSet (row : List ℕ) (d set : ℕ) : Type 0 where
  pub is : (g : ℕ → Group) → Known g row → Passes (λ rule. not (root_breaks g rule d)) set

-- Enclosers and captured variables never change, so rule 9 does not ask them; each other rule asks a marker, that of a lane.
abbrev pub late_lane : Late → Option Lane
late_lane Immutable = Some lane.Immutable
late_lane Powerless = Some lane.Powerless
late_lane Selfless = None
late_lane DeepSelfless = Some lane.DeepSelfless

-- the encloser of a class that is inner; the class is given by what its CLASS record says. A class that is none is asked by the number that says so:
-- past the end of a row there is no marker
abbrev pub encloser_has : Head → List ℕ → ℕ → Bool
encloser_has head row k = not (bit 1 head.flags) || bit k (get_or row (unwrap_or head.encloser none16) 0)

abbrev pub encloser_by : Head → List ℕ → Late → Bool
encloser_by head row rule = elim (late_lane rule) [ None ↦ true | Some l ↦ encloser_has head row (lane_marker l) ]

-- inner, and no encloser is named: there is no slot to ask. No class of an accepted sheet is so
abbrev pub unenclosed : Head → Bool
unenclosed head = bit 1 head.flags && not (is_some head.encloser)

-- the variables that class t captures: a lane shows that one lacks the lane's marker
abbrev pub lane_shows : List ℕ → ℕ → Lane → Bool
lane_shows row t lane = is_some (variable_of (entry_at (words row) (lane_place lane) t))

abbrev pub captured_by : List ℕ → ℕ → Late → Bool
captured_by row t rule = elim (late_lane rule) [ None ↦ true | Some l ↦ not (lane_shows row t l) ]

-- by one lane alone, as a set
unfoldable pub lane_by : List ℕ → ℕ → Lane → ℕ
lane_by row t lane = elim (lane_shows row t lane) [ true ↦ 255 - 2 ^ lane_marker lane | false ↦ 255 ]

-- rule 9's second part, by what the CLASS record says: a superclass is Selfless, or it is class 0 and the flags are right
abbrev pub base_by : Head → List ℕ → Bool
base_by head markers =
    let s = unwrap_or head.superclass none16 in
    not (bit marker.Selfless (get_or markers s 0) || (eqb s 0 && bit 2 head.flags && bit 3 head.flags && not (bit 4 head.flags)))

-- record 0 of class t: as a root, or by its encloser
pub record HeadSet (markers : List ℕ) (head : Head) (nlib t set : ℕ) : Type 0 where
  pub root : t < nlib → RootSet markers t set
  pub own : nlib ≤ t → Passes (encloser_by head markers) set
