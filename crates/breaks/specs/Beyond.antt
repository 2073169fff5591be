-- Captured variables and rule 9's second part: what breaks rules 7 to 10 beyond the records of a class.
-- Assumes nothing.
use Rattle.std.specs.Prelude.{Bool, true, false, Option, None, Some, List, [], ◌∷◌, ℕ, ltb}
use Rattle.spec.specs.Sheet.{Group}
use Rattle.spec.specs.Rules.{Fault}
use Rattle.captured.specs.declared.Lane.{Lane}
use Rattle.slots.specs.declared.Late.{Late as LateRule}
use Rattle.slots.specs.declared.Late.TheVariants as late
use Rattle.slots.specs.Slots.{base_breaks, captured_faults, late_lane}
use Rattle.breaks.specs.declared.beyond.Site.{Site}
use Rattle.breaks.specs.declared.rule.Rule.{Rule}
use Rattle.breaks.specs.Breaking.{late_of}

abbrev pub fault_at : Site → Fault
fault_at s = record { class = s.class; record_number = s.number }

abbrev pub first_fault : List Fault → Option Fault
first_fault [] = None
first_fault (f ∷ fs) = Some f

-- the lane that a rule asks
abbrev pub lane_of : Rule → Option Lane
lane_of rule = elim (late_of rule) as (λ (_ : Option LateRule). Option Lane) [ None ↦ None | Some l ↦ late_lane l ]

-- the captured variables of class t that break the rule, where they are declared; a root has none
abbrev pub captured_at : ℕ → (ℕ → Group) → Rule → ℕ → List Fault
captured_at nlib g rule t = elim (late_of rule) as (λ (_ : Option LateRule). List Fault) [ None ↦ [] | Some l ↦ elim (ltb t nlib) [ true ↦ [] | false ↦ captured_faults g l t ] ]

abbrev late_base : (ℕ → Group) → LateRule → ℕ → Bool
late_base g late.Immutable c = false
late_base g late.Powerless c = false
late_base g late.Selfless c = base_breaks g c
late_base g late.DeepSelfless c = false

-- rule 9's second part, of class c
abbrev pub base_at : (ℕ → Group) → Rule → ℕ → Bool
base_at g rule c = elim (late_of rule) [ None ↦ false | Some l ↦ late_base g l c ]
