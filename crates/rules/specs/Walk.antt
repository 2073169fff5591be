-- The judging of one class as a walk over rules, classes and records: the classes that a rule asks, and what it finds in each of them.
-- Assumes nothing.
use Rattle.std.specs.Prelude.{◌≡◌, Bool, true, false, ◌||◌, Option, None, Some, List, [], ◌∷◌, ◌++◌, map, ℕ, ltb, get_or, length, take}
use Rattle.spec.specs.Lists.{keep, gather, numbered, only_if}
use Rattle.spec.specs.Record.{bit, superclass}
use Rattle.spec.specs.Sheet.{Group, class_record}
use Rattle.spec.specs.Classes.{lineage, root}
use Rattle.spec.specs.Rules.{Fault, fault_if, judged_for}
use Rattle.records.specs.Kinds.{optional}
use Rattle.slots.specs.declared.Late.{Late as LateRule}
use Rattle.slots.specs.Slots.{rule_marker}
use Rattle.breaks.specs.declared.rule.TheConstants.{RULES}
use Rattle.breaks.specs.declared.rule.Rule.{Rule}
use Rattle.breaks.specs.declared.rule.Rule.TheVariants.{Classes, Late}
use Rattle.breaks.specs.Breaking.{late_of, asks_first, breaks_at}
use Rattle.breaks.specs.Beyond.{captured_at, base_at}

-- the rules in their order, counted from 0
abbrev pub rule_at : ℕ → Rule
rule_at i = get_or RULES i Classes

-- the rule asks class c
abbrev pub applies : (ℕ → Group) → Rule → ℕ → Bool
applies g rule c = elim (late_of rule) [ None ↦ true | Some late ↦ judged_for g (rule_marker late) c ]

-- the CLASS record alone is asked: of the root, and by rules 3, 4 and 6
unfoldable pub only_first : ℕ → Rule → ℕ → Bool
only_first nlib rule t = asks_first rule || ltb t nlib

-- those of some records that the rule asks of class t
unfoldable pub asked_of : ℕ → Rule → ℕ → Group → Group
asked_of nlib rule t rs = elim (only_first nlib rule t) [ true ↦ take 1 rs | false ↦ rs ]

module _ (nlib : ℕ) (g : ℕ → Group) where
  -- ---- one class

  abbrev pub asked : Rule → ℕ → Group
  asked rule t = asked_of nlib rule t (g t)

  -- those of some records, the first with number k, that break the rule
  unfoldable pub found_in : Rule → ℕ → ℕ → Group → List Fault
  found_in rule t k rs = map (λ n. record { class = t; record_number = n.0 }) (keep (λ n. breaks_at nlib g rule t n.0 n.1) (numbered k rs))

  -- its records, then its captured variables
  unfoldable pub found : Rule → ℕ → List Fault
  found rule t = found_in rule t 0 (asked rule t) ++ captured_at nlib g rule t

  -- ---- the classes

  -- class t and its superclasses up to the root
  unfoldable pub above : ℕ → List ℕ
  above t = lineage nlib g t ++ root nlib g t

  -- the classes that a rule asks in the judging of c: "own class, then upward"
  abbrev pub order : Rule → ℕ → List ℕ
  order rule c = elim (late_of rule) as (λ (_ : Option LateRule). List ℕ) [ None ↦ c ∷ [] | Some late ↦ above c ]

  -- what comes after class t
  abbrev pub afterward : Rule → ℕ → List ℕ
  afterward rule t = elim (late_of rule) as (λ (_ : Option LateRule). List ℕ) [
    | None ↦ []
    | Some late ↦ elim (ltb t nlib) [ true ↦ [] | false ↦ above (superclass (class_record (g t))) ]
  ]

  -- class t, if there is one, and what comes after it
  abbrev pub classes_from : Rule → Option ℕ → List ℕ
  classes_from rule None = []
  classes_from rule (Some t) = t ∷ afterward rule t

  -- what the rule finds in them
  abbrev pub from_class : Rule → Option ℕ → List Fault
  from_class rule class = gather (found rule) (classes_from rule class)

  -- "a fault of rule 9's second part .. comes last"
  abbrev pub last : Rule → ℕ → List Fault
  last rule c = fault_if (base_at g rule c) c

  unfoldable pub walked : Rule → ℕ → List Fault
  walked rule c = only_if (applies g rule c) (gather (found rule) (order rule c) ++ last rule c)

-- the class after t, whose records these are
abbrev pub next_class : ℕ → Rule → ℕ → Group → Option ℕ
next_class nlib rule t h = elim (late_of rule) as (λ (_ : Option LateRule). Option ℕ) [
  | None ↦ None
  | Some late ↦ elim (ltb t nlib) [ true ↦ None | false ↦ optional (superclass (class_record h)) ]
]

-- ---- what earlier walks found

-- the row has of each class a set of markers; one that is there says that nothing is found in the class under its rule
unfoldable pub kept_at : List ℕ → LateRule → ℕ → Bool
kept_at row rule t = bit (rule_marker rule) (get_or row t 0)

pub record KeptOf (Q : Rule → ℕ → Type 0) (row : List ℕ) : Type 0 where
  pub long : length row ≡ 256
  pub is : (rule : LateRule) (t : ℕ) → kept_at row rule t ≡ true → Q (Late rule) t

-- of class t alone
abbrev pub Kept : ℕ → (ℕ → Group) → List ℕ → Type 0
Kept nlib g = KeptOf (λ rule t. found nlib g rule t ≡ [])

-- of class t and all above it
abbrev pub Cleared : ℕ → (ℕ → Group) → List ℕ → Type 0
Cleared nlib g = KeptOf (λ rule t. from_class nlib g rule (Some t) ≡ [])

-- so it is kept of class t
abbrev pub sound : List ℕ → Rule → ℕ → Bool
sound row rule t = elim (late_of rule) [ None ↦ false | Some late ↦ kept_at row late t ]
