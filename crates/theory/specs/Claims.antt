-- What is claimed of the definitions, from acceptance alone. Each claim is proved in `proofs/`.
-- Assumes nothing.
use Rattle.std.specs.Prelude.{◌≡◌, ◌↔◌, ◌≢◌, ◌⊎◌, true, false, ℕ, zero, suc, ◌+◌, ◌≤◌, ◌<◌, ◌%◌, T, Some, false, eqb, length, get_or, take, drop}
use mathlib.Core.List.{List, [], ◌∷◌, Memᴰ}
use Rattle.std.proofs.Math.Option.{Option, none, some}
use Rattle.spec.specs.Lists.{concat, elem, reach}
use Rattle.spec.specs.Record.{none16, FIELD, is_kind, is_static, field_ty}
use Rattle.spec.specs.Sheet.{Group, records_of, whole_end, groups_of, class_count, group_start, total, group, class_record}
use Rattle.spec.specs.Markers.{Token}
use Rattle.spec.specs.Classes.{has_marker, inside, lineage, root, builds_inside, captured}
use Rattle.spec.specs.Rules.{Verdict, clean, dependencies}
use Rattle.spec.specs.Relations.{At, Before, Rising, Superclass, Encloser, Implements, References, Depends, Marked, Lineage, Root, Inside, Chain, Captures}
use Rattle.spec.specs.Breaks.{Not, Flag, Breaks}
use Rattle.spec.specs.Refusals.{Refusal, Accepted, added_sheet, replaced_sheet, withdrawn_sheet, last_class, record_numbers, plain_numbers, judge_numbers, add_numbers, replace_numbers}
use Rattle.spec.specs.Refusals.{withdraw_numbers, query_numbers, index_numbers, lookup_numbers, judge_refusal, add_refusal, replace_refusal, withdraw_refusal}
use Rattle.spec.specs.Refusals.{query_refusal, index_refusal, lookup_refusal, sheet_refusal, new_refusal, present_refusal}
use Rattle.spec.specs.Refusals.{empty_refusal, named_refusal, whole_group, record_refusal, torn_refusal, no_class_refusal, name_met}
use Rattle.spec.specs.Index.{index_places, home, name_of, found_in, met_through, names_index, class_named}
use Rattle.spec.specs.Verdicts.{verdict_at}

-- ---- the computed definitions are document 01's relations

pub record Relations (nlib : ℕ) (g : ℕ → Group) : Type 0 where
  -- reach is the chain relation, for references and for BUILDS inside d
  pub depends : (c d : ℕ) → T (elem d (dependencies g c)) ↔ Depends g c d
  pub chain : (d l m : ℕ) → Inside g d l → T (elem m (reach (builds_inside g d) l)) ↔ Chain g d l m
  -- the overlay set is the closure of the own markers of all supertypes
  pub marked : (c k : ℕ) → k < 8 → T (has_marker g k c) ↔ Marked g c k
  pub inside : (d l : ℕ) → T (inside g d l) ↔ Inside g d l
  -- own class first, then upward: it stands as high in the list as there are steps
  pub lineage : (c h t : ℕ) → nlib ≤ c → At (lineage nlib g c) h t ↔ Lineage nlib g c h t
  pub root : (c d : ℕ) → nlib ≤ c → Memᴰ d (root nlib g c) ↔ Root nlib g c d
  -- "captured variables by class and index", each once
  pub captured_order : (l i j d e x y : ℕ) → At (captured g l) i (d, x) → At (captured g l) j (e, y) → i < j → Before (d ∷ x ∷ []) (e ∷ y ∷ [])
  pub captured : (l d i : ℕ) → Memᴰ (d, i) (captured g l) ↔ Captures g l d i

abbrev pub RelationsHold : Type 0
RelationsHold = (library user : List ℕ) (used : ℕ) → Accepted library user used → Relations (class_count library) (group library (take used user))

-- ---- what acceptance gives

-- there is one that P holds of, and only one
pub record One (P : ℕ → Type 0) : Type 0 where
  pub found : ℕ
  pub is : P found
  pub only : (other : ℕ) → P other → other ≡ found

pub record Form (nlib n : ℕ) (g : ℕ → Group) : Type 0 where
  pub library : 1 ≤ nlib
  pub few : n ≤ 256
  pub there : (c d : ℕ) → References (g c) d → d < n
  pub superclass_lower : (c s : ℕ) → Superclass (g c) s → s < c
  pub encloser_lower : (c e : ℕ) → Encloser (g c) e → e < c
  pub implements_lower : (c i : ℕ) → Implements (g c) i → i < c
  -- of a user class that is no interface
  pub superclass : (c : ℕ) → nlib ≤ c → c < n → Not (Flag 0 (g c)) → One (Superclass (g c))
  pub root : (c : ℕ) → nlib ≤ c → c < n → Not (Flag 0 (g c)) → One (Root nlib g c)

abbrev pub FormHolds : Type 0
FormHolds = (library user : List ℕ) (used : ℕ) → Accepted library user used → Form (class_count library) (total library (take used user)) (group library (take used user))

-- ---- demand 2

-- v names the lowest broken rule and, of its faults, the first in the walk, with the class and the record where that sits. `breaks` is told rule, place in the walk, class and record
pub record First (breaks : ℕ → List ℕ → ℕ → ℕ → Type 0) (v : Verdict) : Type 0 where
  pub place : List ℕ
  pub is : breaks v.rule place v.class v.record_number
  pub lowest_rule : (r : ℕ) (w : List ℕ) (d k : ℕ) → breaks r w d k → v.rule ≤ r
  pub first : (w : List ℕ) (d k : ℕ) → breaks v.rule w d k → (w ≡ place) ⊎ Before place w

-- v is right about what a class breaks: clean exactly if it breaks no rule anywhere, else as above
pub record Right (breaks : ℕ → List ℕ → ℕ → ℕ → Type 0) (v : Verdict) : Type 0 where
  pub cleanly : (v ≡ clean) ↔ ((r : ℕ) (w : List ℕ) (d k : ℕ) → Not (breaks r w d k))
  pub broken : Not (v ≡ clean) → First breaks v

abbrev pub Demand2 : Type 0
Demand2 =
    (library user : List ℕ) (used : ℕ) → Accepted library user used
    → (c : ℕ) → class_count library ≤ c → c < total library (take used user)
    → Right (Breaks (class_count library) (group library (take used user)) c) (verdict_at library (take used user) c)

-- and no other verdict is right, so nothing is left open
abbrev pub OnlyOne : Type 0
OnlyOne =
    (library user : List ℕ) (used : ℕ) → Accepted library user used
    → (c : ℕ) → class_count library ≤ c → c < total library (take used user)
    → (v : Verdict) → Right (Breaks (class_count library) (group library (take used user)) c) v → v ≡ verdict_at library (take used user) c

-- ---- document 02, C-11: "the state reachable from static fields holds no authority, and a token is authority by identity alone"

-- by the verdicts of two sheets' classes: a clean class keeps no Token in a static field, where the field's class, if it is a user class, is clean too
abbrev pub NoTokenKept : List ℕ → List ℕ → (ℕ → Verdict) → Type 0
NoTokenKept library user verdict =
    (c : ℕ) → class_count library ≤ c → c < total library user → verdict c ≡ clean
    → (k : ℕ) (r : List ℕ) → At (group library user c) k r → T (is_kind FIELD r) → T (is_static r) → (field_ty r).code ≡ 0
    → (class_count library ≤ (field_ty r).class → verdict (field_ty r).class ≡ clean)
    → Not (Marked (group library user) (field_ty r).class Token)

abbrev pub NoStaticToken : Type 0
NoStaticToken = (library user : List ℕ) (used : ℕ) → Accepted library user used → NoTokenKept library (take used user) (verdict_at library (take used user))

-- ---- locality: "Two pairs of sheets, both accepted, with equally many library classes and the same groups at every number C stands on, give C the same line"

abbrev pub Locality : Type 0
Locality =
    (library user : List ℕ) (used : ℕ) → Accepted library user used
    → (library' user' : List ℕ) (used' : ℕ) → Accepted library' user' used'
    → class_count library ≡ class_count library'
    → (c : ℕ) → ((d : ℕ) → Depends (group library (take used user)) c d → group library (take used user) d ≡ group library' (take used' user') d)
    → verdict_at library (take used user) c ≡ verdict_at library' (take used' user') c

-- ---- the refusals of each operation

-- sheet 0 is the library's, sheet 1 the user's
abbrev pub sheet_of : List ℕ → List ℕ → ℕ → List ℕ
sheet_of library user s = elim (eqb s 0) [ true ↦ library | false ↦ user ]

-- record k of a sheet begins at that byte
pub record Begins (s : List ℕ) (k byte : ℕ) : Type 0 where
  pub there : k < length (records_of s)
  pub sum : byte ≡ length (concat (take k (records_of s)))

-- what a refusal blames, where `library` and `user` are the sheets that it speaks of
pub data Blames (library user : List ℕ) : Refusal → Type 0 where
  -- 1: byte 0 of the sheet that is too long
  size : {s : ℕ} → s < 2 → Blames library user (record { number = 1; sheet = s; byte = 0 })
  -- 2: the record that is not whole begins after the last whole one
  torn : {s byte : ℕ} → s < 2 → byte ≡ whole_end (sheet_of library user s) → Blames library user (record { number = 2; sheet = s; byte = byte })
  -- a number that blames a record: one of the sheet begins there
  at : {n s k byte : ℕ} → T (elem n record_numbers) → s < 2 → Begins (sheet_of library user s) k byte → Blames library user (record { number = n; sheet = s; byte = byte })
  -- 7: a library without classes, at its end
  no_class : {byte : ℕ} → class_count library ≡ 0 → byte ≡ length library → Blames library user (record { number = 7; sheet = 0; byte = byte })
  -- a number that blames none: sheet 0, byte 0
  plain : {n : ℕ} → T (elem n plain_numbers) → Blames library user (record { number = n; sheet = 0; byte = 0 })

-- for Add and Replace: a refusal of the present sheets blames those, any other one the new sheet, with neither 1 nor 2
pub data BlamesEdit (library user : List ℕ) (used : ℕ) (new : List ℕ) (r : Refusal) : Type 0 where
  present : present_refusal library user used ≡ some r → Blames library (take used user) r → BlamesEdit library user used new r
  made : present_refusal library user used ≡ none → 3 ≤ r.number → Blames library new r → BlamesEdit library user used new r

-- a refusal, if there is one, has one of the numbers and blames what it may
pub record Refuses (numbers : List ℕ) (blames : Refusal → Type 0) (o : Option Refusal) : Type 0 where
  pub number : (r : Refusal) → o ≡ some r → T (elem r.number numbers)
  pub place : (r : Refusal) → o ≡ some r → blames r

pub record Refusals (library user : List ℕ) (used : ℕ) : Type 0 where
  pub judge : (lines scratch : ℕ) → Refuses judge_numbers (Blames library (take used user)) (judge_refusal library user used lines scratch)
  pub add : (g : List ℕ) (lines scratch : ℕ)
      → Refuses add_numbers (BlamesEdit library user used (added_sheet (take used user) g)) (add_refusal library user used g lines scratch)
  pub replace : (c : ℕ) (g : List ℕ) (lines scratch : ℕ)
      → Refuses replace_numbers (BlamesEdit library user used (replaced_sheet library (take used user) c g)) (replace_refusal library user used c g lines scratch)
  pub withdraw : (lines : ℕ) → Refuses withdraw_numbers (Blames library (take used user)) (withdraw_refusal library user used lines)
  pub query : (c : ℕ) → Refuses query_numbers (Blames library (take used user)) (query_refusal library user used c)
  pub index : (places : ℕ) → Refuses index_numbers (Blames library (take used user)) (index_refusal library user used places)
  pub lookup : (name : List ℕ) (places : ℕ) → Refuses lookup_numbers (Blames library (take used user)) (lookup_refusal library user used name places)

abbrev pub RefusalsHold : Type 0
RefusalsHold = (library user : List ℕ) (used : ℕ) → Refusals library user used

-- ---- "the new sheet by 3 to 11", and 16: 2 cannot occur there, and neither can a refusal of the library's first pass

abbrev pub NewSheets : Type 0
NewSheets =
    (library user : List ℕ) (used : ℕ) → present_refusal library user used ≡ none → (g : List ℕ) → T (whole_group g)
    → (sheet_refusal library (added_sheet (take used user) g) ≡ new_refusal library (added_sheet (take used user) g))
    × ((c : ℕ) → sheet_refusal library (replaced_sheet library (take used user) c g) ≡ new_refusal library (replaced_sheet library (take used user) c g))

-- ---- document 02, C-12: the sheets that a withdrawal leaves are accepted, where no other class names the last one

abbrev pub WithdrawnSheets : Type 0
WithdrawnSheets =
    (library user : List ℕ) → sheet_refusal library user ≡ none → empty_refusal user ≡ none → named_refusal library user ≡ none
    → sheet_refusal library (withdrawn_sheet user) ≡ none

-- the test for 17 is the request's sentence, "another class names the last one"
abbrev pub NamedRight : Type 0
NamedRight =
    (library user : List ℕ) → 1 ≤ total library user
    → (named_refusal library user ≡ none) ↔ ((c : ℕ) → References (group library user c) (last_class library user) → c ≡ last_class library user)

-- ---- document 02, C-13: "From now on kinds inside a group never fall .. in both sheets"

abbrev pub InOrder : List ℕ → List ℕ → Type 0
InOrder library user = (c : ℕ) → Rising (group library user c)

abbrev pub OrderHolds : Type 0
OrderHolds = (library user : List ℕ) (used : ℕ) → present_refusal library user used ≡ none → InOrder library (take used user)

-- and 16 comes for no other reason: sheets in order, present or new, are never refused with it
abbrev pub OrderPasses : Type 0
OrderPasses =
    (library user : List ℕ) → InOrder library user
    → (r : Refusal) → (sheet_refusal library user ≡ some r) ⊎ (new_refusal library user ≡ some r) → r.number ≢ 16

-- ---- document 02, C-14: "the position reached should be carried along as a running value from one class to the next"

-- how long the group is that some bytes begin with
unfoldable pub first_length : List ℕ → ℕ
first_length rest = length (concat (get_or (groups_of rest) 0 []))

-- the position at the i-th class: "the next is found from the bytes at or after it alone"
unfoldable pub running : List ℕ → ℕ → ℕ
running s zero = 0
running s (suc i) = running s i + first_length (drop (running s i) s)

-- "for each user class it is proved to be the byte where its group begins"
pub record Carried (user : List ℕ) (used : ℕ) : Type 0 where
  pub begins : (i : ℕ) → i ≤ class_count user → running user i ≡ group_start user i
  -- from there on stand the bytes of its group and of those after it, and they are cut into just these
  pub stands : (i : ℕ) → i ≤ class_count user → drop (running user i) user ≡ concat (concat (drop i (groups_of user)))
  pub onward : (i : ℕ) → i ≤ class_count user → groups_of (drop (running user i) user) ≡ drop i (groups_of user)
  -- after the last class it is the used length
  pub end : running user (class_count user) ≡ used

abbrev pub RunningHolds : Type 0
RunningHolds = (library user : List ℕ) (used : ℕ) → present_refusal library user used ≡ none → Carried (take used user) used

-- ---- document 02, C-17: the index of class names, over sheets with equal names too

-- each of 512 places is empty or holds one of n classes
pub record Held (n : ℕ) (row : List ℕ) : Type 0 where
  pub long : length row ≡ index_places
  pub holds : (p : ℕ) → (get_or row p none16 ≡ none16) ⊎ (get_or row p none16 < n)

-- so many steps from the home of class c, "going round"
abbrev pub at_step : (ℕ → Group) → ℕ → ℕ → ℕ
at_step g c i = (home (name_of g c) + i) % index_places

-- class c stands some steps from its home, and nowhere else; from its home up to there lower classes stand
pub record Stands (g : ℕ → Group) (row : List ℕ) (c : ℕ) : Type 0 where
  pub steps : ℕ
  pub few : steps < index_places
  pub holds : get_or row (at_step g c steps) none16 ≡ c
  pub only : (p : ℕ) → get_or row p none16 ≡ c → p ≡ at_step g c steps
  pub lower : (i : ℕ) → i < steps → get_or row (at_step g c i) none16 < c

-- each of n classes stands so, and the row holds nothing else
pub record Placed (g : ℕ → Group) (n : ℕ) (row : List ℕ) : Type 0 where
  pub held : Held n row
  pub each : (c : ℕ) → c < n → Stands g row c

pub record NamesAgree (library user : List ℕ) : Type 0 where
  pub placed : Placed (group library user) (total library user) (names_index library user)
  -- "a new lookup .. finds it whenever it is there": as the walk does, whatever the name
  pub found : (name : List ℕ) → found_in (group library user) (names_index library user) name ≡ class_named library user name
  -- "The duplicate test through the index must agree with the walk"
  pub duplicates : (c : ℕ) → c < total library user → met_through (group library user) c ≡ name_met (group library user) c (class_record (group library user c))
  -- so of the whole index too: a class is found by its own name exactly if the name was not met before it
  pub own : (c : ℕ) → c < total library user → let g = group library user in
      (found_in g (names_index library user) (name_of g c) ≡ Some c) ↔ (name_met g c (class_record (g c)) ≡ false)

-- the sheets pass the first pass: 2 to 7 and 16
pub record FirstPassed (library user : List ℕ) : Type 0 where
  pub library_records : record_refusal 0 0 library ≡ none
  pub library_whole : torn_refusal 0 library ≡ none
  pub library_some : no_class_refusal library ≡ none
  pub user_records : record_refusal 1 (class_count library) user ≡ none
  pub user_whole : torn_refusal 1 user ≡ none

abbrev pub IndexAgrees : Type 0
IndexAgrees = (library user : List ℕ) → FirstPassed library user → NamesAgree library user

-- and in accepted sheets the name of each class is found as that class
abbrev pub LookupFinds : Type 0
LookupFinds =
    (library user : List ℕ) (used : ℕ) → Accepted library user used → (c : ℕ) → c < total library (take used user)
    → let g = group library (take used user) in found_in g (names_index library (take used user)) (name_of g c) ≡ Some c
