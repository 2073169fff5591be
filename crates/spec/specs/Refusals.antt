-- Why a call is refused, in the order decided: number, sheet and byte (document 01, "The operations and what they turn away").
-- Assumes nothing.
use Rattle.std.specs.Prelude.{◌≡◌, Bool, true, false, not, ◌&&◌, ◌||◌, List, [], ◌∷◌, ◌++◌, map, ℕ, ◌-◌, eqb, leb, ltb, length, take, set}
use Rattle.std.specs.Option.{is_some}
use Rattle.std.proofs.Math.Option.{Option, none, some}
use Rattle.spec.specs.Lists.{any, concat, first_of, elem, same_list, span}
use Rattle.spec.specs.Record.{Bytes, bit, none16, kind, is_kind, is_class, IMPLEMENTS, LOCAL, USES, MEMBER, REFERS, flags, superclass, encloser, class_name, target, index, references, kind_fits}
use Rattle.spec.specs.Record.{length_fits, body_fits}
use Rattle.spec.specs.Sheet.{Group, records_of, whole_end, groups_of, class_count, total, group, class_record, group_references, of_kind, is_interface, is_instance_field, Located, located_in, located}
use Rattle.spec.specs.Markers.{clash}
use Rattle.spec.specs.Classes.{overlay, enclosers}
use Rattle.spec.specs.Index.{index_places, class_named}

-- "A refusal gives number, sheet (0 library, 1 user), byte where its record begins"
pub record Refusal : Type 0 where
  pub number : ℕ
  pub sheet : ℕ
  pub byte : ℕ

unfoldable pub refuse_if : Bool → ℕ → ℕ → ℕ → Option Refusal
refuse_if b n s at = elim b [ true ↦ some (record { number = n; sheet = s; byte = at }) | false ↦ none ]

-- "Numbers 1 and 12 to 15 have byte 0, and 12 to 15 sheet 0"; document 02, C-12: "those that blame no record carry sheet 0 and byte 0"
unfoldable pub refuse_plain : Bool → ℕ → Option Refusal
refuse_plain b n = refuse_if b n 0 0

-- a record is refused by the first of some numbered tests that it meets
unfoldable pub refuse_record : Located → List (ℕ × Bool) → Option Refusal
refuse_record l tests = first_of (map (λ t. refuse_if t.1 t.0 l.sheet l.byte) tests)

-- ---- 1: "a sheet over 32,768 bytes, or the user sheet's used length beyond its buffer; library first"

abbrev pub sheet_limit : ℕ
sheet_limit = 32768

unfoldable pub size_refusal : List ℕ → List ℕ → ℕ → Option Refusal
size_refusal library user used = first_of
    (refuse_if (ltb sheet_limit (length library)) 1 0 0
    ∷ refuse_if (ltb sheet_limit used || ltb (length user) used) 1 1 0
    ∷ [])

-- ---- 2 to 7 and 16: "record by record"

-- 2: "under four bytes left, or a length below 4 or past the end"
unfoldable pub torn_refusal : ℕ → List ℕ → Option Refusal
torn_refusal sheet s = refuse_if (not (eqb (whole_end s) (length s))) 2 sheet (whole_end s)

unfoldable pub record_tests : Located → List (ℕ × Bool)
record_tests l =
    -- "a kind unknown or of the other sheet"
    (3, not (kind_fits l.sheet l.bytes))
    -- "a length its kind can't have"
    ∷ (4, not (length_fits l.bytes))
    -- "no CLASS before it"
    ∷ (6, not l.grouped)
    -- "an undefined flag set, a nonzero zero byte, a code over 8, a primitive with a class, a name byte out of range"
    ∷ (5, not (body_fits l.sheet l.bytes))
    -- "class 257 or a group's record 256"
    ∷ (7, leb 256 l.class || leb 255 l.record_number)
    -- document 02, C-13: "A record of a lower kind than the one before it in its group is refused with 16, right after 7"
    ∷ (16, ltb (kind l.bytes) l.before)
    ∷ []

-- 3 to 7 and 16 along the records of one sheet, where `n` classes stand before it
unfoldable pub record_refusal : ℕ → ℕ → List ℕ → Option Refusal
record_refusal sheet n s = first_of (map (λ l. refuse_record l (record_tests l)) (located_in sheet n s))

-- 7: "also a library without classes, at its end"
unfoldable pub no_class_refusal : List ℕ → Option Refusal
no_class_refusal library = refuse_if (eqb (class_count library) 0) 7 0 (length library)

-- ---- 9, 8, 10: "Then record by record again"

-- "a class .. that isn't there", where there are n
unfoldable pub no_such_class : ℕ → List ℕ → Bool
no_such_class n r = any (leb n) (references r)

-- "A library class has no encloser; a user class's is a user class. Inner needs an encloser." "encloser .. lower": a CLASS record of class c
unfoldable pub encloser_fits : ℕ → ℕ → List ℕ → Bool
encloser_fits nlib c r = elim (eqb (encloser r) none16) [
  | true ↦ not (bit 1 (flags r))
  | false ↦ leb nlib c && leb nlib (encloser r) && ltb (encloser r) c
]

module _ (group : ℕ → Group) where
  -- "LOCAL or MEMBER": a record of kind k that names a class which has no record of kind m with that index
  unfoldable pub no_such_index : ℕ → ℕ → List ℕ → Bool
  no_such_index k m r = is_kind k r && leb (length (of_kind m (group (target r)))) (index r)

  -- "Class 0 has no superclass and is no interface. Any other class has a superclass that is no interface; an interface has none. Superclass .. lower"
  unfoldable pub superclass_fits : ℕ → List ℕ → Bool
  superclass_fits c r = elim (eqb c 0 || bit 0 (flags r)) [
    | true ↦ eqb (superclass r) none16
    | false ↦ ltb (superclass r) c && not (is_interface (group (superclass r)))
  ]

  -- "Superclass, encloser and IMPLEMENTS name lower numbers; IMPLEMENTS names an interface"
  unfoldable pub implements_fits : ℕ → List ℕ → Bool
  implements_fits c r = ltb (target r) c && is_interface (group (target r))

  -- "USES names the group's own class or one enclosing it at any depth"
  unfoldable pub uses_fits : ℕ → List ℕ → Bool
  uses_fits c r = elem (target r) (c ∷ enclosers group c)

  -- 10: "a class name met before in either sheet"
  unfoldable pub name_met : ℕ → List ℕ → Bool
  name_met c r = any (λ d. same_list (class_name (class_record (group d))) (class_name r)) (span 0 c)

  -- over the number of library classes, of all classes, and a record
  unfoldable pub form_tests : ℕ → ℕ → Located → List (ℕ × Bool)
  form_tests nlib n l =
      let r = l.bytes in
      let c = l.class in
      (9, no_such_class n r)
      ∷ (9, no_such_index USES LOCAL r)
      ∷ (9, no_such_index REFERS MEMBER r)
      ∷ (8, is_class r && (eqb c 0 && bit 0 (flags r)))
      ∷ (8, is_class r && not (superclass_fits c r))
      ∷ (8, is_class r && not (encloser_fits nlib c r))
      ∷ (8, is_kind IMPLEMENTS r && not (implements_fits c r))
      -- "An interface has no instance field"
      ∷ (8, is_instance_field r && is_interface (group c))
      ∷ (8, is_kind USES r && not (uses_fits c r))
      ∷ (10, is_class r && name_met c r)
      ∷ []

  -- 11: "at the CLASS record of the first library class whose overlay marks clash, or of class 0 with any mark". Own markers of a library class are "the deemings".
  unfoldable pub deemed_tests : ℕ → Located → List (ℕ × Bool)
  deemed_tests nlib l =
      let c = l.class in
      (11, is_class l.bytes && ltb c nlib && (clash (overlay group c) || (eqb c 0 && not (eqb (overlay group c) 0)))) ∷ []

module _ (library user : List ℕ) where
  unfoldable pub form_refusal : Option Refusal
  form_refusal = first_of (map (λ l. refuse_record l (form_tests (group library user) (class_count library) (total library user) l)) (located library user))

  unfoldable pub deemed_refusal : Option Refusal
  deemed_refusal = first_of (map (λ l. refuse_record l (deemed_tests (group library user) (class_count library) l)) (located library user))

  -- 2 to 11 and 16 of two sheets: "library before user"
  unfoldable pub sheet_refusal : Option Refusal
  sheet_refusal = first_of
      (record_refusal 0 0 library
      ∷ torn_refusal 0 library
      ∷ no_class_refusal library
      ∷ record_refusal 1 (class_count library) user
      ∷ torn_refusal 1 user
      ∷ form_refusal
      ∷ deemed_refusal
      ∷ [])

  -- "the new sheet by 3 to 11, byte in it", and 16: the user sheet that an Add or a Replace would make, beside a library that was accepted
  unfoldable pub new_refusal : Option Refusal
  new_refusal = first_of (record_refusal 1 (class_count library) user ∷ form_refusal ∷ deemed_refusal ∷ [])

-- 1 to 11 and 16 of the library sheet, the user buffer and its used length. Where an operation's sentence says "1 to 11" or "3 to 11", 16 is among them
-- (document 02, C-13: "wherever a sheet meets 1 to 11 or 3 to 11: in adding, replacing, withdrawing, Name and Marks too").
unfoldable pub present_refusal : List ℕ → List ℕ → ℕ → Option Refusal
present_refusal library user used = first_of (size_refusal library user used ∷ sheet_refusal library (take used user) ∷ [])

-- the two sheets are bytes and meet none of 1 to 11 and 16
pub record Accepted (library user : List ℕ) (used : ℕ) : Type 0 where
  pub library_bytes : Bytes library
  pub user_bytes : Bytes user
  pub unrefused : present_refusal library user used ≡ none

-- ---- 12 to 15

abbrev pub scratch_length : ℕ
scratch_length = 65536

-- 12: "slate or scratch too short", where a verdict is needed for each of `needed` classes
unfoldable pub short_refusal : ℕ → ℕ → ℕ → Option Refusal
short_refusal needed lines scratch = refuse_plain (ltb lines needed || ltb scratch scratch_length) 12

-- 13: "no such user class"
unfoldable pub no_user_refusal : List ℕ → List ℕ → ℕ → Option Refusal
no_user_refusal library user c = refuse_plain (ltb c (class_count library) || leb (total library user) c) 13

-- 13: "a number not in use"
unfoldable pub unused_refusal : List ℕ → List ℕ → ℕ → Option Refusal
unused_refusal library user c = refuse_plain (leb (total library user) c) 13

-- 14: "the group isn't whole records with one CLASS, its first"
unfoldable pub one_class : List (List ℕ) → Bool
one_class [] = false
one_class (r ∷ rs) = is_class r && not (any is_class rs)

unfoldable pub whole_group : List ℕ → Bool
whole_group g = eqb (whole_end g) (length g) && one_class (records_of g)

unfoldable pub group_refusal : List ℕ → Option Refusal
group_refusal g = refuse_plain (not (whole_group g)) 14

-- 15: "the new sheet is over the buffer or 32,768 bytes"
unfoldable pub room_refusal : List ℕ → List ℕ → Option Refusal
room_refusal user new = refuse_plain (ltb (length user) (length new) || ltb sheet_limit (length new)) 15

-- ---- document 02, C-12: 13, 17 and 12 of a withdrawal

-- 13: "for an empty user sheet"
unfoldable pub empty_refusal : List ℕ → Option Refusal
empty_refusal user = refuse_plain (eqb (class_count user) 0) 13

-- the last class's number
unfoldable pub last_class : List ℕ → List ℕ → ℕ
last_class library user = total library user - 1

-- 17: "when another class names the last one". All others have lower numbers.
unfoldable pub named_refusal : List ℕ → List ℕ → Option Refusal
named_refusal library user =
    let last = last_class library user in
    refuse_plain (any (λ c. elem last (group_references (group library user c))) (span 0 last)) 17

-- 12: "for a slate too short"; no scratch is asked for
unfoldable pub few_lines_refusal : ℕ → ℕ → Option Refusal
few_lines_refusal needed lines = refuse_plain (ltb lines needed) 12

-- ---- document 02, C-17: 12 and 13 of an index and a lookup

-- 12: "for a row under 512"
unfoldable pub few_places_refusal : ℕ → Option Refusal
few_places_refusal places = refuse_plain (ltb places index_places) 12

-- 13: "for a name not there"
unfoldable pub no_name_refusal : List ℕ → List ℕ → List ℕ → Option Refusal
no_name_refusal library user name = refuse_plain (not (is_some (class_named library user name))) 13

-- ---- the operations

-- the user sheet that an Add, or a Replace of class c, would make
unfoldable pub added_sheet : List ℕ → List ℕ → List ℕ
added_sheet user g = user ++ g

unfoldable pub replaced_sheet : List ℕ → List ℕ → ℕ → List ℕ → List ℕ
replaced_sheet library user c g = concat (set (map concat (groups_of user)) (c - class_count library) g)

-- the user sheet that a withdrawal leaves: without its last group
unfoldable pub withdrawn_sheet : List ℕ → List ℕ
withdrawn_sheet user = concat (map concat (take (class_count user - 1) (groups_of user)))

module _ (library user : List ℕ) (used : ℕ) where
  -- Judge: "Last 12". `lines` and `scratch` are how many verdicts the row takes and how long the scratch is.
  unfoldable pub judge_refusal : ℕ → ℕ → Option Refusal
  judge_refusal lines scratch = first_of
      (present_refusal library user used
      ∷ short_refusal (class_count (take used user)) lines scratch
      ∷ [])

  -- Add: "The present sheets by 1 to 11; 14 ..; 15 ..; the new sheet by 3 to 11 ..; 12, where a line is needed for each class of the new sheet"
  unfoldable pub add_refusal : List ℕ → ℕ → ℕ → Option Refusal
  add_refusal g lines scratch =
      let new = added_sheet (take used user) g in
      first_of
      (present_refusal library user used
      ∷ group_refusal g
      ∷ room_refusal user new
      ∷ new_refusal library new
      ∷ short_refusal (class_count new) lines scratch
      ∷ [])

  -- Replace: "As Add, with 13 (no such user class) before 14"
  unfoldable pub replace_refusal : ℕ → List ℕ → ℕ → ℕ → Option Refusal
  replace_refusal c g lines scratch =
      let new = replaced_sheet library (take used user) c g in
      first_of
      (present_refusal library user used
      ∷ no_user_refusal library (take used user) c
      ∷ group_refusal g
      ∷ room_refusal user new
      ∷ new_refusal library new
      ∷ short_refusal (class_count new) lines scratch
      ∷ [])

  -- Withdraw (document 02, C-12): "1 to 11, then 13 for an empty user sheet, 17 .. when another class names the last one, and 12 for a slate too short"
  unfoldable pub withdraw_refusal : ℕ → Option Refusal
  withdraw_refusal lines =
      let sheet = take used user in
      first_of
      (present_refusal library user used
      ∷ empty_refusal sheet
      ∷ named_refusal library sheet
      ∷ few_lines_refusal (class_count sheet) lines
      ∷ [])

  -- Name, Marks: "1 to 11, then 13 for a number not in use"
  unfoldable pub query_refusal : ℕ → Option Refusal
  query_refusal c = first_of (present_refusal library user used ∷ unused_refusal library (take used user) c ∷ [])

  -- Index and Lookup (document 02, C-17): "after 1 to 11 and 16 comes 12 .., then from the lookup 13"
  unfoldable pub index_refusal : ℕ → Option Refusal
  index_refusal places = first_of (present_refusal library user used ∷ few_places_refusal places ∷ [])

  unfoldable pub lookup_refusal : List ℕ → ℕ → Option Refusal
  lookup_refusal name places = first_of (present_refusal library user used ∷ few_places_refusal places ∷ no_name_refusal library (take used user) name ∷ [])

-- ---- which numbers each operation can give: "Each occurs only as said"; document 02, C-12: "new numbers join the fifteen"

-- those that blame a record, by its sheet and byte
unfoldable pub record_numbers : List ℕ
record_numbers = 3 ∷ 4 ∷ 5 ∷ 6 ∷ 7 ∷ 8 ∷ 9 ∷ 10 ∷ 11 ∷ 16 ∷ []

-- those that blame no record, and "carry sheet 0 and byte 0"
unfoldable pub plain_numbers : List ℕ
plain_numbers = 12 ∷ 13 ∷ 14 ∷ 15 ∷ 17 ∷ []

-- those of the present sheets, which every operation can give
unfoldable pub present_numbers : List ℕ
present_numbers = 1 ∷ 2 ∷ record_numbers

unfoldable pub judge_numbers : List ℕ
judge_numbers = present_numbers ++ (12 ∷ [])

unfoldable pub add_numbers : List ℕ
add_numbers = present_numbers ++ (12 ∷ 14 ∷ 15 ∷ [])

unfoldable pub replace_numbers : List ℕ
replace_numbers = present_numbers ++ (12 ∷ 13 ∷ 14 ∷ 15 ∷ [])

unfoldable pub withdraw_numbers : List ℕ
withdraw_numbers = present_numbers ++ (12 ∷ 13 ∷ 17 ∷ [])

unfoldable pub query_numbers : List ℕ
query_numbers = present_numbers ++ (13 ∷ [])

unfoldable pub index_numbers : List ℕ
index_numbers = present_numbers ++ (12 ∷ [])

unfoldable pub lookup_numbers : List ℕ
lookup_numbers = present_numbers ++ (12 ∷ 13 ∷ [])
