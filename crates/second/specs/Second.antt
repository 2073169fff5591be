-- The second pass, class by class: the number that refuses a record by what it names, and what records ask of classes by their numbers.
-- Assumes nothing.
use Rattle.std.specs.Prelude.{◌≡◌, Bool, true, false, not, ◌&&◌, ◌||◌, Option, None, Some, Result, Ok, Err, List, [], ◌∷◌, map, ℕ, ◌+◌, ◌-◌, ◌≤◌, ◌<◌, eqb, leb, ltb, length, get_or}
use Rattle.std.proofs.Math.Option as spec
use Rattle.spec.specs.Lists.{any, elem, first_of, span}
use Rattle.spec.specs.Record.{bit, LOCAL, MEMBER, ty_references}
use Rattle.spec.specs.Sheet.{Group, of_kind, is_interface, located_in}
use Rattle.spec.specs.Classes.{enclosers}
use Rattle.spec.specs.Refusals.{Refusal, refuse_record, form_tests, name_met}
use Rattle.groups.specs.Groups.{sheet_number, start_of}
use Rattle.refusals.specs.declared.Reason.{Reason}
use Rattle.refusals.specs.declared.Side.{Side}
use Rattle.refusals.specs.declared.Side.TheVariants.{Library, User}
use Rattle.refusals.specs.Refusals.{reason_number}
use Rattle.records.specs.declared.record.Ty.{Ty}
use Rattle.records.specs.declared.record.Head.{Head}
use Rattle.records.specs.Kinds.{spec_ty}
use Rattle.records.specs.declared.kind.Kind.{Kind}
use Rattle.records.specs.declared.kind.Kind.TheVariants.{Local, Member}
use Rattle.sheets.specs.Sheets.{Pair, count, groups, library_count}
use Rattle.second.specs.declared.register.Asked.{Asked}

-- ---- numbered tests

-- the number of the first test that is met, if one is
abbrev pub first_met : List (ℕ × Bool) → spec.Option ℕ
first_met [] = spec.none
first_met (t ∷ ts) = elim t.1 [ true ↦ spec.some t.0 | false ↦ first_met ts ]

-- the number that an answer refuses with, if it does
abbrev pub number_of : {A : Type 0} → Result A Reason → spec.Option ℕ
number_of (Ok a) = spec.none
number_of (Err reason) = spec.some (reason_number reason)

-- the number that refuses record r of class c in the second pass, if one does
unfoldable pub form_number : Pair → ℕ → List ℕ → spec.Option ℕ
form_number p c r =
    first_met
    (form_tests (groups p) (library_count p) (count p) (record { sheet = 0; byte = 0; class = c; record_number = 0; before = 0; grouped = true; bytes = r }))

-- ---- the tests of each kind: 9 before 8 before 10

-- a superclass or an encloser that is not there
abbrev pub absent : Pair → Option ℕ → Bool
absent p None = false
absent p (Some d) = leb (count p) d

-- a class without a superclass: class 0, and an interface
abbrev pub bare : ℕ → ℕ → Bool
bare c f = eqb c 0 || bit 0 f

-- the superclass and the encloser of class c with those flags
abbrev pub superclass_ok : Pair → ℕ → ℕ → Option ℕ → Bool
superclass_ok p c f None = bare c f
superclass_ok p c f (Some up) = not (bare c f) && ltb up c && not (is_interface (groups p up))

abbrev pub encloser_ok : Pair → ℕ → ℕ → Option ℕ → Bool
encloser_ok p c f None = not (bit 1 f)
encloser_ok p c f (Some outer) = leb (library_count p) c && leb (library_count p) outer && ltb outer c

-- the CLASS record r of class c, which begins so
abbrev pub class_tests : Pair → ℕ → Head → List ℕ → List (ℕ × Bool)
class_tests p c h r =
    (9, absent p h.superclass || absent p h.encloser)
    ∷ (8, eqb c 0 && bit 0 h.flags)
    ∷ (8, not (superclass_ok p c h.flags h.superclass))
    ∷ (8, not (encloser_ok p c h.flags h.encloser))
    ∷ (10, name_met (groups p) c r)
    ∷ []

abbrev pub target_tests : Pair → ℕ → List (ℕ × Bool)
target_tests p t = (9, leb (count p) t) ∷ []

abbrev pub type_tests : Pair → Ty → List (ℕ × Bool)
type_tests p t = (9, any (leb (count p)) (ty_references (spec_ty t))) ∷ []

abbrev pub implements_tests : Pair → ℕ → ℕ → List (ℕ × Bool)
implements_tests p c t = (9, leb (count p) t) ∷ (8, not (ltb t c && is_interface (groups p t))) ∷ []

-- a FIELD with those flags
abbrev pub field_tests : Pair → ℕ → ℕ → Ty → List (ℕ × Bool)
field_tests p c f t = (9, any (leb (count p)) (ty_references (spec_ty t))) ∷ (8, not (bit 2 f) && is_interface (groups p c)) ∷ []

-- record number i of kind k in class t
abbrev pub index_tests : Pair → ℕ → ℕ → ℕ → List (ℕ × Bool)
index_tests p k t i = (9, leb (count p) t) ∷ (9, leb (length (of_kind k (groups p t))) i) ∷ []

abbrev pub uses_tests : Pair → ℕ → ℕ → ℕ → List (ℕ × Bool)
uses_tests p c t i = (9, leb (count p) t) ∷ (9, leb (length (of_kind LOCAL (groups p t))) i) ∷ (8, not (elem t (c ∷ enclosers (groups p) c))) ∷ []

-- ---- what others ask of a class by its number

-- the records that others name by an index: MEMBER in the library, LOCAL in the user sheet
abbrev pub indexed_kind : Side → Kind
indexed_kind Library = Member
indexed_kind User = Local

abbrev pub indexed_number : Pair → ℕ → ℕ
indexed_number p c = elim (ltb c (library_count p)) [ true ↦ MEMBER | false ↦ LOCAL ]

-- how many of those class c has, and whether it is an interface
abbrev pub asked_of : Pair → ℕ → Asked
asked_of p c = record { interface = is_interface (groups p c); indexed = length (of_kind (indexed_number p c) (groups p c)) }

-- the row holds what is asked of each class; of the other kind a class has no records
pub record Heads (p : Pair) (row : List Asked) : Type 0 where
  pub long : count p ≤ length row
  pub heads : (d : ℕ) (e : Asked) → d < count p → get_or row d e ≡ asked_of p d
  pub locals : (d : ℕ) → d < library_count p → length (of_kind LOCAL (groups p d)) ≡ 0
  pub members : (d : ℕ) → library_count p ≤ d → d < count p → length (of_kind MEMBER (groups p d)) ≡ 0

-- the row marks class c and its enclosers, and none else of the classes
pub record Enclosing (p : Pair) (c : ℕ) (row : List Bool) : Type 0 where
  pub long : count p ≤ length row
  pub marks : (t : ℕ) → t < count p → get_or row t false ≡ elem t (c ∷ enclosers (groups p) c)

-- ---- the whole

-- the first of some records that is refused, by its number and its byte, where the first begins at `at`
unfoldable pub form_of : (List ℕ → spec.Option ℕ) → ℕ → ℕ → Group → spec.Option Refusal
form_of number sheet at [] = spec.none
form_of number sheet at (r ∷ rs) = elim (number r) [
  | spec.some k ↦ spec.some (record { number = k; sheet = sheet; byte = at })
  | spec.none ↦ form_of number sheet (at + length r) rs
]

-- 9, 8, 10 along the records of class c
unfoldable pub class_refusal : Pair → ℕ → spec.Option Refusal
class_refusal p c = form_of (form_number p c) (sheet_number (library_count p) c) (start_of p.library p.user c) (groups p c)

-- the same of the classes from `first` on, up to class `past`
unfoldable pub classes_refusal : Pair → ℕ → ℕ → spec.Option Refusal
classes_refusal p first past = first_of (map (class_refusal p) (span first (past - first)))

-- 9, 8, 10 along the records of one sheet, where m classes stand before it
unfoldable pub form_in : (ℕ → Group) → ℕ → ℕ → ℕ → ℕ → List ℕ → spec.Option Refusal
form_in g nlib n sheet m s = first_of (map (λ l. refuse_record l (form_tests g nlib n l)) (located_in sheet m s))

-- the same of a sheet of the two
abbrev pub side_refusal : Pair → Side → spec.Option Refusal
side_refusal p Library = form_in (groups p) (library_count p) (count p) 0 0 p.library
side_refusal p User = form_in (groups p) (library_count p) (count p) 1 (library_count p) p.user
