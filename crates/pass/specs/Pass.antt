-- The first pass: what refuses the record at a place, how the pass ends, and the row of the bytes where groups begin.
-- Assumes nothing.
use Rattle.std.specs.Prelude.{◌≡◌, Bool, true, false, Option as StdOption, Some, None, Result, Ok, Err, List, [], ◌∷◌, ℕ, suc, ◌+◌, ◌-◌, ltb, length, take, set}
use Rattle.std.proofs.Math.Option.{Option, none, some}
use Rattle.spec.specs.Lists.{first_of}
use Rattle.spec.specs.Record.{u16, kind, is_class}
use Rattle.spec.specs.Sheet.{whole_first, records_of, Located}
use Rattle.spec.specs.Refusals.{Refusal, record_tests, record_refusal, torn_refusal}
use Rattle.records.specs.Kinds.{kind_number}
use Rattle.refusals.specs.Refusals.{sheet_number, reason_number}
use Rattle.refusals.specs.declared.Reason.{Reason}
use Rattle.refusals.specs.declared.Refusal.{Refusal as Refused}
use Rattle.pass.specs.declared.place.OpenGroup.{OpenGroup}
use Rattle.pass.specs.declared.place.Place.{Place}

-- ---- a record at its place

-- how many records the open group has, and the kind of the last of them; 0 where none is open
abbrev pub group_records : StdOption OpenGroup → ℕ
group_records None = 0
group_records (Some o) = o.records

abbrev pub group_kind : StdOption OpenGroup → ℕ
group_kind None = 0
group_kind (Some o) = kind_number o.last

-- a record of sheet `sheet` at a byte, after n classes, and k records of the open group whose last has kind b
unfoldable pub place : ℕ → ℕ → ℕ → ℕ → ℕ → List ℕ → Located
place sheet at n k b r = record {
  sheet = sheet;
  byte = at;
  class = elim (is_class r) [ true ↦ n | false ↦ n - 1 ];
  record_number = elim (is_class r) [ true ↦ 0 | false ↦ k ];
  before = elim (is_class r) [ true ↦ 0 | false ↦ b ];
  grouped = elim (is_class r) [ true ↦ true | false ↦ ltb 0 k ];
  bytes = r;
}

unfoldable pub located : Place → List ℕ → Located
located p r = place (sheet_number p.side) p.byte p.classes (group_records p.group) (group_kind p.group) r

-- the numbers of classes and of the open group's records after one more record, a CLASS record or another
abbrev pub classes_after : Bool → ℕ → ℕ
classes_after true n = suc n
classes_after false n = n

abbrev pub records_after : Bool → ℕ → ℕ
records_after true k = 1
records_after false k = suc k

-- the place after a record
pub record Follows (p : Place) (r : List ℕ) (after : Place) : Type 0 where
  pub side : after.side ≡ p.side
  pub byte : after.byte ≡ p.byte + length r
  pub classes : after.classes ≡ classes_after (is_class r) p.classes
  pub records : group_records after.group ≡ records_after (is_class r) (group_records p.group)
  pub last : group_kind after.group ≡ kind r

-- ---- what refuses a record

-- the number of the first test that is met
unfoldable pub first_met : List (ℕ × Bool) → Option ℕ
first_met [] = none
first_met (t ∷ ts) = elim t.1 [ true ↦ some t.0 | false ↦ first_met ts ]

-- no test is met, or the reason is that of the first one
abbrev pub Meets : {A : Type 0} → List (ℕ × Bool) → Result A Reason → Type 0
Meets ts (Ok a) = first_met ts ≡ none
Meets ts (Err e) = first_met ts ≡ some (reason_number e)

-- the record that bytes begin with
unfoldable pub first_record : List ℕ → List ℕ
first_record s = take (u16 s 0) s

-- what refuses the record that bytes begin with, if one does
unfoldable pub refused_at : Place → List ℕ → Option ℕ
refused_at p s = elim (whole_first s) [ true ↦ first_met (record_tests (located p (first_record s))) | false ↦ some 2 ]

-- r is that record, and nothing refuses it
pub record Passes (p : Place) (s r : List ℕ) : Type 0 where
  pub whole : whole_first s ≡ true
  pub is : r ≡ first_record s
  pub fine : first_met (record_tests (located p r)) ≡ none

-- it is refused, and e is the refusal
pub record Blames (p : Place) (s : List ℕ) (e : Refused) : Type 0 where
  pub number : refused_at p s ≡ some (reason_number e.reason)
  pub sheet : e.sheet ≡ p.side
  pub byte : e.byte ≡ p.byte

-- ---- the whole pass

-- 2 to 7 and 16 of one sheet, where n classes stand before it
unfoldable pub pass_refusal : ℕ → ℕ → List ℕ → Option Refusal
pass_refusal sheet n s = first_of (record_refusal sheet n s ∷ torn_refusal sheet s ∷ [])

-- a refusal k bytes further on
abbrev pub shifted : ℕ → Option Refusal → Option Refusal
shifted k none = none
shifted k (some r) = some (record { number = r.number; sheet = r.sheet; byte = k + r.byte })

-- the row in which the byte of each CLASS record stands at its class's number; the first record begins at `at`, and n classes stand before it
unfoldable pub fill : List ℕ → ℕ → ℕ → List (List ℕ) → List ℕ
fill row n at [] = row
fill row n at (r ∷ rs) = elim (is_class r) [ true ↦ fill (set row n at) (suc n) (at + length r) rs | false ↦ fill row n (at + length r) rs ]

unfoldable pub filled : List ℕ → ℕ → ℕ → List ℕ → List ℕ
filled row n at s = fill row n at (records_of s)

-- what the pass of bytes that begin at byte `at` of their sheet makes of the row
pub record Filled (o : Option Refusal) (n at : ℕ) (s before after : List ℕ) : Type 0 where
  pub long : length after ≡ length before
  pub rows : o ≡ none → after ≡ filled before n at s
