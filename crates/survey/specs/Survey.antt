-- Whether a class is clean, asked at once: its records by rules 1, 2 and 5, its CLASS record by 3, 4 and 6, and for rules 7 to 10 the sets of markers that slots pass.
-- Assumes nothing.
use Rattle.std.specs.Prelude.{◌≡◌, Bool, true, false, not, ◌&&◌, ◌||◌, List, [], ◌∷◌, ℕ, ◌≤◌, ◌<◌, eqb, length, get_or}
use Rattle.spec.specs.Lists.{any}
use Rattle.spec.specs.Record.{bit, is_kind, REFERS, flags, own_markers, target, index, references}
use Rattle.spec.specs.Sheet.{Group, class_record, is_interface}
use Rattle.spec.specs.Markers as marker
use Rattle.spec.specs.Classes.{overlay, lineage, root}
use Rattle.spec.specs.Rules.{Verdict, static_breaks, member_allowed, forbidden}
use Rattle.slots.specs.declared.Late.{Late}
use Rattle.slots.specs.declared.Late.TheVariants.{Immutable, Powerless, Selfless, DeepSelfless}
use Rattle.slots.specs.Slots.{rule_marker, root_breaks, base_breaks, slots_break, Passes}

-- 02, C-16: "clean lines hold three zeros"
unfoldable pub is_clean : Verdict → Bool
is_clean v = eqb v.rule 0 && eqb v.record_number 0 && eqb v.class 0

-- ---- what a class breaks

-- a CLASS record with these flags and own markers, of a class with the overlay markers m, breaks rule 3, 4 or 6
unfoldable pub head_by : ℕ → ℕ → ℕ → Bool
head_by f own m =
    (bit marker.Token own || bit marker.Throwable own || bit marker.Enum own)
    || (marker.clash m || (bit 5 f || bit 6 f || bit 7 f))

unfoldable pub head_fails : List ℕ → ℕ → Bool
head_fails r m = head_by (flags r) (own_markers r) m

-- some of rules 7 to 10: those whose markers the class has
unfoldable pub any_late : ℕ → (Late → Bool) → Bool
any_late m bad = any (λ rule. bit (rule_marker rule) m && bad rule) (Immutable ∷ Powerless ∷ Selfless ∷ DeepSelfless ∷ [])

module _ (nlib : ℕ) (g : ℕ → Group) where
  -- a record breaks rule 1, 2 or 5
  unfoldable pub record_breaks : List ℕ → Bool
  record_breaks r =
      static_breaks g r
      || ((is_kind REFERS r && not (member_allowed g (target r) (index r))) || any (forbidden nlib g) (references r))

  -- the slots of c and its superclasses, or its root
  unfoldable pub line_breaks : Late → ℕ → Bool
  line_breaks rule c = any (slots_break g rule) (lineage nlib g c) || any (root_breaks g rule) (root nlib g c)

  unfoldable pub late_breaks : ℕ → Bool
  late_breaks c = (bit marker.Selfless (overlay g c) && base_breaks g c) || any_late (overlay g c) (λ rule. line_breaks rule c)

  unfoldable pub class_breaks : ℕ → Bool
  class_breaks c = any record_breaks (g c) || (head_fails (class_record (g c)) (overlay g c) || (not (is_interface (g c)) && late_breaks c))

-- ---- sets

-- class t and its superclasses up to the root; an interface, which those rules do not ask, has no marker
pub record ClassSet (nlib : ℕ) (g : ℕ → Group) (t set : ℕ) : Type 0 where
  pub class : is_interface (g t) ≡ false → Passes (λ rule. not (line_breaks nlib g rule t)) set
  pub interface : nlib ≤ t → is_interface (g t) ≡ true → set ≡ 0

-- a row that has such a set for each of the classes below n
pub record Passing (nlib n : ℕ) (g : ℕ → Group) (row : List ℕ) : Type 0 where
  pub long : length row ≡ 256
  pub is : (c : ℕ) → c < n → ClassSet nlib g c (get_or row c 0)
