-- The tests of a record at its place, of which the first that is met refuses it.
-- Assumes nothing.
use mathlib.Core.Path.{◌≡◌, refl, ◌∙◌}
use mathlib.Core.Bool.{Bool, true, false}
use mathlib.Core.List.{List, [], ◌∷◌}
use mathlib.Core.Logic.{◌⊎◌, inl, inr}
use mathlib.Core.Option.{none, some}
use Prim.Native.Nat.{ℕ, ◌-◌, ◌<◌}
use native.Mathlib.Omega.{arith}
use lib.Dec.{leb, ltb, nleb→lt, ltb→lt}
use lib.ListN.{get_or-eq_default}
use Rattle.std.specs.Prelude.{Option as StdOption, Some, None, IsSome}
use Rattle.spec.specs.Record.{u16, kind, is_class, by_kind, kind_fits}
use Rattle.spec.specs.Sheet.{whole_first}
use Rattle.spec.specs.Refusals.{record_tests}
use Rattle.laws.proofs.All.{All}
use Rattle.laws.proofs.Parts.{u16_take}
use Rattle.theory.proofs.Cut.{first_is}
use Rattle.laws.proofs.Bools.{true_t, un_not, not_or_l, not_or_r}
use Rattle.theory.proofs.Answers.{some≢none, Fails}
use Rattle.refusals.specs.Refusals.{sheet_number}
use Rattle.pass.specs.declared.place.OpenGroup.{OpenGroup}
use Rattle.pass.specs.declared.place.Place.{Place}
use Rattle.pass.specs.Pass.{group_records, place, located, first_met, first_record, refused_at}

-- a number that no kind has: no sheet may have such a record
pub no_kind : (sheet : ℕ) (r : List ℕ) → (kind r ≡ 0) ⊎ (8 < kind r) → kind_fits sheet r ≡ false
unfolding kind_fits by_kind
no_kind sheet r (inl e) = rw e
no_kind sheet r (inr h) = rw (get_or-eq_default _ _ h)

none_met : (ts : List (ℕ × Bool)) → first_met ts ≡ none → All Fails ts
unfolding first_met
none_met [] e = tt
none_met ((n, true) ∷ ts) e = absurd (some≢none n e)
none_met ((n, false) ∷ ts) e = (tt, none_met ts e)

-- a record that meets no test is a class that has room, or one more record of a group that has room
module _ (p : Place) (r : List ℕ) (e : first_met (record_tests (located p r)) ≡ none) where
  fails : All Fails (record_tests (located p r))
  fails = none_met (record_tests (located p r)) e

  pub class_room : is_class r ≡ true → p.classes < 256
  unfolding record_tests place located
  class_room q = nleb→lt 256 p.classes (not_or_l (leb 256 p.classes) (leb 255 0) (rw (q, place) at fails.1.1.1.1.0))

  pub group_room : is_class r ≡ false → (0 < group_records p.group) × (group_records p.group < 255)
  unfolding record_tests place located
  group_room q = (
    ltb→lt 0 (group_records p.group) (un_not (ltb 0 (group_records p.group)) (rw (q, place) at fails.1.1.0)),
    nleb→lt 255 (group_records p.group) (not_or_r (leb 256 (p.classes - 1)) (leb 255 (group_records p.group)) (rw (q, place) at fails.1.1.1.1.0)),
  )

  pub group_open : is_class r ≡ false → IsSome p.group
  group_open q = go p.group (group_room q).0
    where
      go : (o : StdOption OpenGroup) → 0 < group_records o → IsSome o
      go None h = absurd (omega arith)
      go (Some g) h = refl

-- what refuses the record that bytes begin with
pub refused_is : (p : Place) (s : List ℕ) {r : List ℕ} → whole_first s ≡ true → r ≡ first_record s → refused_at p s ≡ first_met (record_tests (located p r))
unfolding refused_at
refused_is p s w e = rw (w, refused_at, e)

pub kind_first : (s : List ℕ) → whole_first s ≡ true → kind (first_record s) ≡ u16 s 2
unfolding kind first_record
kind_first s w = let f = first_is s (true_t w) in u16_take (u16 s 0) s 2 (omega (arith, f))

pub refused_kind : (p : Place) (s : List ℕ) → whole_first s ≡ true → (u16 s 2 ≡ 0) ⊎ (8 < u16 s 2) → refused_at p s ≡ some 3
unfolding record_tests place located first_met
refused_kind p s w k = refused_is p s w refl ∙ rw (no_kind (sheet_number p.side) (first_record s) (rw (kind_first s w) k))
