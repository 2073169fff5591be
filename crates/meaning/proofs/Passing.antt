-- The first pass of a user sheet, group by group: shaped records, few groups, and each of them short and rising by kind.
-- Assumes nothing.
use mathlib.Core.Path.{◌≡◌, refl, sym, ap, subst}
use mathlib.Core.Bool.{Bool, true, false}
use mathlib.Core.List.{List, [], ◌∷◌}
use mathlib.Core.Option.{none}
use Prim.Native.Nat.{ℕ, zero, suc, ◌+◌, ◌≤◌, zero-le}
use native.Mathlib.Omega.{arith}
use lib.Dec.{T, leb, ltb, lt→ltb}
use lib.ListN.{length}
use Rattle.spec.specs.Record.{kind, is_class, kind_fits, length_fits, body_fits}
use Rattle.spec.specs.Sheet.{Group, Split, Located, locate, located_in, split_groups, records_of, groups_of, class_count}
use Rattle.spec.specs.Refusals.{record_tests, record_refusal}
use Rattle.spec.proofs.Also.{◌also◌}
use Rattle.laws.proofs.Bools.{not_not, not_or, nltb, nleb}
use Rattle.laws.proofs.All.{All}
use Rattle.theory.proofs.Cut.{split_class, split_other}
use Rattle.theory.proofs.Answers.{Fails, unrefused}
use Rattle.theory.proofs.Accept.{Passed, locate_if}
use Rattle.theory.proofs.Order.{Ascends}
use Rattle.meaning.proofs.Shaped.{Shaped}

-- ---- the first pass of a sheet whose records are shaped: its groups are few, short and rise by kind

-- a group whose records pass
pub record Good (g : Group) : Type 0 where
  pub shaped : All Shaped g
  pub climbs : Ascends 0 g
  pub short : length g ≤ 255

-- records that stand after n classes and k records of the open group, of which the last has kind p
record Ready (n k p : ℕ) (t : Split) : Type 0 where
  shaped : All Shaped t.loose
  climbs : Ascends p t.loose
  short : k + length t.loose ≤ 255
  begun : k ≡ 0 → length t.loose ≡ 0
  groups : All Good t.groups
  few : n + length t.groups ≤ 256

passes : (at n k p : ℕ) (rs : List (List ℕ)) → Ready n k p (split_groups rs) → All Passed (locate 1 at n k p rs)
unfolding locate locate_if
passes at n k p [] h = tt
passes at n k p (r ∷ rs) h = go (is_class r) refl (passes (at + length r) (suc n) 1 (kind r) rs) (passes (at + length r) n (suc k) (kind r) rs)
  where
    within : (k m : ℕ) → (k ≡ 0 → suc m ≡ 0) → T (ltb 0 k)
    within zero m f = let z : suc m ≡ 0 = f refl in absurd (omega arith)
    within (suc k) m f = lt→ltb 0 (suc k) (omega arith)

    go : (b : Bool) → is_class r ≡ b → (Ready (suc n) 1 (kind r) (split_groups rs) → All Passed (locate 1 (at + length r) (suc n) 1 (kind r) rs))
        → (Ready n (suc k) (kind r) (split_groups rs) → All Passed (locate 1 (at + length r) n (suc k) (kind r) rs)) → All Passed (locate_if 1 at n k p r rs b)
    go true e f f' =
        let t = subst (Ready n k p) (split_class r rs e) h in
        let g = t.groups.0 in
        let s : Shaped r = g.shaped.0 in (
          record { kind_fits = s.kind_fits; length_fits = s.length_fits; grouped = tt; body_fits = s.body_fits; class = omega (arith, t.few); record_number = omega arith; ordered = zero-le },
          f (record {
            shaped = g.shaped.1;
            climbs = g.climbs.1;
            short = omega (arith, g.short);
            begun = λ z. absurd (omega arith);
            groups = t.groups.1;
            few = omega (arith, t.few);
          }),
        )
    go false e f f' =
        let t = subst (Ready n k p) (split_other r rs e) h in
        let s : Shaped r = t.shaped.0 in (
          record {
            kind_fits = s.kind_fits;
            length_fits = s.length_fits;
            grouped = within k (length (split_groups rs).loose) t.begun;
            body_fits = s.body_fits;
            class = omega (arith, t.few);
            record_number = omega (arith, t.short);
            ordered = t.climbs.0;
          },
          f' (record {
            shaped = t.shaped.1;
            climbs = t.climbs.1;
            short = omega (arith, t.short);
            begun = λ z. absurd (omega arith);
            groups = t.groups;
            few = t.few;
          }),
        )

fails : (l : Located) → Passed l → All Fails (record_tests l)
unfolding record_tests
fails l p =
    not_not (kind_fits l.sheet l.bytes) p.kind_fits
    also not_not (length_fits l.bytes) p.length_fits
    also not_not l.grouped p.grouped
    also not_not (body_fits l.sheet l.bytes) p.body_fits
    also not_or (leb 256 l.class) (leb 255 l.record_number) (nleb 256 l.class p.class) (nleb 255 l.record_number p.record_number)
    also nltb (kind l.bytes) l.before p.ordered
    also tt

pub good_passes : (n : ℕ) (s : List ℕ) → (split_groups (records_of s)).loose ≡ [] → All Good (groups_of s) → n + class_count s ≤ 256 → record_refusal 1 n s ≡ none
unfolding record_refusal located_in groups_of class_count
good_passes n s e g few =
    unrefused record_tests Passed fails (locate 1 0 n 0 0 (records_of s)) (passes 0 n 0 0 (records_of s) (record {
      shaped = subst (All Shaped) (sym e) tt;
      climbs = subst (Ascends 0) (sym e) tt;
      short = omega (arith, ap length e);
      begun = λ z. ap length e;
      groups = g;
      few = few;
    }))
