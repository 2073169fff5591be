-- A record of a class where it stands: a CLASS record just where it is the first.
-- Assumes nothing.
use mathlib.Core.Path.{◌≡◌, refl, subst}
use mathlib.Core.Bool.{Bool, true, false, not}
use mathlib.Core.List.{List}
use mathlib.Core.Option.{none}
use Prim.Native.Nat.{ℕ, ◌<◌}
use native.Mathlib.Omega.{arith}
use lib.Dec.{T, eqb→eq}
use borrow.Author.Tests.{eq-eqb, ne_eqb}
use Rattle.spec.specs.Lists.{any}
use Rattle.spec.specs.Record.{kind, is_class, CLASS}
use Rattle.spec.specs.Sheet.{Group, class_record}
use Rattle.spec.specs.Refusals.{one_class, form_refusal}
use Rattle.spec.specs.Relations.{At, here, next}
use Rattle.laws.proofs.Bools.{and_l, and_r, eq→eqb}
use Rattle.laws.proofs.All.{All, not_any, at_member}
use Rattle.laws.proofs.Members.{at_in}
use Rattle.theory.proofs.Accept.{RecordFits, form_fits}
use Rattle.theory.proofs.References.{references_refers}
use Rattle.sheets.specs.Sheets.{Pair, count, groups, library_count}
use Rattle.slots.specs.declared.Late.{Late as LateRule}
use Rattle.slots.specs.Slots.{head_breaks, field_breaks}
use Rattle.breaks.specs.declared.rule.Rule.TheVariants.{Late}
use Rattle.breaks.specs.Bans.{Refers}
use Rattle.breaks.specs.Breaking.{breaks_at}

-- ---- the first record

pub first_is : {h : Group} {k : ℕ} {r : List ℕ} → At h k r → k ≡ 0 → r ≡ class_record h
unfolding class_record
first_is here e = refl
first_is (next a) e = absurd (omega arith)

-- it is a CLASS record, and no other one is
pub first_class : {h : Group} {k : ℕ} {r : List ℕ} → T (one_class h) → At h k r → k ≡ 0 → kind r ≡ 1
unfolding one_class
first_class o (here {x} {xs}) e = eqb→eq (kind x) CLASS (and_l (is_class x) (not (any is_class xs)) o)
first_class o (next a) e = absurd (omega arith)

pub class_first : {h : Group} {k : ℕ} {r : List ℕ} → T (one_class h) → At h k r → kind r ≡ 1 → k ≡ 0
unfolding one_class
class_first o here e = refl
class_first {r = r} o (next {y} {xs} a) e =
    absurd (later (is_class r) (at_member (λ s. T (not (is_class s))) xs (not_any is_class xs (and_r (is_class y) (not (any is_class xs)) o)) (at_in a)) (eq→eqb e))
  where
    later : (b : Bool) → T (not b) → T b → ⊥
    later true n t = n
    later false n t = t

-- ---- the record names what is there

pub refers_there : (p : Pair) → form_refusal p.library p.user ≡ none → (t : ℕ) {k : ℕ} {r : List ℕ} → At (groups p t) k r → Refers (count p) (groups p) r
refers_there p e t {r = r} a =
    let f : RecordFits (library_count p) (count p) (groups p) t r = at_member (RecordFits (library_count p) (count p) (groups p) t) (groups p t) (form_fits p.library p.user e t) (at_in a) in
    record {
      class = λ u. (subst (All (λ d. d < count p)) (references_refers r u) f.there).0;
      member = f.member;
    }

-- ---- rules 7 to 10

module _ (nlib : ℕ) (g : ℕ → Group) (rule : LateRule) (t : ℕ) {k : ℕ} (r : List ℕ) {b : Bool} where
  pub rule_head : k ≡ 0 → b ≡ head_breaks nlib g rule t → b ≡ breaks_at nlib g (Late rule) t k r
  rule_head z e = rw (eq-eqb k 0 z, breaks_at) e

  pub rule_field : (k ≡ 0 → ⊥) → b ≡ field_breaks g rule t k r → b ≡ breaks_at nlib g (Late rule) t k r
  rule_field n e = rw (ne_eqb k 0 n, breaks_at) e
