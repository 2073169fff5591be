-- The second pass over some classes, which are those of a sheet or of both, and over the records of a class.
-- Assumes nothing.
use mathlib.Core.Path.{◌≡◌, refl, sym, ap, ◌∙◌, subst}
use mathlib.Core.Bool.{Bool, false, not}
use mathlib.Core.List.{List, [], ◌∷◌, map}
use mathlib.Core.Option.{none, some}
use Prim.Native.Nat.{ℕ, suc, ◌+◌, ◌-◌, ◌≤◌, ◌<◌}
use native.Mathlib.Nat.{sub-zero}
use native.Mathlib.Omega.{arith}
use lib.Dec.{T}
use lib.ListN.{length, length-append}
use Rattle.spec.specs.Lists.{any, concat, first_of, span}
use Rattle.spec.specs.Record.{is_class}
use Rattle.spec.specs.Sheet.{Group, total, class_record, Located}
use Rattle.spec.specs.Refusals.{Refusal, form_tests, form_refusal, one_class}
use Rattle.laws.proofs.All.{All, weaken}
use Rattle.laws.proofs.Bools.{and_r}
use Rattle.theory.proofs.Answers.{skip_none, first_some}
use Rattle.theory.proofs.Form.{group_one_class}
use Rattle.groups.specs.Groups.{sheet_number, start_of, end_of}
use Rattle.groups.proofs.Held.{end_small}
use Rattle.refusals.specs.declared.Side.TheVariants.{Library, User}
use Rattle.sheets.specs.Sheets.{Pair, Passed, count, groups, library_count}
use Rattle.second.specs.Second.{first_met, form_number, form_of, class_refusal, classes_refusal, form_in, side_refusal}
use Rattle.sheets.proofs.Indexes.{indexed}
use Rattle.second.proofs.Classes.{others, library_along, user_along, both_along, first_class, no_class}

-- ---- class by class

module _ (p : Pair) where
  abbrev tests : Located → List (ℕ × Bool)
  tests l = form_tests (groups p) (library_count p) (count p) l

  same : (l : Located) → first_met (tests l) ≡ form_number p l.class l.bytes
  unfolding form_number form_tests
  same l = refl

-- the classes from c on are c, then those from the next one on
module _ (p : Pair) (c past : ℕ) where
  pub classes_end : past ≤ c → classes_refusal p c past ≡ none
  unfolding classes_refusal span first_of
  classes_end h = let e : past - c ≡ 0 = omega arith in rw e refl

  module _ (h : c < past) where
    opened : classes_refusal p c past ≡ first_of (class_refusal p c ∷ map (class_refusal p) (span (c + 1) (past - (c + 1))))
    unfolding classes_refusal span
    opened =
        let e : past - c ≡ suc (past - (c + 1)) = omega arith in
        let k : suc c ≡ c + 1 = omega arith in
        ap (λ (m : ℕ). first_of (map (class_refusal p) (span c m))) e ∙ ap (λ (i : ℕ). first_of (class_refusal p c ∷ map (class_refusal p) (span i (past - (c + 1))))) k

    pub classes_stop : {a : Refusal} → class_refusal p c ≡ some a → classes_refusal p c past ≡ some a
    classes_stop e = opened ∙ first_some _ e

    pub classes_on : class_refusal p c ≡ none → classes_refusal p c past ≡ classes_refusal p (c + 1) past
    unfolding classes_refusal
    classes_on e = opened ∙ skip_none _ _ e

pub library_within : (p : Pair) → library_count p ≤ count p
unfolding total
library_within p = omega arith

-- the sheets' refusals are those of their classes
module _ {p : Pair} (w : Passed p) where
  pub all_classes : form_refusal p.library p.user ≡ classes_refusal p 0 (count p)
  unfolding form_refusal class_refusal classes_refusal
  all_classes = both_along (tests p) (form_number p) (same p) (indexed w) ∙ ap (λ (k : ℕ). first_of (map (class_refusal p) (span 0 k))) (sym (sub-zero (count p)))

  pub library_classes : side_refusal p Library ≡ classes_refusal p 0 (library_count p)
  unfolding form_in class_refusal classes_refusal
  library_classes =
      library_along (tests p) (form_number p) (same p) (indexed w) ∙ ap (λ (k : ℕ). first_of (map (class_refusal p) (span 0 k))) (sym (sub-zero (library_count p)))

  pub user_classes : side_refusal p User ≡ classes_refusal p (library_count p) (count p)
  unfolding form_in class_refusal classes_refusal
  user_classes = user_along (tests p) (form_number p) (same p) (indexed w)

  -- the first class that is refused refuses them; where none is, nothing does
  pub class_refused : (c : ℕ) → c < count p → ((d : ℕ) → d < c → class_refusal p d ≡ none) → {a : Refusal} → class_refusal p c ≡ some a
      → form_refusal p.library p.user ≡ some a
  unfolding form_refusal class_refusal
  class_refused c h f e = first_class (tests p) (form_number p) (same p) (indexed w) c h f e

  pub none_refused : ((d : ℕ) → d < count p → class_refusal p d ≡ none) → form_refusal p.library p.user ≡ none
  unfolding form_refusal class_refusal
  none_refused f = no_class (tests p) (form_number p) (same p) (indexed w) f

-- ---- the records of one class

-- the CLASS record comes first, and is the only one
one_first : (h : Group) → T (one_class h) → All (λ r. T (is_class r) → r ≡ class_record h) h
unfolding one_class class_record
one_first [] w = absurd w
one_first (r ∷ rs) w = (
  λ t. refl,
  weaken (λ q. is_class q ≡ false) (λ q. T (is_class q) → q ≡ r) (λ q e t. absurd (rw e at t)) rs (others rs (and_r (is_class r) (not (any is_class rs)) w)),
)

-- the walk over the records of class c has come to those that are left, of which the first begins at `at`
pub record Going (p : Pair) (c at : ℕ) (left : Group) : Type 0 where
  pub first : All (λ r. T (is_class r) → r ≡ class_record (groups p c)) left
  pub small : at + length (concat left) ≤ 32768
  pub rest : form_of (form_number p c) (sheet_number (library_count p) c) at left ≡ class_refusal p c

pub going_start : {p : Pair} → Passed p → {c : ℕ} → c < count p → {at : ℕ} → at ≡ start_of p.library p.user c → {left : Group} → left ≡ groups p c → Going p c at left
unfolding class_refusal end_of
going_start {p} w {c} h ea el = rw (ea, el) (record {
  first = one_first (groups p c) (group_one_class p.library p.user c h);
  small = end_small (indexed w) h;
  rest = refl;
})

module _ {p : Pair} {c at : ℕ} {left : Group} (w : Going p c at left) where
  pub going_end : left ≡ [] → class_refusal p c ≡ none
  unfolding form_of
  going_end e = sym (rw e at w.rest)

  module _ {r : List ℕ} {rs : Group} (e : left ≡ r ∷ rs) where
    here : Going p c at (r ∷ rs)
    here = subst (Going p c at) e w

    pub going_first : T (is_class r) → r ≡ class_record (groups p c)
    going_first = here.first.0

    pub going_low : at + length r ≤ 32768
    unfolding concat
    going_low = omega (arith, here.small, length-append r (concat rs))

    pub going_on : none ≡ form_number p c r → Going p c (at + length r) rs
    unfolding concat form_of
    going_on q = record { first = here.first.1; small = omega (arith, here.small, length-append r (concat rs)); rest = rw (sym q, form_of) at here.rest }

    pub going_stop : {k : ℕ} → some k ≡ form_number p c r
        → class_refusal p c ≡ some (record { number = k; sheet = sheet_number (library_count p) c; byte = at })
    unfolding form_of
    going_stop q = sym (rw (sym q, form_of) at here.rest)
