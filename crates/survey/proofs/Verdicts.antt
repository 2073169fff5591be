-- A verdict is clean exactly if the class breaks nothing that is asked at once.
-- Assumes nothing.
use mathlib.Core.Path.{◌≡◌, refl, sym, ap, ap₂, ◌∙◌}
use mathlib.Core.Bool.{Bool, true, false, not, ◌&&◌, ◌||◌, and-true, or-false}
use mathlib.Core.List.{List, [], ◌∷◌, ◌++◌}
use Prim.Native.Nat.{ℕ, suc}
use native.Mathlib.Omega.{arith}
use lib.Dec.{eqb→eq}
use borrow.Author.Tests.{ne_eqb}
use Rattle.spec.specs.Lists.{any, keep, gather, numbered, only_if}
use Rattle.spec.specs.Record.{bit, is_kind, REFERS, flags, target, index, references}
use Rattle.spec.specs.Sheet.{Group, class_record, is_interface}
use Rattle.spec.specs.Markers.{Immutable, Powerless, Selfless, DeepSelfless}
use Rattle.spec.specs.Classes.{own_slots, superclasses, overlay, has_marker, lineage, root, slots}
use Rattle.spec.specs.Rules.{Fault, Verdict, clean, static_breaks, slot_fault, fault_if, faults_at, member_allowed, judged_for, root_fits, base_fits, base_faults, forbidden, slot_faults, root_faults}
use Rattle.spec.specs.Rules.{rule1, rule2, rule3, rule4, rule5, rule6, rule7, rule8, rule9, rule10, rules, first_broken, verdict_of}
use Rattle.laws.proofs.Bools.{true_t, and_l, and_r}
use Rattle.theory.proofs.Somewhere.{any_gather, any_numbered, any_same, any_either, any_never, some, some_append, some_map, some_only, some_keep, some_gather}
use Rattle.slots.specs.declared.Late.{Late}
use Rattle.slots.specs.declared.Late.TheVariants as late
use Rattle.slots.specs.Slots.{slot_fits, root_breaks, base_breaks, slots_break}
use Rattle.survey.specs.Survey.{is_clean, head_by, head_fails, any_late, record_breaks, line_breaks, late_breaks, class_breaks}

pub clean_both : (v : Verdict) → is_clean v ≡ true → v ≡ clean
unfolding is_clean
clean_both v e =
    let t = true_t e in
    let rule : v.rule ≡ 0 = search (eqb→eq, and_l, t) in
    let record_number : v.record_number ≡ 0 = search (eqb→eq, and_l, and_r, t) in
    let class : v.class ≡ 0 = search (eqb→eq, and_l, and_r, t) in
    λ i. record { rule = rule i; record_number = record_number i; class = class i }

-- a verdict is clean if no rule has a fault
pub first_clean : (n : ℕ) (fss : List (List Fault)) → is_clean (first_broken (suc n) fss) ≡ not (any some fss)
unfolding first_broken any some is_clean
first_clean n [] = refl
first_clean n ([] ∷ rest) = first_clean (suc n) rest
first_clean n ((f ∷ fs) ∷ rest) = rw (ne_eqb (suc n) 0 (λ e. omega arith))

-- ---- a rule has a fault if something breaks it

some_if : (b : Bool) (c : ℕ) → some (fault_if b c) ≡ b
unfolding fault_if some
some_if b c = some_only b (record { class = c; record_number = 0 } ∷ []) ∙ and-true b

module _ (g : ℕ → Group) (c : ℕ) where
  some_at : (bad : List ℕ → Bool) → some (faults_at g bad c) ≡ any bad (g c)
  unfolding faults_at
  some_at bad = some_map _ (keep (λ (n : ℕ × List ℕ). bad n.1) (numbered 0 (g c))) ∙ some_keep (λ (n : ℕ × List ℕ). bad n.1) (numbered 0 (g c)) ∙ any_numbered bad 0 (g c)

  -- the faults that stand at record 0, one for each of some classes
  some_each : (bad : ℕ → Bool) (place : ℕ → ℕ) (ds : List ℕ) → some (gather (λ d. fault_if (bad d) (place d)) ds) ≡ any bad ds
  some_each bad place ds = some_gather (λ d. fault_if (bad d) (place d)) ds ∙ any_same (λ d. some (fault_if (bad d) (place d))) bad (λ d. some_if (bad d) (place d)) ds

  some_base : some (base_faults g c) ≡ base_breaks g c
  unfolding base_faults base_breaks
  some_base = some_each (λ s. not (base_fits g (flags (class_record (g c))) s)) (λ s. c) (superclasses (g c))

module _ (nlib : ℕ) (g : ℕ → Group) (c : ℕ) where
  module _ (rule : Late) where
    some_slots : some (slot_faults nlib g (slot_fits g rule) c) ≡ any (slots_break g rule) (lineage nlib g c)
    unfolding slot_faults slots slots_break
    some_slots =
        some_map slot_fault (keep (λ s. not (slot_fits g rule s)) (slots nlib g c)) ∙ some_keep (λ s. not (slot_fits g rule s)) (slots nlib g c)
        ∙ any_gather (λ s. not (slot_fits g rule s)) (own_slots g) (lineage nlib g c)

    -- rules 7, 8 and 10 ask the root
    some_late : (k : ℕ) (extra : List Fault) → some extra ≡ any (root_breaks g rule) (root nlib g c)
        → some (only_if (judged_for g k c) (slot_faults nlib g (slot_fits g rule) c ++ extra)) ≡ (judged_for g k c && line_breaks nlib g rule c)
    unfolding line_breaks
    some_late k extra e =
        some_only (judged_for g k c) (slot_faults nlib g (slot_fits g rule) c ++ extra)
        ∙ ap (λ (b : Bool). judged_for g k c && b) (some_append (slot_faults nlib g (slot_fits g rule) c) extra ∙ ap₂ (λ (a b : Bool). a || b) some_slots e)

  some7 : some (rule7 nlib g c) ≡ (judged_for g Immutable c && line_breaks nlib g late.Immutable c)
  unfolding rule7 root_faults
  some7 = some_late late.Immutable Immutable (root_faults nlib g Immutable c) (some_each g c (λ d. not (root_fits g Immutable d)) (λ d. d) (root nlib g c))

  some8 : some (rule8 nlib g c) ≡ (judged_for g Powerless c && line_breaks nlib g late.Powerless c)
  unfolding rule8 root_faults
  some8 = some_late late.Powerless Powerless (root_faults nlib g Powerless c) (some_each g c (λ d. not (root_fits g Powerless d)) (λ d. d) (root nlib g c))

  some10 : some (rule10 nlib g c) ≡ (judged_for g DeepSelfless c && line_breaks nlib g late.DeepSelfless c)
  unfolding rule10 root_faults
  some10 = some_late late.DeepSelfless DeepSelfless (root_faults nlib g DeepSelfless c) (some_each g c (λ d. not (root_fits g DeepSelfless d)) (λ d. d) (root nlib g c))

  -- rule 9 asks the superclass instead
  some9 : some (rule9 nlib g c) ≡ (judged_for g Selfless c && (line_breaks nlib g late.Selfless c || base_breaks g c))
  unfolding rule9 line_breaks
  some9 =
      some_only (judged_for g Selfless c) (slot_faults nlib g (slot_fits g late.Selfless) c ++ base_faults g c)
      ∙ ap (λ (b : Bool). judged_for g Selfless c && b)
      (some_append (slot_faults nlib g (slot_fits g late.Selfless) c) (base_faults g c)
      ∙ ap₂ (λ (a b : Bool). a || b) (some_slots late.Selfless ∙ sym (or-false (any (slots_break g late.Selfless) (lineage nlib g c)))
      ∙ ap (λ (b : Bool). any (slots_break g late.Selfless) (lineage nlib g c) || b) (sym (any_never (root nlib g c)))) (some_base g c))

  -- ---- all ten

  records_are : any (record_breaks nlib g) (g c) ≡ (some (rule5 nlib g c) || (some (rule2 nlib g c) || some (rule1 nlib g c)))
  unfolding record_breaks rule1 rule2 rule5
  records_are =
      any_either (static_breaks g) (λ r. two r || one r) (g c)
      ∙ ap₂ (λ (a b : Bool). a || b) (sym (some_at g c (static_breaks g))) (any_either two one (g c) ∙ ap₂ (λ (a b : Bool). a || b) (sym (some_at g c two)) (sym (some_at g c one)))
    where
      one : List ℕ → Bool
      one r = any (forbidden nlib g) (references r)

      two : List ℕ → Bool
      two r = is_kind REFERS r && not (member_allowed g (target r) (index r))

  head_is : head_fails (class_record (g c)) (overlay g c) ≡ (some (rule3 nlib g c) || (some (rule4 nlib g c) || some (rule6 nlib g c)))
  unfolding head_fails head_by rule3 rule4 rule6
  head_is = ap₂ (λ (a b : Bool). a || b) (sym (some_if _ c)) (ap₂ (λ (a b : Bool). a || b) (sym (some_if _ c)) (sym (some_if _ c)))

  late_is : (not (is_interface (g c)) && late_breaks nlib g c) ≡ (some (rule7 nlib g c) || (some (rule8 nlib g c) || (some (rule9 nlib g c) || (some (rule10 nlib g c) || false))))
  unfolding late_breaks any_late any judged_for has_marker
  late_is = rw (some7, some8, some9, some10)
      (shuffle (not (is_interface (g c))) (bit 0 (overlay g c)) (bit 1 (overlay g c)) (bit 2 (overlay g c)) (bit 7 (overlay g c))
      (line_breaks nlib g late.Immutable c) (line_breaks nlib g late.Powerless c) (line_breaks nlib g late.Selfless c) (base_breaks g c) (line_breaks nlib g late.DeepSelfless c))
    where
      joined : (p q x b r : Bool) → (b || (p || (q || (x || r)))) ≡ (p || (q || ((x || b) || r)))
      joined true q x true r = refl
      joined true q x false r = refl
      joined false true x true r = refl
      joined false true x false r = refl
      joined false false true true r = refl
      joined false false true false r = refl
      joined false false false true r = refl
      joined false false false false r = refl

      shuffle : (i m7 m8 m9 m10 x7 x8 x9 b x10 : Bool)
          → (i && ((m9 && b) || ((m7 && x7) || ((m8 && x8) || ((m9 && x9) || ((m10 && x10) || false))))))
          ≡ (((i && m7) && x7) || (((i && m8) && x8) || (((i && m9) && (x9 || b)) || (((i && m10) && x10) || false))))
      shuffle false m7 m8 m9 m10 x7 x8 x9 b x10 = refl
      shuffle true m7 m8 true m10 x7 x8 x9 b x10 = joined (m7 && x7) (m8 && x8) x9 b ((m10 && x10) || false)
      shuffle true m7 m8 false m10 x7 x8 x9 b x10 = refl

  pub breaks_is : class_breaks nlib g c ≡ any some (rules nlib g c)
  unfolding class_breaks rules any
  breaks_is =
      ap₂ (λ (a b : Bool). a || b) records_are (ap₂ (λ (a b : Bool). a || b) head_is late_is)
      ∙ order (some (rule1 nlib g c)) (some (rule2 nlib g c)) (some (rule5 nlib g c)) (some (rule3 nlib g c)) (some (rule4 nlib g c)) (some (rule6 nlib g c)) _
    where
      order : (a b e c d f l : Bool) → ((e || (b || a)) || ((c || (d || f)) || l)) ≡ (a || (b || (c || (d || (e || (f || l))))))
      order true true true c d f l = refl
      order true true false c d f l = refl
      order true false true c d f l = refl
      order true false false c d f l = refl
      order false true true c d f l = refl
      order false true false c d f l = refl
      order false false true true d f l = refl
      order false false true false true f l = refl
      order false false true false false f l = refl
      order false false false true d f l = refl
      order false false false false true f l = refl
      order false false false false false f l = refl

  pub clean_is : is_clean (verdict_of nlib g c) ≡ not (class_breaks nlib g c)
  unfolding verdict_of
  clean_is = first_clean 0 (rules nlib g c) ∙ ap not (sym breaks_is)
