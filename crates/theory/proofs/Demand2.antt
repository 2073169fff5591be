-- Demand 2: the verdict of a user class is clean exactly if it breaks no rule anywhere, else the lowest broken rule and, of its faults, the first in the walk. No other verdict is right.
-- Assumes nothing.
use mathlib.Core.Path.{◌≡◌, sym, subst}
use mathlib.Core.Logic.{◌⊎◌, inl, inr, ◌≢◌, ◌↔◌}
use mathlib.Core.Bool.{Bool, not, ◌&&◌, ◌||◌}
use mathlib.Core.List.{List, [], ◌∷◌, ◌++◌}
use Prim.Native.Nat.{ℕ, ◌+◌, ◌≤◌, ◌<◌}
use native.Mathlib.Omega.{arith}
use lib.Dec.{T, T_not, not_T, eqb, ltb, eqb→eq, ltb→lt, lt→ltb, lit<}
use lib.ListN.{length, take}
use Rattle.spec.specs.Lists.{any, only_if}
use Rattle.spec.specs.Record.{bit, is_kind, CLASS, FIELD, REFERS, flags, own_markers, target, index, Ty, field_ty, is_final, is_static, references}
use Rattle.spec.specs.Sheet.{Group, class_count, group, class_record, of_kind, is_interface, is_allowed, is_static_field}
use Rattle.spec.specs.Markers.{Immutable, Powerless, Selfless, Equatable, Token, Throwable, Enum, DeepSelfless, clash}
use Rattle.spec.specs.Classes.{superclasses, overlay, has_marker, satisfies, root, slots}
use Rattle.spec.specs.Rules.{Fault, Verdict, static_breaks, member_allowed, judged_for, root_fits, base_fits, base_faults, forbidden, slot_faults, root_faults, rule1}
use Rattle.spec.specs.Rules.{rule2, rule3, rule4, rule5, rule6, rule7, rule8, rule9, rule10, rules, verdict_of}
use Rattle.spec.specs.Relations.{Marked}
use Rattle.spec.specs.Breaks.{Not, Flag, Allowed, Satisfies, SlotShape, type_of, Final, Transient, HasSlot, Lacks, slot, root as root_lacks, Varies, Drops}
use Rattle.spec.specs.Breaks.{SelflessBase, marked, overrides, UnfitBase, unfit, Claims, Breaks, rule1 as breaks1, rule2 as breaks2, rule3 as breaks3, rule4 as breaks4}
use Rattle.spec.specs.Breaks.{rule5 as breaks5, rule6 as breaks6, rule7 as breaks7, rule8 as breaks8, rule9 as breaks9, rule10 as breaks10}
use Rattle.spec.specs.Verdicts.{verdict_at}
use Rattle.theory.specs.Claims.{Relations, Right, Demand2, OnlyOne}
use Rattle.laws.proofs.Bools.{decide, t_and, and_l, and_r, or_cases, or_l, or_r, not_or_l, not_or_r, not_or, un_not, not_not, not_mono, not_and_r, eq→eqb}
use Rattle.laws.proofs.Members.{any_mem, mem_any}
use Rattle.laws.proofs.Sorted.{Lone}
use Rattle.theory.proofs.Groups.{superclass_is, superclasses_lone, first_own, first_record, flag_is}
use Rattle.theory.proofs.Lines.{root_lone}
use Rattle.theory.proofs.Listed.{Listed}
use Rattle.theory.proofs.Slots.{member_is, satisfies_is, final_of, transient_of, slot_of, final_is, transient_is, Shows, slots_listed}
use Rattle.theory.proofs.Faults.{Finds, finds_same, Spot, spot, finds_at, Whole, whole, finds_if, Each, each, Slotted, slotted, finds_judged}
use Rattle.theory.proofs.First.{Told, right, one_at, right_one}
use Rattle.theory.proofs.Form.{classes_lone, relations_hold}

-- ---- tests and their opposites

not_fails : {P : Type 0} (b : Bool) → T b ↔ P → T (not b) ↔ Not P
not_fails b e = ((λ t p. T_not b t (e.1 p)), (λ h. not_T b (λ t. h (e.0 t))))

both : {P Q : Type 0} (a b : Bool) → T a ↔ P → T b ↔ Q → T (a && b) ↔ (P × Q)
both a b p q = ((λ t. (p.0 (and_l a b t), q.0 (and_r a b t))), (λ h. t_and a b (p.1 h.0) (q.1 h.1)))

either : {P Q : Type 0} (a b : Bool) → T a ↔ P → T b ↔ Q → T (a || b) ↔ (P ⊎ Q)
either {P} {Q} a b p q = ((λ t. there (or_cases a b t)), back)
  where
    there : T a ⊎ T b → P ⊎ Q
    there (inl t) = inl (p.0 t)
    there (inr t) = inr (q.0 t)

    back : P ⊎ Q → T (a || b)
    back (inl x) = or_l a b (p.1 x)
    back (inr y) = or_r a b (q.1 y)

-- one of two tests fails
fails_both : {P Q : Type 0} (a b : Bool) → T (not a) ↔ P → T (not b) ↔ Q → T (not (a && b)) ↔ (P ⊎ Q)
fails_both {P} {Q} a b p q = ((λ t. there t (decide a)), back)
  where
    there : T (not (a && b)) → T a ⊎ T (not a) → P ⊎ Q
    there t (inl u) = inr (q.0 (not_and_r a b t u))
    there t (inr u) = inl (p.0 u)

    back : P ⊎ Q → T (not (a && b))
    back (inl x) = not_mono (a && b) a (and_l a b) (p.1 x)
    back (inr y) = not_mono (a && b) b (and_r a b) (q.1 y)

same : {P : Type 0} → P ↔ P
same = ((λ x. x), (λ x. x))

-- ---- the rules of one class

module _ (nlib : ℕ) (g : ℕ → Group) (rel : Relations nlib g) (alone : (c : ℕ) → Lone (of_kind CLASS (g c))) (c : ℕ) (user : nlib ≤ c) where
  has : (m d : ℕ) → m < 8 → T (has_marker g m d) ↔ Marked g d m
  has m d h = rel.marked d m h

  own_flag : (k : ℕ) → T (bit k (flags (class_record (g c)))) ↔ Flag k (g c)
  own_flag k = flag_is k (g c)

  -- ---- rules 1, 2 and 5: a record of the own group

  forbidden_is : (d : ℕ) → T (forbidden nlib g d) ↔ ((d < nlib) × Not (Flag 8 (g d)))
  unfolding forbidden is_allowed
  forbidden_is d =
      both (ltb d nlib) (not (bit 8 (flags (class_record (g d))))) (ltb→lt d nlib, lt→ltb d nlib) (not_fails (bit 8 (flags (class_record (g d)))) (flag_is 8 (g d)))

  names : List ℕ → Bool
  names r = any (forbidden nlib g) (references r)

  finds1 : Finds (Breaks nlib g c 1) (rule1 nlib g c)
  unfolding rule1 names
  finds1 = finds_same (λ w d k. (there, back)) (finds_at g c names)
    where
      there : {w : List ℕ} {d k : ℕ} → Spot g c names w d k → Breaks nlib g c 1 w d k
      there (spot {r} a t) =
          let b = any_mem (forbidden nlib g) (references r) t in
          let q = (forbidden_is b.0).0 b.2 in
          breaks1 a b.1 q.0 q.1

      back : {w : List ℕ} {d k : ℕ} → Breaks nlib g c 1 w d k → Spot g c names w d k
      back (breaks1 {d} a m l n) = spot a (mem_any (forbidden nlib g) m ((forbidden_is d).1 (l, n)))

  refers : List ℕ → Bool
  refers r = is_kind REFERS r && not (member_allowed g (target r) (index r))

  refers_is : (r : List ℕ) → T (refers r) ↔ (T (is_kind REFERS r) × Not (Allowed (g (target r)) (index r)))
  unfolding refers
  refers_is r = both (is_kind REFERS r) (not (member_allowed g (target r) (index r))) same (not_fails (member_allowed g (target r) (index r)) (member_is g (target r) (index r)))

  finds2 : Finds (Breaks nlib g c 2) (rule2 nlib g c)
  unfolding rule2 refers
  finds2 = finds_same (λ w d k. (there, back)) (finds_at g c refers)
    where
      there : {w : List ℕ} {d k : ℕ} → Spot g c refers w d k → Breaks nlib g c 2 w d k
      there (spot {r} a t) = let q = (refers_is r).0 t in breaks2 a q.0 q.1

      back : {w : List ℕ} {d k : ℕ} → Breaks nlib g c 2 w d k → Spot g c refers w d k
      back (breaks2 {r} a t n) = spot a ((refers_is r).1 (t, n))

  satisfied : (k : ℕ) (t : Ty) → k < 8 → T (satisfies g k t) ↔ Satisfies g k t
  satisfied = satisfies_is g rel.marked

  static_is : (r : List ℕ) → T (static_breaks g r) ↔ ((T (is_kind FIELD r) × T (is_static r)) × Not (T (is_final r) × Satisfies g Powerless (field_ty r)))
  unfolding is_static_field
  static_is r =
      both (is_kind FIELD r && is_static r) (not (is_final r && satisfies g Powerless (field_ty r))) (both (is_kind FIELD r) (is_static r) same same)
      (not_fails (is_final r && satisfies g Powerless (field_ty r)) (both (is_final r) (satisfies g Powerless (field_ty r)) same (satisfied Powerless (field_ty r) (lit< tt))))

  finds5 : Finds (Breaks nlib g c 5) (rule5 nlib g c)
  unfolding rule5
  finds5 = finds_same (λ w d k. (there, back)) (finds_at g c (static_breaks g))
    where
      there : {w : List ℕ} {d k : ℕ} → Spot g c (static_breaks g) w d k → Breaks nlib g c 5 w d k
      there (spot {r} a t) = let q = (static_is r).0 t in breaks5 a q.0.0 q.0.1 q.1

      back : {w : List ℕ} {d k : ℕ} → Breaks nlib g c 5 w d k → Spot g c (static_breaks g) w d k
      back (breaks5 {r} a t u n) = spot a ((static_is r).1 ((t, u), n))

  -- ---- rules 3, 4 and 6: the class as a whole

  -- three tests of one number
  three : {P Q R : Type 0} (a b d : Bool) → T a ↔ P → T b ↔ Q → T d ↔ R → T (a || b || d) ↔ (P ⊎ (Q ⊎ R))
  three {P} {Q} {R} a b d p q r = ((λ t. there ((either (a || b) d (either a b p q) r).0 t)), (λ h. (either (a || b) d (either a b p q) r).1 (back h)))
    where
      there : (P ⊎ Q) ⊎ R → P ⊎ (Q ⊎ R)
      there (inl (inl x)) = inl x
      there (inl (inr y)) = inr (inl y)
      there (inr z) = inr (inr z)

      back : P ⊎ (Q ⊎ R) → (P ⊎ Q) ⊎ R
      back (inl x) = inl (inl x)
      back (inr (inl y)) = inl (inr y)
      back (inr (inr z)) = inr z

  Kinds : ℕ → Type 0
  Kinds m = T (bit Token m) ⊎ (T (bit Throwable m) ⊎ T (bit Enum m))

  own_kinds : Kinds (own_markers (class_record (g c))) → Breaks nlib g c 3 (0 ∷ []) c 0
  unfolding Kinds
  own_kinds (inl t) = let r = first_own (g c) Token t in breaks3 r.1 (inl r.2)
  own_kinds (inr (inl t)) = let r = first_own (g c) Throwable t in breaks3 r.1 (inr (inl r.2))
  own_kinds (inr (inr t)) = let r = first_own (g c) Enum t in breaks3 r.1 (inr (inr r.2))

  kinds : ℕ → Bool
  kinds m = bit Token m || bit Throwable m || bit Enum m

  kinds_are : (m : ℕ) → T (kinds m) ↔ Kinds m
  unfolding kinds Kinds
  kinds_are m = three (bit Token m) (bit Throwable m) (bit Enum m) same same same

  finds3 : Finds (Breaks nlib g c 3) (rule3 nlib g c)
  unfolding rule3 kinds Kinds
  finds3 = finds_same (λ w d k. (there, back)) (finds_if (kinds (own_markers (class_record (g c)))) c)
    where
      there : {w : List ℕ} {d k : ℕ} → Whole (kinds (own_markers (class_record (g c)))) c w d k → Breaks nlib g c 3 w d k
      there (whole t) = own_kinds ((kinds_are (own_markers (class_record (g c)))).0 t)

      back : {w : List ℕ} {d k : ℕ} → Breaks nlib g c 3 w d k → Whole (kinds (own_markers (class_record (g c)))) c w d k
      back (breaks3 a t) = whole ((kinds_are (own_markers (class_record (g c)))).1 (subst (λ (r : List ℕ). Kinds (own_markers r)) (sym (first_record a)) t))

  clash_is : T (clash (overlay g c)) ↔ ((Marked g c Powerless × Marked g c Token) ⊎ (Marked g c Selfless × Marked g c Equatable))
  unfolding clash has_marker
  clash_is =
      let m : ℕ = overlay g c in
      either (bit Powerless m && bit Token m) (bit Selfless m && bit Equatable m)
      (both (bit Powerless m) (bit Token m) (has Powerless c (lit< tt)) (has Token c (lit< tt)))
      (both (bit Selfless m) (bit Equatable m) (has Selfless c (lit< tt)) (has Equatable c (lit< tt)))

  finds4 : Finds (Breaks nlib g c 4) (rule4 nlib g c)
  unfolding rule4
  finds4 = finds_same (λ w d k. (there, back)) (finds_if (clash (overlay g c)) c)
    where
      there : {w : List ℕ} {d k : ℕ} → Whole (clash (overlay g c)) c w d k → Breaks nlib g c 4 w d k
      there (whole t) = breaks4 (clash_is.0 t)

      back : {w : List ℕ} {d k : ℕ} → Breaks nlib g c 4 w d k → Whole (clash (overlay g c)) c w d k
      back (breaks4 h) = whole (clash_is.1 h)

  flagged : Bool
  flagged = bit 5 (flags (class_record (g c))) || bit 6 (flags (class_record (g c))) || bit 7 (flags (class_record (g c)))

  flags_are : T flagged ↔ (Flag 5 (g c) ⊎ (Flag 6 (g c) ⊎ Flag 7 (g c)))
  unfolding flagged
  flags_are = three (bit 5 (flags (class_record (g c)))) (bit 6 (flags (class_record (g c)))) (bit 7 (flags (class_record (g c)))) (own_flag 5) (own_flag 6) (own_flag 7)

  finds6 : Finds (Breaks nlib g c 6) (rule6 nlib g c)
  unfolding rule6 flagged
  finds6 = finds_same (λ w d k. (there, back)) (finds_if flagged c)
    where
      there : {w : List ℕ} {d k : ℕ} → Whole flagged c w d k → Breaks nlib g c 6 w d k
      there (whole t) = breaks6 (flags_are.0 t)

      back : {w : List ℕ} {d k : ℕ} → Breaks nlib g c 6 w d k → Whole flagged c w d k
      back (breaks6 h) = whole (flags_are.1 h)

  -- ---- rules 7 to 10: slots, root and base

  claims_is : (m : ℕ) → m < 8 → T (judged_for g m c) ↔ Claims nlib g m c
  unfolding judged_for is_interface
  claims_is m h =
      let b = both (not (bit 0 (flags (class_record (g c))))) (has_marker g m c) (not_fails (bit 0 (flags (class_record (g c)))) (own_flag 0)) (has m c h) in
      ((λ t. let q = b.0 t in record { class = q.0; marked = q.1 }), (λ k. b.1 (k.class, k.marked)))

  listed : Listed (Shows (HasSlot nlib g c)) (slots nlib g c)
  listed = slots_listed g rel.captured alone nlib rel.lineage c user

  abbrev Slots : (SlotShape → Type 0) → List ℕ → ℕ → ℕ → Type 0
  Slots Bad = Slotted nlib g c listed Bad

  root_fits_lem : (m d : ℕ) → m < 8 → T (not (root_fits g m d)) ↔ ((d ≢ 0) × Not (Marked g d m))
  unfolding root_fits
  root_fits_lem m d h = (
    (λ t. ((λ z. T_not (eqb d 0) (not_or_l (eqb d 0) (has_marker g m d) t) (eq→eqb z)), (not_fails (has_marker g m d) (has m d h)).0 (not_or_r (eqb d 0) (has_marker g m d) t))),
    (λ q. not_or (eqb d 0) (has_marker g m d) (not_T (eqb d 0) (λ t. q.0 (eqb→eq d 0 t))) ((not_fails (has_marker g m d) (has m d h)).1 q.1)),
  )

  -- the types of slots and then the root, for one marker: rules 7, 8 and 10
  abbrev Unlike : ℕ → SlotShape → Type 0
  Unlike m x = Not (Satisfies g m (type_of x))

  unlike_is : (m : ℕ) → m < 8 → (d k : ℕ) (x : SlotShape) → T (not (satisfies g m (slot_of d k x).type)) ↔ Unlike m x
  unlike_is m h d k x = not_fails (satisfies g m (type_of x)) (satisfied m (type_of x) h)

  abbrev Rooted : ℕ → List ℕ → ℕ → ℕ → Type 0
  Rooted m = Each (root nlib g c) (λ d. not (root_fits g m d)) (λ d. d) (1 ∷ [])

  rooted_lacks : (m : ℕ) → m < 8 → {w : List ℕ} {d k : ℕ} → Rooted m w d k → Lacks nlib g m c w d k
  rooted_lacks m h (each {d} n t) = let q = (root_fits_lem m d h).0 t in root_lacks ((rel.root c d user).0 n) q.0 q.1

  lacking : (m : ℕ) → m < 8 → {w : List ℕ} {d k : ℕ} → Lacks nlib g m c w d k → Slots (Unlike m) w d k ⊎ Rooted m w d k
  lacking m h (slot s n) = inl (slotted s n)
  lacking m h (root_lacks {d} p z n) = inr (each ((rel.root c d user).1 p) ((root_fits_lem m d h).1 (z, n)))

  -- rules 8 and 10
  marker_rule : ℕ → List Fault
  marker_rule m = only_if (judged_for g m c) (slot_faults nlib g (λ s. satisfies g m s.type) c ++ root_faults nlib g m c)

  finds_marker : (m : ℕ) → m < 8 → Finds (λ w d k. Claims nlib g m c × Lacks nlib g m c w d k) (marker_rule m)
  unfolding marker_rule root_faults
  finds_marker m h =
      finds_same (λ w d k. ((λ p. ((claims_is m h).0 p.0, there p.1)), (λ p. ((claims_is m h).1 p.0, lacking m h p.1))))
      (finds_judged nlib g c listed (judged_for g m c) (λ s. satisfies g m s.type) (Unlike m) (unlike_is m h) (λ d. not (root_fits g m d)) (λ d. d) 0 (root_lone nlib g alone c))
    where
      there : {w : List ℕ} {d k : ℕ} → Slots (Unlike m) w d k ⊎ Rooted m w d k → Lacks nlib g m c w d k
      there (inl (slotted s n)) = slot s n
      there (inr q) = rooted_lacks m h q

  finds8 : Finds (Breaks nlib g c 8) (rule8 nlib g c)
  unfolding rule8 marker_rule
  finds8 = finds_same (λ w d k. ((λ p. breaks8 p.0 p.1), back)) (finds_marker Powerless (lit< tt))
    where
      back : {w : List ℕ} {d k : ℕ} → Breaks nlib g c 8 w d k → Claims nlib g Powerless c × Lacks nlib g Powerless c w d k
      back (breaks8 q h) = (q, h)

  finds10 : Finds (Breaks nlib g c 10) (rule10 nlib g c)
  unfolding rule10 marker_rule
  finds10 = finds_same (λ w d k. ((λ p. breaks10 p.0 p.1), back)) (finds_marker DeepSelfless (lit< tt))
    where
      back : {w : List ℕ} {d k : ℕ} → Breaks nlib g c 10 w d k → Claims nlib g DeepSelfless c × Lacks nlib g DeepSelfless c w d k
      back (breaks10 q h) = (q, h)

  -- rule 7: final too
  Mutable : SlotShape → Type 0
  Mutable x = Not (Final x) ⊎ Unlike Immutable x

  mutable_is : (d k : ℕ) (x : SlotShape) → T (not ((slot_of d k x).final && satisfies g Immutable (slot_of d k x).type)) ↔ Mutable x
  unfolding Mutable
  mutable_is d k x = fails_both (final_of x) (satisfies g Immutable (type_of x)) (not_fails (final_of x) (final_is x)) (unlike_is Immutable (lit< tt) d k x)

  finds7 : Finds (Breaks nlib g c 7) (rule7 nlib g c)
  unfolding rule7 root_faults Mutable
  finds7 =
      finds_same (λ w d k. ((λ p. breaks7 ((claims_is Immutable (lit< tt)).0 p.0) (there p.1)), back))
      (finds_judged nlib g c listed (judged_for g Immutable c) (λ s. s.final && satisfies g Immutable s.type) Mutable mutable_is
      (λ d. not (root_fits g Immutable d)) (λ d. d) 0 (root_lone nlib g alone c))
    where
      there : {w : List ℕ} {d k : ℕ} → Slots Mutable w d k ⊎ Rooted Immutable w d k → Varies nlib g c w d k ⊎ Lacks nlib g Immutable c w d k
      there (inl (slotted s (inl n))) = inl (slot s n)
      there (inl (slotted s (inr n))) = inr (slot s n)
      there (inr q) = inr (rooted_lacks Immutable (lit< tt) q)

      joined : {w : List ℕ} {d k : ℕ} → Slots (Unlike Immutable) w d k ⊎ Rooted Immutable w d k → Slots Mutable w d k ⊎ Rooted Immutable w d k
      joined (inl (slotted s n)) = inl (slotted s (inr n))
      joined (inr q) = inr q

      back : {w : List ℕ} {d k : ℕ} → Breaks nlib g c 7 w d k → T (judged_for g Immutable c) × (Slots Mutable w d k ⊎ Rooted Immutable w d k)
      back (breaks7 q (inl (slot s n))) = ((claims_is Immutable (lit< tt)).1 q, inl (slotted s (inl n)))
      back (breaks7 q (inr h)) = ((claims_is Immutable (lit< tt)).1 q, joined (lacking Immutable (lit< tt) h))

  -- rule 9: final and not transient, and then the superclass
  Shifting : SlotShape → Type 0
  Shifting x = Not (Final x) ⊎ Transient x

  shifting_is : (d k : ℕ) (x : SlotShape) → T (not ((slot_of d k x).final && not (slot_of d k x).transient)) ↔ Shifting x
  unfolding Shifting
  shifting_is d k x =
      fails_both (final_of x) (not (transient_of x)) (not_fails (final_of x) (final_is x))
      ((λ t. (transient_is x).0 (un_not (transient_of x) t)), (λ h. not_not (transient_of x) ((transient_is x).1 h)))

  base_fits_lem : (s : ℕ) → T (base_fits g (flags (class_record (g c))) s) ↔ SelflessBase nlib g c s
  unfolding base_fits
  base_fits_lem s = ((λ t. there (e.0 t)), (λ h. e.1 (back h)))
    where
      m : ℕ
      m = flags (class_record (g c))

      Over : Type 0
      Over = (((s ≡ 0) × Flag 2 (g c)) × Flag 3 (g c)) × Not (Flag 4 (g c))

      e : T (has_marker g Selfless s || (eqb s 0 && bit 2 m && bit 3 m && not (bit 4 m))) ↔ (Marked g s Selfless ⊎ Over)
      e = either (has_marker g Selfless s) (eqb s 0 && bit 2 m && bit 3 m && not (bit 4 m)) (has Selfless s (lit< tt))
          (both (eqb s 0 && bit 2 m && bit 3 m) (not (bit 4 m))
          (both (eqb s 0 && bit 2 m) (bit 3 m) (both (eqb s 0) (bit 2 m) (eqb→eq s 0, λ z. eq→eqb z) (own_flag 2)) (own_flag 3))
          (not_fails (bit 4 m) (own_flag 4)))

      there : Marked g s Selfless ⊎ Over → SelflessBase nlib g c s
      there (inl h) = marked h
      there (inr h) = overrides h.0.0.0 h.0.0.1 h.0.1 h.1

      back : SelflessBase nlib g c s → Marked g s Selfless ⊎ Over
      back (marked h) = inl h
      back (overrides z a b n) = inr (((z, a), b), n)

  unfit_is : (s : ℕ) → T (not (base_fits g (flags (class_record (g c))) s)) ↔ Not (SelflessBase nlib g c s)
  unfit_is s = not_fails (base_fits g (flags (class_record (g c))) s) (base_fits_lem s)

  abbrev Based : List ℕ → ℕ → ℕ → Type 0
  Based = Each (superclasses (g c)) (λ s. not (base_fits g (flags (class_record (g c))) s)) (λ s. c) (2 ∷ [])

  finds9 : Finds (Breaks nlib g c 9) (rule9 nlib g c)
  unfolding rule9 base_faults Shifting
  finds9 =
      finds_same (λ w d k. ((λ p. breaks9 ((claims_is Selfless (lit< tt)).0 p.0) (there p.1)), back))
      (finds_judged nlib g c listed (judged_for g Selfless c) (λ s. s.final && not s.transient) Shifting shifting_is
      (λ s. not (base_fits g (flags (class_record (g c))) s)) (λ s. c) 1 (superclasses_lone (g c) (alone c)))
    where
      there : {w : List ℕ} {d k : ℕ} → Slots Shifting w d k ⊎ Based w d k → (Varies nlib g c w d k ⊎ Drops nlib g c w d k) ⊎ UnfitBase nlib g c w d k
      there (inl (slotted s (inl n))) = inl (inl (slot s n))
      there (inl (slotted s (inr n))) = inl (inr (slot s n))
      there (inr (each {d = s} m t)) = inr (unfit ((superclass_is (g c) s).0 m) ((unfit_is s).0 t))

      back : {w : List ℕ} {d k : ℕ} → Breaks nlib g c 9 w d k → T (judged_for g Selfless c) × (Slots Shifting w d k ⊎ Based w d k)
      back (breaks9 q (inl (inl (slot s n)))) = ((claims_is Selfless (lit< tt)).1 q, inl (slotted s (inl n)))
      back (breaks9 q (inl (inr (slot s n)))) = ((claims_is Selfless (lit< tt)).1 q, inl (slotted s (inr n)))
      back (breaks9 q (inr (unfit {s} h n))) = ((claims_is Selfless (lit< tt)).1 q, inr (each ((superclass_is (g c) s).1 h) ((unfit_is s).1 n)))

  -- ---- the verdict

  told : Told (Breaks nlib g c) 1 (rules nlib g c)
  unfolding rules
  told = (finds1, (finds2, (finds3, (finds4, (finds5, (finds6, (finds7, (finds8, (finds9, (finds10, tt))))))))))

  within : (r : ℕ) (w : List ℕ) (d k : ℕ) → Breaks nlib g c r w d k → (1 ≤ r) × (r < 1 + length (rules nlib g c))
  unfolding rules
  within r w d k (breaks1 a m l n) = (omega arith, omega arith)
  within r w d k (breaks2 a t n) = (omega arith, omega arith)
  within r w d k (breaks3 a t) = (omega arith, omega arith)
  within r w d k (breaks4 h) = (omega arith, omega arith)
  within r w d k (breaks5 a t u n) = (omega arith, omega arith)
  within r w d k (breaks6 h) = (omega arith, omega arith)
  within r w d k (breaks7 q h) = (omega arith, omega arith)
  within r w d k (breaks8 q h) = (omega arith, omega arith)
  within r w d k (breaks9 q h) = (omega arith, omega arith)
  within r w d k (breaks10 q h) = (omega arith, omega arith)

  verdict_right : Right (Breaks nlib g c) (verdict_of nlib g c)
  unfolding verdict_of
  verdict_right = right (Breaks nlib g c) (rules nlib g c) told within

  right_alone : (v : Verdict) → Right (Breaks nlib g c) v → v ≡ verdict_of nlib g c
  right_alone v a = right_one (Breaks nlib g c) (one_at (Breaks nlib g c) (rules nlib g c) told within) v (verdict_of nlib g c) a verdict_right

pub demand2 : Demand2
unfolding verdict_at
demand2 library user used a c hl hc = verdict_right (class_count library) (group library (take used user)) (relations_hold library user used a) (classes_lone library (take used user)) c hl

pub only_one : OnlyOne
unfolding verdict_at
only_one library user used a c hl hc = right_alone (class_count library) (group library (take used user)) (relations_hold library user used a) (classes_lone library (take used user)) c hl
