-- What the walk finds under a rule is the list of the rule's faults, in its order.
-- Assumes nothing.
use mathlib.Core.Path.{◌≡◌, refl, sym, ap, ap₂, ◌∙◌}
use mathlib.Core.Bool.{Bool, true, false, not, ◌&&◌, ◌||◌, or-false}
use mathlib.Core.List.{List, [], ◌∷◌, ◌++◌, map, map-map, append-nil, append_assoc}
use Prim.Native.Nat.{ℕ, zero, suc, ◌+◌, ◌≤◌, ◌<◌}
use native.Mathlib.Omega.{arith}
use lib.Dec.{T, eqb→eq}
use lib.ListN.{get_or, take}
use borrow.Author.Tests.{ne_eqb, lt-ltb, le-ltb}
use Rattle.std.proofs.lemmas.List.{map-append}
use Rattle.spec.specs.Lists.{any, keep, gather, numbered, only_if}
use Rattle.spec.specs.Record.{flags, kind, is_class, CLASS, FIELD}
use Rattle.spec.specs.Sheet.{Group, class_record, is_inner, is_instance_field}
use Rattle.spec.specs.Markers as marker
use Rattle.spec.specs.Classes.{Slot, encloser_slot, field_slot, enclosing, encloser_slots, field_slots, captured_slots, own_slots, lineage, root, slots}
use Rattle.spec.specs.Rules.{Fault, slot_fault, fault_if, faults_at, judged_for, base_fits, base_faults, slot_faults, root_faults}
use Rattle.spec.specs.Rules.{rule1, rule2, rule3, rule4, rule5, rule6, rule7, rule8, rule9, rule10, rules}
use Rattle.spec.specs.Refusals.{one_class}
use Rattle.laws.proofs.Bools.{and_l}
use Rattle.laws.proofs.All.{All, all_if, every_map, keep_cong, keep_no, gather_cong, of_members}
use Rattle.laws.proofs.Lists.{keep_append, keep_keep, keep_map, keep_gather, keep_cons, map_only, map_gather, gather_append}
use Rattle.laws.proofs.Sorted.{numbered_above, Lone, empty, single, lone_if, lone_map}
use Rattle.theory.proofs.Groups.{superclasses_lone, enclosing_lone}
use Rattle.theory.proofs.Lines.{lineage_has, lineage_user, lineage_low, root_is}
use Rattle.slots.specs.declared.Late.{Late as LateRule}
use Rattle.slots.specs.declared.Late.TheVariants.{Immutable, Powerless, Selfless, DeepSelfless}
use Rattle.slots.specs.Slots.{rule_marker, slot_fits, encloser_breaks, captured_faults, root_breaks, base_breaks, field_breaks, head_breaks}
use Rattle.breaks.specs.declared.rule.Rule.{Rule}
use Rattle.breaks.specs.declared.rule.Rule.TheVariants.{Classes, Members, Reserved, Clash, Statics, LetsOut, Late}
use Rattle.breaks.specs.Breaking.{asks_first, breaks_at}
use Rattle.breaks.specs.Beyond.{captured_at}
use Rattle.rules.specs.Walk.{rule_at, applies, only_first, asked_of, asked, found_in, found, above, order, last, walked}
use Rattle.rules.proofs.Ground.{Ground}

-- at most one, of which the same is told
map_lone : {A B : Type 0} (f : A → B) (b : B) (p : A → Bool) {xs : List A} → All (λ x. f x ≡ b) xs → Lone xs → map f (keep p xs) ≡ only_if (any p xs) (b ∷ [])
unfolding keep only_if any
map_lone f b p h empty = refl
map_lone {A} {B} f b p h (single {x}) = go (p x)
  where
    go : (t : Bool) → map f (elim t as (λ (_ : Bool). List A) [ true ↦ x ∷ [] | false ↦ [] ]) ≡ elim (t || false) as (λ (_ : Bool). List B) [ true ↦ b ∷ [] | false ↦ [] ]
    go true = ap (λ (y : B). y ∷ []) h.0
    go false = refl

module _ {nlib n : ℕ} {g : ℕ → Group} (w : Ground nlib n g) where
  -- a record's fault
  at : ℕ → ℕ × List ℕ → Fault
  at t m = record { class = t; record_number = m.0 }

  -- ---- the CLASS record, and those after it

  record Split (h : Group) : Type 0 where
    first : List ℕ
    rest : Group
    is : h ≡ first ∷ rest
    class : kind first ≡ CLASS

  split : (t : ℕ) → t < n → Split (g t)
  unfolding one_class
  split t l = go (g t) (w.one t l)
    where
      go : (h : Group) → T (one_class h) → Split h
      go [] o = absurd o
      go (r ∷ rs) o = record { first = r; rest = rs; is = refl; class = eqb→eq (kind r) CLASS (and_l (is_class r) (not (any is_class rs)) o) }

  asked_all : (rule : Rule) (t : ℕ) → only_first nlib rule t ≡ false → asked nlib g rule t ≡ g t
  unfolding asked_of
  asked_all rule t e = rw (e, asked_of)

  asked_one : (rule : Rule) (t : ℕ) → only_first nlib rule t ≡ true → asked nlib g rule t ≡ take 1 (g t)
  unfolding asked_of
  asked_one rule t e = rw (e, asked_of)

  -- a user class is asked as its rule says
  of_user : (rule : Rule) (t : ℕ) → nlib ≤ t → only_first nlib rule t ≡ asks_first rule
  unfolding only_first
  of_user rule t h = rw (le-ltb t nlib h) (or-false (asks_first rule))

  -- where the CLASS record alone is asked
  found_first : (rule : Rule) (t : ℕ) → t < n → only_first nlib rule t ≡ true → found_in nlib g rule t 0 (asked nlib g rule t) ≡ fault_if (breaks_at nlib g rule t 0 (class_record (g t))) t
  unfolding found_in fault_if at class_record numbered keep
  found_first rule t l o =
      let s = split t l in
      ap (λ (h : Group). map (at t) (keep (λ m. breaks_at nlib g rule t m.0 m.1) (numbered 0 h))) (asked_one rule t o ∙ ap (take 1) s.is)
      ∙ ap (map (at t)) (keep_cons (λ m. breaks_at nlib g rule t m.0 m.1) (0, s.first) [] ∙ append-nil _)
      ∙ map_only (at t) (breaks_at nlib g rule t 0 s.first) ((0, s.first) ∷ [])
      ∙ ap (λ (h : Group). only_if (breaks_at nlib g rule t 0 (class_record h)) (record { class = t; record_number = 0 } ∷ [])) (sym s.is)

  -- ---- rules 7 to 10: a class of the lineage

  module _ (rule : LateRule) where
    fails : Slot → Bool
    fails s = not (slot_fits g rule s)

    module _ {t : ℕ} (l : t < n) (h : nlib ≤ t) where
      abbrev s : Split (g t)
      s = split t l

      bad : ℕ × List ℕ → Bool
      bad m = breaks_at nlib g (Late rule) t m.0 m.1

      first_bad : bad (0, s.first) ≡ encloser_breaks g rule t
      unfolding head_breaks bad
      first_bad = rw (le-ltb t nlib h, bad, breaks_at, head_breaks)

      -- the encloser
      enclosers_are : map slot_fault (keep fails (encloser_slots g t)) ≡ only_if (encloser_breaks g rule t) (record { class = t; record_number = 0 } ∷ [])
      unfolding encloser_breaks encloser_slots slot_fault encloser_slot fails only_if
      enclosers_are =
          let here : Slot → Type 0 = λ s. slot_fault s ≡ record { class = t; record_number = 0 } in
          map_lone slot_fault (record { class = t; record_number = 0 }) fails
          (all_if here (is_inner (g t)) (map (encloser_slot t) (enclosing (g t))) [] (every_map here (encloser_slot t) (λ e. refl) (enclosing (g t))) tt)
          (lone_if (is_inner (g t)) (lone_map (encloser_slot t) (enclosing_lone (g t) (w.alone t))))

      -- a CLASS record is no FIELD
      no_field : is_instance_field s.first ≡ false
      unfolding is_instance_field
      no_field = rw (ne_eqb (kind s.first) FIELD (λ e. omega (arith, s.class)))

      fields_are : map slot_fault (keep fails (field_slots g t)) ≡ map (at t) (keep bad (numbered 1 s.rest))
      unfolding field_slots slot_fault field_slot at numbered field_breaks fails bad
      fields_are =
          ap (map slot_fault) (keep_map fails (field_slot t) (keep (λ m. is_instance_field m.1) (numbered 0 (g t))))
          ∙ map-map slot_fault (field_slot t) (keep (λ m. fails (field_slot t m)) (keep (λ m. is_instance_field m.1) (numbered 0 (g t))))
          ∙ ap (map (at t)) (keep_keep (λ m. fails (field_slot t m)) (λ m. is_instance_field m.1) (numbered 0 (g t)) ∙ ap (λ (h : Group). keep fails_field (numbered 0 h)) s.is
          ∙ keep_no fails_field (0, s.first) (numbered 1 s.rest) (ap (λ (b : Bool). b && fails (field_slot t (0, s.first))) no_field)
          ∙ keep_cong (λ m. 0 < m.0) fails_field bad field_bad (numbered 1 s.rest) (numbered_above 0 1 s.rest (omega arith)))
        where
          fails_field : ℕ × List ℕ → Bool
          fails_field m = is_instance_field m.1 && fails (field_slot t m)

          field_bad : (m : ℕ × List ℕ) → 0 < m.0 → fails_field m ≡ bad m
          field_bad m k = sym (rw (ne_eqb m.0 0 (λ e. omega arith), bad, breaks_at))

      found_user : found nlib g (Late rule) t ≡ map slot_fault (keep fails (own_slots g t))
      unfolding found found_in own_slots captured_faults numbered at keep bad fails
      found_user =
          ap₂ (λ (a b : List Fault). a ++ b)
          (ap (λ (h : Group). map (at t) (keep bad (numbered 0 h))) (asked_all (Late rule) t (of_user (Late rule) t h) ∙ s.is)
          ∙ ap (map (at t)) (keep_cons bad (0, s.first) (numbered 1 s.rest))
          ∙ map-append (at t) (only_if (bad (0, s.first)) ((0, s.first) ∷ [])) (keep bad (numbered 1 s.rest))
          ∙ ap₂ (λ (a b : List Fault). a ++ b)
          (map_only (at t) (bad (0, s.first)) ((0, s.first) ∷ []) ∙ ap (λ (b : Bool). only_if b (record { class = t; record_number = 0 } ∷ [])) first_bad ∙ sym enclosers_are)
          (sym fields_are))
          (rw (le-ltb t nlib h, captured_at))
          ∙ append_assoc (map slot_fault (keep fails (encloser_slots g t))) (map slot_fault (keep fails (field_slots g t))) (map slot_fault (keep fails (captured_slots g t)))
          ∙ sym (ap (map slot_fault) (keep_append fails (encloser_slots g t) (field_slots g t ++ captured_slots g t))
          ∙ map-append slot_fault (keep fails (encloser_slots g t)) (keep fails (field_slots g t ++ captured_slots g t))
          ∙ ap (λ (l : List Fault). map slot_fault (keep fails (encloser_slots g t)) ++ l)
          (ap (map slot_fault) (keep_append fails (field_slots g t) (captured_slots g t)) ∙ map-append slot_fault (keep fails (field_slots g t)) (keep fails (captured_slots g t))))

    -- ---- the root

    found_root : {d : ℕ} → d < n → d < nlib → found nlib g (Late rule) d ≡ fault_if (root_breaks g rule d) d
    unfolding found head_breaks only_first
    found_root {d} l h =
        ap₂ (λ (a b : List Fault). a ++ b)
        (found_first (Late rule) d l (rw (lt-ltb d nlib h)) ∙ ap (λ (b : Bool). fault_if b d) (rw (lt-ltb d nlib h, breaks_at, head_breaks)))
        (rw (lt-ltb d nlib h, captured_at))
        ∙ append-nil (fault_if (root_breaks g rule d) d)

    -- ---- all classes

    module _ {c : ℕ} (user : nlib ≤ c) (there : c < n) where
      lineage_found : gather (found nlib g (Late rule)) (lineage nlib g c) ≡ slot_faults nlib g (slot_fits g rule) c
      unfolding slot_faults slots fails
      lineage_found =
          gather_cong (λ t. (t < n) × (nlib ≤ t)) (found nlib g (Late rule)) (λ t. map slot_fault (keep fails (own_slots g t))) (λ t p. found_user p.0 p.1) (lineage nlib g c)
          (of_members (λ t. (t < n) × (nlib ≤ t)) (lineage nlib g c)
          (λ t m. let l = (lineage_has nlib g w.falls w.alone c t user).0 m in (let b : t ≤ c = lineage_low nlib g w.falls l.1 in omega arith, lineage_user nlib g w.falls user l.1)))
          ∙ sym (ap (map slot_fault) (keep_gather fails (own_slots g) (lineage nlib g c)) ∙ map_gather slot_fault (λ t. keep fails (own_slots g t)) (lineage nlib g c))

      root_found : gather (found nlib g (Late rule)) (root nlib g c) ≡ gather (λ d. fault_if (root_breaks g rule d) d) (root nlib g c)
      root_found =
          gather_cong (λ d. (d < n) × (d < nlib)) (found nlib g (Late rule)) (λ d. fault_if (root_breaks g rule d) d) (λ d p. found_root p.0 p.1) (root nlib g c)
          (of_members (λ d. (d < n) × (d < nlib)) (root nlib g c) (λ d m. let r = (root_is nlib g w.falls c d user).0 m in let b : d < nlib = r.library in (omega arith, b)))

      late_found : walked nlib g (Late rule) c ≡ only_if (judged_for g (rule_marker rule) c)
          (slot_faults nlib g (slot_fits g rule) c ++ (gather (λ d. fault_if (root_breaks g rule d) d) (root nlib g c) ++ last nlib g (Late rule) c))
      unfolding walked above
      late_found =
          ap (only_if (judged_for g (rule_marker rule) c))
          (ap (λ (l : List Fault). l ++ last nlib g (Late rule) c)
          (gather_append (found nlib g (Late rule)) (lineage nlib g c) (root nlib g c) ∙ ap₂ (λ (a b : List Fault). a ++ b) lineage_found root_found)
          ∙ append_assoc (slot_faults nlib g (slot_fits g rule) c) (gather (λ d. fault_if (root_breaks g rule d) d) (root nlib g c)) (last nlib g (Late rule) c))

  -- ---- each rule

  module _ {c : ℕ} (user : nlib ≤ c) (there : c < n) where
    -- rules 1, 2 and 5 ask each record of the class itself, rules 3, 4 and 6 its CLASS record
    own_found : (rule : Rule) → order nlib g rule c ≡ c ∷ [] → captured_at nlib g rule c ≡ [] → last nlib g rule c ≡ [] → applies g rule c ≡ true
        → walked nlib g rule c ≡ found_in nlib g rule c 0 (asked nlib g rule c)
    unfolding walked only_if gather found
    own_found rule o k e a =
        ap (λ (b : Bool). only_if b (gather (found nlib g rule) (order nlib g rule c) ++ last nlib g rule c)) a
        ∙ ap₂ (λ (cs : List ℕ) (l : List Fault). gather (found nlib g rule) cs ++ l) o e
        ∙ append-nil (found nlib g rule c ++ []) ∙ append-nil (found nlib g rule c)
        ∙ ap (λ (l : List Fault). found_in nlib g rule c 0 (asked nlib g rule c) ++ l) k ∙ append-nil (found_in nlib g rule c 0 (asked nlib g rule c))

    each_is : (rule : Rule) → asks_first rule ≡ false → found_in nlib g rule c 0 (asked nlib g rule c) ≡ found_in nlib g rule c 0 (g c)
    each_is rule e = ap (found_in nlib g rule c 0) (asked_all rule c (of_user rule c user ∙ e))

    first_is : (rule : Rule) → asks_first rule ≡ true → found_in nlib g rule c 0 (asked nlib g rule c) ≡ fault_if (breaks_at nlib g rule c 0 (class_record (g c))) c
    first_is rule e = found_first rule c there (of_user rule c user ∙ e)

    no_last : fault_if false c ≡ []
    unfolding fault_if only_if
    no_last = refl

    is1 : walked nlib g Classes c ≡ rule1 nlib g c
    unfolding rule1 faults_at found_in
    is1 = own_found Classes refl refl no_last refl ∙ each_is Classes refl

    is2 : walked nlib g Members c ≡ rule2 nlib g c
    unfolding rule2 faults_at found_in
    is2 = own_found Members refl refl no_last refl ∙ each_is Members refl

    is3 : walked nlib g Reserved c ≡ rule3 nlib g c
    unfolding rule3
    is3 = own_found Reserved refl refl no_last refl ∙ first_is Reserved refl

    is4 : walked nlib g Clash c ≡ rule4 nlib g c
    unfolding rule4
    is4 = own_found Clash refl refl no_last refl ∙ first_is Clash refl

    is5 : walked nlib g Statics c ≡ rule5 nlib g c
    unfolding rule5 faults_at found_in
    is5 = own_found Statics refl refl no_last refl ∙ each_is Statics refl

    is6 : walked nlib g LetsOut c ≡ rule6 nlib g c
    unfolding rule6
    is6 = own_found LetsOut refl refl no_last refl ∙ first_is LetsOut refl

    -- rules 7, 8 and 10 ask the root
    rooted : (rule : LateRule) → last nlib g (Late rule) c ≡ [] → walked nlib g (Late rule) c
        ≡ only_if (judged_for g (rule_marker rule) c) (slot_faults nlib g (slot_fits g rule) c ++ gather (λ d. fault_if (root_breaks g rule d) d) (root nlib g c))
    rooted rule e =
        late_found rule user there
        ∙ ap (λ (l : List Fault). only_if (judged_for g (rule_marker rule) c) (slot_faults nlib g (slot_fits g rule) c ++ l))
        (ap (λ (l : List Fault). gather (λ d. fault_if (root_breaks g rule d) d) (root nlib g c) ++ l) e ∙ append-nil _)

    is7 : walked nlib g (Late Immutable) c ≡ rule7 nlib g c
    unfolding rule7 root_faults
    is7 = rooted Immutable no_last

    is8 : walked nlib g (Late Powerless) c ≡ rule8 nlib g c
    unfolding rule8 root_faults
    is8 = rooted Powerless no_last

    is10 : walked nlib g (Late DeepSelfless) c ≡ rule10 nlib g c
    unfolding rule10 root_faults
    is10 = rooted DeepSelfless no_last

    -- rule 9 asks the superclass instead
    no_roots : (ds : List ℕ) → gather (λ d. fault_if false d) ds ≡ []
    unfolding gather fault_if only_if
    no_roots [] = refl
    no_roots (d ∷ ds) = no_roots ds

    base_is : base_faults g c ≡ fault_if (base_breaks g c) c
    unfolding base_faults base_breaks
    base_is = go (superclasses_lone (g c) (w.alone c))
      where
        go : {xs : List ℕ} → Lone xs → gather (λ s. fault_if (not (base_fits g (flags (class_record (g c))) s)) c) xs
            ≡ fault_if (any (λ s. not (base_fits g (flags (class_record (g c))) s)) xs) c
        go empty = unfold gather any fault_if only_if in refl
        go (single {x}) = unfold gather any in (append-nil _ ∙ ap (λ (b : Bool). fault_if b c) (sym (or-false (not (base_fits g (flags (class_record (g c))) x)))))

    is9 : walked nlib g (Late Selfless) c ≡ rule9 nlib g c
    unfolding rule9
    is9 =
        late_found Selfless user there
        ∙ ap (λ (l : List Fault). only_if (judged_for g marker.Selfless c) (slot_faults nlib g (slot_fits g Selfless) c ++ l))
        (ap (λ (l : List Fault). l ++ fault_if (base_breaks g c) c) (no_roots (root nlib g c)) ∙ sym base_is)

    pub walked_is : (i : ℕ) → i < 10 → walked nlib g (rule_at i) c ≡ get_or (rules nlib g c) i []
    unfolding rules
    walked_is zero h = is1
    walked_is (suc zero) h = is2
    walked_is (suc (suc zero)) h = is3
    walked_is (suc (suc (suc zero))) h = is4
    walked_is (suc (suc (suc (suc zero)))) h = is5
    walked_is (suc (suc (suc (suc (suc zero))))) h = is6
    walked_is (suc (suc (suc (suc (suc (suc zero)))))) h = is7
    walked_is (suc (suc (suc (suc (suc (suc (suc zero))))))) h = is8
    walked_is (suc (suc (suc (suc (suc (suc (suc (suc zero)))))))) h = is9
    walked_is (suc (suc (suc (suc (suc (suc (suc (suc (suc zero))))))))) h = is10
    walked_is (suc (suc (suc (suc (suc (suc (suc (suc (suc (suc i)))))))))) h = absurd (let z : i + 10 < 10 = omega arith in omega arith)
