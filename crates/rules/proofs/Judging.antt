-- How far the judging of a class has come: over rules, over the classes that a rule asks, and over the records of one of them. What is left finds what the whole walk finds.
-- Assumes nothing.
use mathlib.Core.Path.{◌≡◌, refl, sym, ap, ◌∙◌, subst}
use mathlib.Core.Bool.{Bool, true, false}
use mathlib.Core.List.{List, [], ◌∷◌, ◌++◌, map}
use Prim.Native.Nat.{ℕ, zero, suc, ◌+◌, ◌≤◌, ◌<◌, max}
use native.Mathlib.Numerals.{add-one}
use native.Mathlib.Decide.{ℕ_discrete}
use native.Mathlib.Omega.{arith}
use lib.ListN.{length, drop, length-drop}
use Rattle.std.specs.Prelude.{Option, None, Some, IfSome}
use Rattle.std.specs.Option.{option_map}
use Rattle.spec.specs.Lists.{keep, gather, numbered, only_if}
use Rattle.spec.specs.Sheet.{Group}
use Rattle.spec.specs.Rules.{Fault, fault_if, clean, verdict_of}
use Rattle.spec.specs.Relations.{At}
use Rattle.laws.proofs.All.{keep_yes, keep_no}
use Rattle.laws.proofs.Members.{at_drop}
use Rattle.breaks.specs.declared.rule.Rule.{Rule}
use Rattle.breaks.specs.Breaking.{number_of, breaks_at}
use Rattle.breaks.specs.declared.beyond.Site.{Site}
use Rattle.breaks.specs.Beyond.{fault_at, first_fault, captured_at, base_at}
use Rattle.rules.specs.Walk.{rule_at, applies, only_first, asked_of, asked, found_in, found, order, afterward, from_class, last, next_class, walked}
use Rattle.rules.proofs.Ground.{Ground}
use Rattle.rules.proofs.Ascent.{Spot, rank, Onward, onward, first_spot, begins}
use Rattle.rules.proofs.Verdicts.{verdict, none_found, first_found}

-- no rule before number i finds anything
pub record RuleAt (nlib : ℕ) (g : ℕ → Group) (c i : ℕ) : Type 0 where
  pub clear : (j : ℕ) → j < i → walked nlib g (rule_at j) c ≡ []

-- all that a rule finds in the classes that it asks for class c
abbrev pub all : ℕ → (ℕ → Group) → Rule → ℕ → List Fault
all nlib g rule c = gather (found nlib g rule) (order nlib g rule c)

-- this rule, which asks the class, finds what it finds from a class on
pub record ClassAt (nlib n : ℕ) (g : ℕ → Group) (c : ℕ) (rule : Rule) (class : Option ℕ) : Type 0 where
  pub asks : applies g rule c ≡ true
  pub spot : IfSome class (λ t. Spot n g rule t)
  pub rest : all nlib g rule c ≡ from_class nlib g rule class

-- of class t it finds what it finds from record k on; these records are left
pub record RecordAt (nlib : ℕ) (g : ℕ → Group) (rule : Rule) (t k : ℕ) (rs : Group) : Type 0 where
  pub left : rs ≡ drop k (g t)
  pub one : only_first nlib rule t ≡ true → k ≡ 0
  pub rest : found_in nlib g rule t 0 (asked nlib g rule t) ≡ found_in nlib g rule t k (asked_of nlib rule t rs)

-- ---- what the walk finds under a rule

module _ (nlib : ℕ) (g : ℕ → Group) (rule : Rule) (c : ℕ) where
  -- what it finds in the classes that are asked stands first
  pub walked_hit : applies g rule c ≡ true → {f : Fault} {more : List Fault} → all nlib g rule c ≡ f ∷ more → walked nlib g rule c ≡ f ∷ (more ++ last nlib g rule c)
  unfolding walked only_if
  walked_hit a e = rw (a, walked, only_if) (ap (λ (fs : List Fault). fs ++ last nlib g rule c) e)

  -- after all classes rule 9's second part alone is left
  walked_last : {n : ℕ} → ClassAt nlib n g c rule None → walked nlib g rule c ≡ last nlib g rule c
  unfolding walked only_if gather
  walked_last k = rw (k.asks, walked, only_if) (ap (λ (fs : List Fault). fs ++ last nlib g rule c) k.rest)

  pub walked_base : {n : ℕ} → ClassAt nlib n g c rule None → base_at g rule c ≡ true → walked nlib g rule c ≡ record { class = c; record_number = 0 } ∷ []
  unfolding fault_if only_if
  walked_base k e = walked_last k ∙ ap (λ (b : Bool). fault_if b c) e

-- ---- rules

rule_number_is : (i : ℕ) → i < 10 → number_of (rule_at i) ≡ i + 1
rule_number_is zero h = refl
rule_number_is (suc zero) h = refl
rule_number_is (suc (suc zero)) h = refl
rule_number_is (suc (suc (suc zero))) h = refl
rule_number_is (suc (suc (suc (suc zero)))) h = refl
rule_number_is (suc (suc (suc (suc (suc zero))))) h = refl
rule_number_is (suc (suc (suc (suc (suc (suc zero)))))) h = refl
rule_number_is (suc (suc (suc (suc (suc (suc (suc zero))))))) h = refl
rule_number_is (suc (suc (suc (suc (suc (suc (suc (suc zero)))))))) h = refl
rule_number_is (suc (suc (suc (suc (suc (suc (suc (suc (suc zero))))))))) h = refl
rule_number_is (suc (suc (suc (suc (suc (suc (suc (suc (suc (suc i)))))))))) h = absurd (let z : i + 10 < 10 = omega arith in omega arith)

pub rule_start : {nlib : ℕ} {g : ℕ → Group} {c : ℕ} → RuleAt nlib g c 0
rule_start = record { clear = λ j h. absurd (omega arith) }

-- ---- the records that are left

drop_next : (h : Group) (k : ℕ) {r : List ℕ} {rs : Group} → r ∷ rs ≡ drop k h → rs ≡ drop (suc k) h
drop_next [] zero e = absurd (cc)
drop_next [] (suc k) e = absurd (cc)
drop_next (x ∷ h) zero e = cc
drop_next (x ∷ h) (suc k) e = drop_next h k e

-- some records, of which the first breaks the rule or does not
module _ (nlib : ℕ) (g : ℕ → Group) (rule : Rule) (t k : ℕ) (r : List ℕ) (rs : Group) where
  bad : ℕ × List ℕ → Bool
  bad n = breaks_at nlib g rule t n.0 n.1

  fault : ℕ × List ℕ → Fault
  fault n = record { class = t; record_number = n.0 }

  found_no : breaks_at nlib g rule t k r ≡ false → found_in nlib g rule t k (r ∷ rs) ≡ found_in nlib g rule t (k + 1) rs
  unfolding found_in numbered bad fault
  found_no e = ap (map fault) (keep_no bad (k, r) (numbered (suc k) rs) e) ∙ ap (λ (i : ℕ). map fault (keep bad (numbered i rs))) (sym (add-one k))

  found_yes : breaks_at nlib g rule t k r ≡ true → found_in nlib g rule t k (r ∷ rs) ≡ record { class = t; record_number = k } ∷ found_in nlib g rule t (k + 1) rs
  unfolding found_in numbered bad fault
  found_yes e =
      ap (map fault) (keep_yes bad (k, r) (numbered (suc k) rs) e)
      ∙ ap (λ (i : ℕ). fault (k, r) ∷ map fault (keep bad (numbered i rs))) (sym (add-one k))

-- what a rule asks of some records after the first
pub asked_later : ℕ → Rule → ℕ → Group → Group
asked_later nlib rule t rs = elim (only_first nlib rule t) as (λ (b : Bool). Group) [ true ↦ [] | false ↦ rs ]

asked_more : (nlib : ℕ) (rule : Rule) (t : ℕ) (r : List ℕ) (rs : Group) → asked_of nlib rule t (r ∷ rs) ≡ r ∷ asked_later nlib rule t rs
unfolding asked_of asked_later
asked_more nlib rule t r rs = go (only_first nlib rule t)
  where
    go : (b : Bool) → elim b as (λ (x : Bool). Group) [ true ↦ r ∷ [] | false ↦ r ∷ rs ] ≡ r ∷ elim b as (λ (x : Bool). Group) [ true ↦ [] | false ↦ rs ]
    go true = refl
    go false = refl

later_all : (nlib : ℕ) (rule : Rule) (t : ℕ) (rs : Group) → only_first nlib rule t ≡ false → asked_later nlib rule t rs ≡ asked_of nlib rule t rs
unfolding asked_of asked_later
later_all nlib rule t rs o = rw (o, asked_of, asked_later)

later_none : (nlib : ℕ) (rule : Rule) (t : ℕ) (rs : Group) → only_first nlib rule t ≡ true → asked_later nlib rule t rs ≡ []
unfolding asked_later
later_none nlib rule t rs o = rw (o, asked_later)

asked_none : (nlib : ℕ) (rule : Rule) (t : ℕ) → asked_of nlib rule t [] ≡ []
unfolding asked_of
asked_none nlib rule t = go (only_first nlib rule t)
  where
    go : (b : Bool) → elim b as (λ (x : Bool). Group) [ true ↦ [] | false ↦ [] ] ≡ []
    go true = refl
    go false = refl

module _ {nlib n : ℕ} {g : ℕ → Group} (w : Ground nlib n g) {c : ℕ} (user : nlib ≤ c) (there : c < n) where
  -- ---- rules

  pub rule_end : {i : ℕ} → RuleAt nlib g c i → 10 ≤ i → verdict_of nlib g c ≡ clean
  rule_end r h = none_found w user there (λ i a. r.clear i (omega arith))

  -- a rule that finds nothing
  rule_next : {i : ℕ} → RuleAt nlib g c i → walked nlib g (rule_at i) c ≡ [] → RuleAt nlib g c (i + 1)
  rule_next {i} r e = record { clear = λ j h. go j h (ℕ_discrete j i) }
    where
      go : (j : ℕ) → j < i + 1 → Dec (j ≡ i) → walked nlib g (rule_at j) c ≡ []
      go j h (yes q) = subst (λ (m : ℕ). walked nlib g (rule_at m) c ≡ []) (sym q) e
      go j h (no ne) = r.clear j (omega arith)

  pub rule_unasked : {i : ℕ} → RuleAt nlib g c i → applies g (rule_at i) c ≡ false → RuleAt nlib g c (i + 1)
  unfolding walked only_if
  rule_unasked {i} r e = rule_next r (ap (λ (b : Bool). only_if b (all nlib g (rule_at i) c ++ last nlib g (rule_at i) c)) e)

  -- the first that a rule finds is told
  pub rule_hit : {i : ℕ} → RuleAt nlib g c i → i < 10 → {f : Fault} {more : List Fault} → walked nlib g (rule_at i) c ≡ f ∷ more
      → verdict (number_of (rule_at i)) f ≡ verdict_of nlib g c
  rule_hit {i} r l {f} e = ap (λ (m : ℕ). verdict m f) (rule_number_is i l) ∙ sym (first_found w user there i l r.clear e)

  -- ---- classes

  pub class_start : (rule : Rule) → applies g rule c ≡ true → ClassAt nlib n g c rule (Some c)
  class_start rule e = record {
    asks = e;
    spot = first_spot w there rule e;
    rest = ap (gather (found nlib g rule)) (begins w there rule e);
  }

  -- nothing is found in class c and above it
  pub class_cleared : {rule : Rule} → ClassAt nlib n g c rule None → from_class nlib g rule (Some c) ≡ []
  unfolding gather
  class_cleared {rule} k = sym (class_start rule k.asks).rest ∙ k.rest

  pub class_end : {i : ℕ} → RuleAt nlib g c i → ClassAt nlib n g c (rule_at i) None → last nlib g (rule_at i) c ≡ [] → RuleAt nlib g c (i + 1)
  class_end {i} r k e = rule_next r (walked_last nlib g (rule_at i) c k ∙ e)

  pub class_next : {rule : Rule} {t : ℕ} {class : Option ℕ} → ClassAt nlib n g c rule (Some t) → found nlib g rule t ≡ [] → class ≡ next_class nlib rule t (g t)
      → ClassAt nlib n g c rule class × (rank class < suc t)
  unfolding gather
  class_next {rule} {t} k z e =
      let o : Onward nlib n g rule t _ = subst (Onward nlib n g rule t) (sym e) (onward w rule k.spot) in (
        record {
          asks = k.asks;
          spot = o.spot;
          rest = k.rest ∙ ap (λ (fs : List Fault). fs ++ gather (found nlib g rule) (afterward nlib g rule t)) z ∙ ap (gather (found nlib g rule)) o.rest;
        },
        o.less,
      )

-- the first that is found in a class is the first of all
pub class_hit : {nlib n : ℕ} {g : ℕ → Group} {c : ℕ} {rule : Rule} {t : ℕ} → ClassAt nlib n g c rule (Some t) → {f : Fault} {more : List Fault} → found nlib g rule t ≡ f ∷ more
    → all nlib g rule c ≡ f ∷ (more ++ gather (found nlib g rule) (afterward nlib g rule t))
unfolding gather
class_hit {nlib} {g = g} {rule = rule} {t} k e = k.rest ∙ ap (λ (fs : List Fault). fs ++ gather (found nlib g rule) (afterward nlib g rule t)) e

-- where nothing is found from class t on the walk ends
pub class_clear : {nlib n : ℕ} {g : ℕ → Group} {c : ℕ} {rule : Rule} {t : ℕ} → ClassAt nlib n g c rule (Some t) → from_class nlib g rule (Some t) ≡ [] → ClassAt nlib n g c rule None
unfolding gather
class_clear k z = record { asks = k.asks; spot = tt; rest = k.rest ∙ z }

-- ---- records

pub record_start : (nlib : ℕ) (g : ℕ → Group) (rule : Rule) (t : ℕ) {rs : Group} → rs ≡ g t → RecordAt nlib g rule t 0 rs
record_start nlib g rule t e = record { left = e; one = λ q. refl; rest = ap (λ (h : Group). found_in nlib g rule t 0 (asked_of nlib rule t h)) (sym e) }

module _ {nlib : ℕ} {g : ℕ → Group} {rule : Rule} {t : ℕ} where
  module _ {k : ℕ} where
    pub record_left : {rs : Group} → RecordAt nlib g rule t k rs → length rs + k ≤ max (length (g t)) k
    record_left f = omega (arith, ap length f.left, length-drop k (g t))

    -- all records are asked
    pub record_end : {rs : Group} → RecordAt nlib g rule t k rs → rs ≡ [] → found_in nlib g rule t 0 (asked nlib g rule t) ≡ []
    unfolding found_in numbered keep
    record_end f e =
        f.rest ∙ ap (λ (h : Group). found_in nlib g rule t k (asked_of nlib rule t h)) e ∙ ap (found_in nlib g rule t k) (asked_none nlib rule t)

    module _ {rs : Group} (f : RecordAt nlib g rule t k rs) {r : List ℕ} {rs' : Group} (e : rs ≡ r ∷ rs') where
      pub record_here : At (g t) k r
      record_here = at_drop (g t) k (sym e ∙ f.left)

      pub record_few : k < length (g t)
      record_few = omega (arith, ap length (sym e ∙ f.left), length-drop k (g t))

      more : found_in nlib g rule t 0 (asked nlib g rule t) ≡ found_in nlib g rule t k (r ∷ asked_later nlib rule t rs')
      more = f.rest ∙ ap (found_in nlib g rule t k) (ap (asked_of nlib rule t) e ∙ asked_more nlib rule t r rs')

      -- a record that breaks the rule is the first that is found
      pub record_hit : breaks_at nlib g rule t k r ≡ true → found nlib g rule t
          ≡ record { class = t; record_number = k } ∷ (found_in nlib g rule t (k + 1) (asked_later nlib rule t rs') ++ captured_at nlib g rule t)
      unfolding found
      record_hit b = ap (λ (fs : List Fault). fs ++ captured_at nlib g rule t) (more ∙ found_yes nlib g rule t k r (asked_later nlib rule t rs') b)

      module _ (b : breaks_at nlib g rule t k r ≡ false) where
        passed : found_in nlib g rule t 0 (asked nlib g rule t) ≡ found_in nlib g rule t (k + 1) (asked_later nlib rule t rs')
        passed = more ∙ found_no nlib g rule t k r (asked_later nlib rule t rs') b

        pub record_next : only_first nlib rule t ≡ false → {j : ℕ} → j ≡ k + 1 → RecordAt nlib g rule t j rs'
        record_next o ej =
            rw ej
            (record {
              left = drop_next (g t) k (sym e ∙ f.left) ∙ ap (λ (i : ℕ). drop i (g t)) (sym (add-one k));
              one = λ q. absurd (cc);
              rest = passed ∙ ap (found_in nlib g rule t (k + 1)) (later_all nlib rule t rs' o);
            })

        pub record_only : only_first nlib rule t ≡ true → found_in nlib g rule t 0 (asked nlib g rule t) ≡ []
        unfolding found_in numbered keep
        record_only o = passed ∙ ap (found_in nlib g rule t (k + 1)) (later_none nlib rule t rs' o)

-- no record breaks the rule: what is found is the captured variables'
pub records_none : (nlib : ℕ) (g : ℕ → Group) (rule : Rule) (t : ℕ) → found_in nlib g rule t 0 (asked nlib g rule t) ≡ [] → found nlib g rule t ≡ captured_at nlib g rule t
unfolding found
records_none nlib g rule t e = ap (λ (fs : List Fault). fs ++ captured_at nlib g rule t) e

-- ---- captured variables, and rule 9's second part

pub first_none : (fs : List Fault) {o : Option Site} → option_map fault_at o ≡ first_fault fs → o ≡ None → fs ≡ []
first_none [] e n = refl
first_none (f ∷ fs) e n = absurd (let q = ap (option_map fault_at) n in cc)

pub first_some : (fs : List Fault) {o : Option Site} {s : Site} → option_map fault_at o ≡ first_fault fs → o ≡ Some s → (more : List Fault) × (fs ≡ fault_at s ∷ more)
first_some [] e n = absurd (let q = ap (option_map fault_at) n in cc)
first_some (f ∷ fs) {s = s} e n = let q : f ≡ fault_at s = (let p = ap (option_map fault_at) n in cc) in (fs, ap (λ (x : Fault). x ∷ fs) q)

pub last_none : (nlib : ℕ) (g : ℕ → Group) (rule : Rule) (c : ℕ) {b : Bool} → b ≡ base_at g rule c → b ≡ false → last nlib g rule c ≡ []
unfolding fault_if only_if
last_none nlib g rule c e z = ap (λ (b : Bool). fault_if b c) (sym e ∙ z)
