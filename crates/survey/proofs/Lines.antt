-- What the slots of a class and of its superclasses break; and the set of one class, from the sets that the code reads in what its CLASS record says and in the rows.
-- Assumes nothing.
use mathlib.Core.Path.{◌≡◌, refl, sym, ap, ap₂, ◌∙◌, subst}
use mathlib.Core.Bool.{Bool, true, false, not, ◌&&◌, ◌||◌, or_assoc, or-false}
use mathlib.Core.List.{List}
use mathlib.Core.Option.{none}
use Prim.Native.Nat.{ℕ, ◌≤◌, ◌<◌}
use native.Mathlib.Omega.{arith}
use lib.Dec.{T}
use lib.ListN.{get_or}
use Rattle.std.specs.Prelude.{Option, None, Some, is_some}
use Rattle.spec.specs.Lists.{any}
use Rattle.spec.specs.Record.{bit, superclass}
use Rattle.spec.specs.Sheet.{Group, class_record, is_interface}
use Rattle.spec.specs.Classes.{lineage, root}
use Rattle.spec.specs.Refusals.{form_refusal}
use Rattle.laws.proofs.Bools.{false_t, t_false}
use Rattle.theory.proofs.Falls.{Falls}
use Rattle.theory.proofs.Lines.{lineage_library, root_library}
use Rattle.theory.proofs.Form.{Super, sound_super, lineage_up, root_up}
use Rattle.records.specs.declared.record.Head.{Head}
use Rattle.records.specs.Kinds.{head_of}
use Rattle.records.proofs.Optional.{some_is, none_is}
use Rattle.groups.proofs.Few.{indexed_sound}
use Rattle.sheets.specs.Sheets.{Pair, Passed, count, groups, library_count}
use Rattle.sheets.proofs.Indexes.{indexed}
use Rattle.overlay.specs.Types.{Known}
use Rattle.overlay.proofs.Recursion.{formed_falls}
use Rattle.captured.specs.Captured.{Shown}
use Rattle.slots.specs.declared.Late.{Late}
use Rattle.slots.specs.Slots.{root_breaks, slots_break, captured_by, Passes, FieldsSet, HeadSet}
use Rattle.slots.proofs.Sets.{passes_as, passes_both}
use Rattle.slots.proofs.Heads.{own_are, encloser_is, captured_is}
use Rattle.survey.specs.Survey.{line_breaks, ClassSet, Passing}

-- the slots of a class and of its superclasses: at the root, and one step up
module _ (nlib : ℕ) (g : ℕ → Group) (f : Falls g) (rule : Late) {t : ℕ} where
  line_library : t < nlib → root_breaks g rule t ≡ line_breaks nlib g rule t
  unfolding line_breaks lineage root any
  line_library h =
      sym (or-false (root_breaks g rule t))
      ∙ ap₂ (λ (p q : List ℕ). any (slots_break g rule) p || any (root_breaks g rule) q) (sym (lineage_library nlib g f t t h)) (sym (root_library nlib g f t t h))

  line_up : nlib ≤ t → Super g t → (slots_break g rule t || line_breaks nlib g rule (superclass (class_record (g t)))) ≡ line_breaks nlib g rule t
  unfolding line_breaks any
  line_up h u =
      let up : ℕ = superclass (class_record (g t)) in
      sym (or_assoc (slots_break g rule t) (any (slots_break g rule) (lineage nlib g up)) (any (root_breaks g rule) (root nlib g up)))
      ∙ ap₂ (λ (p q : List ℕ). any (slots_break g rule) p || any (root_breaks g rule) q) (sym (lineage_up nlib g f t h u)) (sym (root_up nlib g f t h u))

-- what two sets share: the rules that neither of two tests finds broken
neither : (P Q : Late → Bool) {a b : ℕ} → Passes (λ rule. not (P rule)) a → Passes (λ rule. not (Q rule)) b
    → {r : ℕ} → ((k : ℕ) → bit k r ≡ (bit k a && bit k b)) → Passes (λ rule. not (P rule || Q rule)) r
neither P Q p q e = passes_as (passes_both p q e) (λ rule. go (P rule) (Q rule))
  where
    go : (a b : Bool) → (not a && not b) ≡ not (a || b)
    go true b = refl
    go false b = refl

-- a user class that is no interface, and what its CLASS record says
pub record Concrete (p : Pair) (t : ℕ) (head : Head) : Type 0 where
  pub passed : Passed p
  pub user_class : library_count p ≤ t
  pub there : t < count p
  pub says : head ≡ head_of (class_record (groups p t))
  pub concrete : is_interface (groups p t) ≡ false

module _ (p : Pair) where
  abbrev nlib : ℕ
  nlib = library_count p

  abbrev g : ℕ → Group
  g = groups p

  -- ---- an interface

  pub interface_is : (t : ℕ) {head : Head} → head ≡ head_of (class_record (g t)) → {i : Bool} → i ≡ bit 0 head.flags → is_interface (g t) ≡ i
  unfolding is_interface
  interface_is t e q = ap (λ (h : Head). bit 0 h.flags) (sym e) ∙ sym q

  pub class_interface : (t : ℕ) → is_interface (g t) ≡ true → ClassSet nlib g t 0
  class_interface t i = record { class = λ q. absurd (subst T (sym i ∙ q) tt); interface = λ _ _. refl }

  module _ (ok : form_refusal p.library p.user ≡ none) where
    -- ---- a library class

    pub class_library : {t : ℕ} → t < nlib → {markers : List ℕ} → Known g markers → {head : Head} {r : ℕ} → HeadSet markers head nlib t r → ClassSet nlib g t r
    class_library h k w =
        record { class = λ _. passes_as ((w.root h).is g k) (λ rule. ap not (line_library nlib g (formed_falls p ok) rule h)); interface = λ u. absurd (omega arith) }

    -- ---- a user class that is none, by its head

    module _ {t : ℕ} {head : Head} (c : Concrete p t head) where
      its_super : Super g t
      its_super = sound_super p.library p.user (indexed_sound (indexed c.passed) ok) t c.user_class c.there (false_t c.concrete)

      above_is : {s : ℕ} → head.superclass ≡ Some s → superclass (class_record (g t)) ≡ s
      above_is q = some_is _ (sym q ∙ ap (λ (h : Head). h.superclass) c.says)

      -- there is a superclass, and it is lower
      pub above_there : head.superclass ≡ None → ⊥
      above_there q = let z = none_is (superclass (class_record (g t))) (sym q ∙ ap (λ (h : Head). h.superclass) c.says) in omega (arith, its_super.lower, z, c.passed.few, c.there)

      pub above_some : is_some head.superclass ≡ true
      above_some = go head.superclass above_there
        where
          go : (o : Option ℕ) → (o ≡ None → ⊥) → is_some o ≡ true
          go None h = absurd (h refl)
          go (Some s) h = refl

      pub above_low : {s : ℕ} → head.superclass ≡ Some s → s < t
      above_low q = omega (arith, its_super.lower, above_is q)

      module _ {markers lanes : List ℕ} (known : Known g markers) (shown : Shown g (count p) lanes) {first : ℕ} (h : HeadSet markers head nlib t first)
          {variables : ℕ} (v : Passes (captured_by lanes t) variables) (fixed : ℕ) (fixed_both : (k : ℕ) → bit k fixed ≡ (bit k first && bit k variables))
          {fields : ℕ} (f : FieldsSet markers (g t) fields) (own : ℕ) (own_both : (k : ℕ) → bit k own ≡ (bit k fixed && bit k fields)) where
        own_passes : Passes (λ rule. not (slots_break g rule t)) own
        own_passes =
            let encloser = passes_as (h.own c.user_class) (encloser_is p c.there ok c.says known) in
            let captured = passes_as v (captured_is p c.there c.passed ok shown) in
            passes_as (neither _ _ (neither _ _ encloser captured fixed_both) (f.is g known) own_both) (λ rule. ap not (own_are g rule t))

        pub class_user : {s : ℕ} → head.superclass ≡ Some s → {row : List ℕ} → Passing nlib t g row → {r : ℕ} → ((k : ℕ) → bit k r ≡ (bit k own && bit k (get_or row s 0))) → ClassSet nlib g t r
        class_user {s} q {row} w both =
            let above = (w.is s (above_low q)).class (t_false _ (subst (λ (i : ℕ). T (not (is_interface (g i)))) (above_is q) its_super.concrete)) in
            record {
              class = λ _.
                  passes_as (neither _ _ own_passes above both)
                  (λ rule. ap not (ap (λ (i : ℕ). slots_break g rule t || line_breaks nlib g rule i) (sym (above_is q)) ∙ line_up nlib g (formed_falls p ok) rule c.user_class its_super));
              interface = λ _ i. absurd (subst T (sym i ∙ c.concrete) tt);
            }
