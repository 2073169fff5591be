-- What the second pass asks of a group, and what 11 asks of the library: two rows of groups that have the same of it fit alike.
-- Assumes nothing.
use mathlib.Core.Path.{◌≡◌, refl, ap, subst}
use mathlib.Core.Bool.{Bool, true, false, not, ◌&&◌, ◌||◌}
use mathlib.Core.List.{List, ◌∷◌}
use Prim.Native.Nat.{ℕ, zero, suc, ◌<◌}
use lib.Dec.{T, eqb, ltb}
use lib.ListN.{length}
use Rattle.spec.specs.Lists.{any, gather, elem, span, same_list}
use Rattle.spec.specs.Record.{bit, none16, flags, superclass, class_name, target, index, CLASS, LOCAL, MEMBER}
use Rattle.spec.specs.Sheet.{Group, class_record, of_kind, is_interface}
use Rattle.spec.specs.Classes.{enclosing, enclosers_in, enclosers}
use Rattle.spec.specs.Refusals.{superclass_fits, implements_fits, uses_fits, name_met}
use Rattle.theory.proofs.Accept.{RecordFits}

-- ---- the second pass asks of a group its CLASS record, and its LOCALs and MEMBERs; so of two rows of groups that have the same of these

pub record Keeps (g h : Group) : Type 0 where
  pub first : class_record g ≡ class_record h
  pub classes : of_kind CLASS g ≡ of_kind CLASS h
  pub locals : of_kind LOCAL g ≡ of_kind LOCAL h
  pub members : of_kind MEMBER g ≡ of_kind MEMBER h

module _ (g g' : ℕ → Group) (keeps : (c : ℕ) → Keeps (g c) (g' c)) where
  interface_same : (c : ℕ) → is_interface (g c) ≡ is_interface (g' c)
  unfolding is_interface
  interface_same c = ap (λ (r : List ℕ). bit 0 (flags r)) (keeps c).first

  enclosing_same : (c : ℕ) → enclosing (g c) ≡ enclosing (g' c)
  unfolding enclosing
  enclosing_same c = ap (gather _) (keeps c).classes

  enclosers_in_same : (n c : ℕ) → enclosers_in g n c ≡ enclosers_in g' n c
  unfolding enclosers_in
  enclosers_in_same zero c = refl
  enclosers_in_same (suc n) c = λ i. gather (λ e. e ∷ enclosers_in_same n e i) (enclosing_same c i)

  module _ (c : ℕ) (r : List ℕ) where
    super_same : superclass_fits g c r ≡ superclass_fits g' c r
    unfolding superclass_fits
    super_same =
        ap (λ (x : Bool). elim (eqb c 0 || bit 0 (flags r)) as (λ (b : Bool). Bool) [ true ↦ eqb (superclass r) none16 | false ↦ ltb (superclass r) c && not x ])
        (interface_same (superclass r))

    implements_same : implements_fits g c r ≡ implements_fits g' c r
    unfolding implements_fits
    implements_same = ap (λ (x : Bool). ltb (target r) c && x) (interface_same (target r))

    uses_same : uses_fits g c r ≡ uses_fits g' c r
    unfolding uses_fits enclosers
    uses_same = ap (λ (es : List ℕ). elem (target r) (c ∷ es)) (enclosers_in_same (suc c) c)

    met_same : name_met g c r ≡ name_met g' c r
    unfolding name_met
    met_same = λ i. any (λ d. same_list (class_name ((keeps d).first i)) (class_name r)) (span 0 c)

    pub fits_kept : (nlib n : ℕ) → RecordFits nlib n g c r → RecordFits nlib n g' c r
    fits_kept nlib n f = record {
      there = f.there;
      local = λ t. subst (λ (x : Group). index r < length x) (keeps (target r)).locals (f.local t);
      member = λ t. subst (λ (x : Group). index r < length x) (keeps (target r)).members (f.member t);
      zero_fits = f.zero_fits;
      superclass_fits = λ t. subst T super_same (f.superclass_fits t);
      encloser_fits = f.encloser_fits;
      implements_fits = λ t. subst T implements_same (f.implements_fits t);
      field_fits = λ t. subst (λ (b : Bool). T (not b)) (interface_same c) (f.field_fits t);
      uses_fits = λ t. subst T uses_same (f.uses_fits t);
      name_fits = λ t. subst (λ (b : Bool). T (not b)) met_same (f.name_fits t);
    }
