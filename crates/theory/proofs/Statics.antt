-- A clean class keeps no Token in a static field: it would be Powerless too, and those clash. 11 refuses such a library class, rule 4 faults such a user class.
-- Assumes nothing.
use mathlib.Core.Path.{◌≡◌, refl, sym, ◌∙◌, subst}
use mathlib.Core.Logic.{◌⊎◌, inl, inr}
use mathlib.Core.Bool.{not, ◌&&◌}
use mathlib.Core.List.{List, [], ◌∷◌, Memᴰ}
use Prim.Native.Nat.{ℕ, ◌≤◌, ◌<◌}
use native.Mathlib.Omega.{arith}
use lib.Dec.{T, T_not, ltb, ltb→lt, nltb→le, lit<}
use lib.ListN.{take}
use Rattle.spec.specs.Record.{bit, is_kind, is_class, FIELD, field_ty, references, ty_references}
use Rattle.spec.specs.Sheet.{Group, class_count, total, group, of_kind}
use Rattle.spec.specs.Markers.{Powerless, Token, Selfless, Equatable, clash}
use Rattle.spec.specs.Classes.{overlay, has_marker}
use Rattle.spec.specs.Rules.{Verdict, clean}
use Rattle.spec.specs.Verdicts.{verdict_at}
use Rattle.spec.specs.Relations.{Marked}
use Rattle.spec.specs.Breaks.{Not, Breaks, Satisfies, object, primitive, rule4, rule5}
use Rattle.spec.specs.Refusals.{Accepted, present_refusal, sheet_refusal}
use Rattle.theory.specs.Claims.{Right, NoTokenKept, NoStaticToken}
use Rattle.laws.proofs.Bools.{decide, t_and, or_l}
use Rattle.laws.proofs.All.{all_kept}
use Rattle.laws.proofs.Members.{at_in}
use Rattle.theory.proofs.Answers.{first_none}
use Rattle.theory.proofs.Accept.{Deemed, deemed_fits}
use Rattle.theory.proofs.Form.{relations_hold, form_holds, one_record, group_one_class}
use Rattle.theory.proofs.Demand2.{demand2}
use Rattle.theory.proofs.References.{references_field}

class_named : (r : List ℕ) → T (is_kind FIELD r) → (field_ty r).code ≡ 0 → Memᴰ (field_ty r).class (references r)
unfolding ty_references
class_named r f e =
    let one : ty_references (field_ty r) ≡ (field_ty r).class ∷ [] = rw e in
    subst (Memᴰ (field_ty r).class) (sym (references_field r f ∙ one)) (Memᴰ.head refl)

module _ (library user : List ℕ) (used : ℕ) (a : Accepted library user used) where
  abbrev front : List ℕ
  front = take used user

  abbrev g : ℕ → Group
  g = group library front

  abbrev nlib : ℕ
  nlib = class_count library

  library_fits : (d : ℕ) → d < nlib → T (not (clash (overlay g d)))
  unfolding present_refusal sheet_refusal of_kind total
  library_fits d h =
      let eleven = (first_none _ (first_none _ a.unrefused).1.0).1.1.1.1.1.1.0 in
      let kept = all_kept (Deemed nlib g d) is_class (g d) (deemed_fits library front eleven d) in
      let only = rw (one_record (g d) (group_one_class library front d (omega arith))) at kept in
      only.0.0 only.0.1 h

  module _ (verdict : ℕ → Verdict) (right : (c : ℕ) → nlib ≤ c → c < total library front → Right (Breaks nlib g c) (verdict c)) where
    -- no class is both, if it is a library class or a clean one
    powerless_no_token : (d : ℕ) → d < total library front → (nlib ≤ d → verdict d ≡ clean) → Marked g d Powerless → Not (Marked g d Token)
    unfolding clash has_marker
    powerless_no_token d there well m token = go (decide (ltb d nlib))
      where
        go : T (ltb d nlib) ⊎ T (not (ltb d nlib)) → ⊥
        go (inl t) =
            let o : ℕ = overlay g d in
            let rel = relations_hold library user used a in
            let two = t_and (bit Powerless o) (bit Token o) ((rel.marked d Powerless (lit< tt)).1 m) ((rel.marked d Token (lit< tt)).1 token) in
            T_not (clash o) (library_fits d (ltb→lt d nlib t)) (or_l (bit Powerless o && bit Token o) (bit Selfless o && bit Equatable o) two)
        go (inr t) = let l = nltb→le d nlib t in (right d l there).cleanly.0 (well l) 4 (0 ∷ []) d 0 (rule4 (inl (m, token)))

    -- of any verdicts that are right about the rules
    pub right_no_token : NoTokenKept library front verdict
    right_no_token c hl hn fine k r at f st code well token = (right c hl hn).cleanly.0 fine 5 (k ∷ []) c k (rule5 at f st (λ p. bad p.1))
      where
        bad : Satisfies g Powerless (field_ty r) → ⊥
        bad (primitive z ne) = ne code
        bad (object z e m) =
            let there = (form_holds library user used a).there c (field_ty r).class (record { bytes = r; member = at_in at; names = class_named r f code }) in
            powerless_no_token (field_ty r).class there well m token

pub no_static_token : NoStaticToken
no_static_token library user used a = right_no_token library user used a (verdict_at library (take used user)) (demand2 library user used a)
