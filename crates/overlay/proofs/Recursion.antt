-- What a class asks has lower numbers, and what it gathers from its superclass and its interfaces.
-- Assumes nothing.
use mathlib.Core.Path.{◌≡◌, refl, sym, ap, ◌∙◌, subst}
use mathlib.Core.Bool.{Bool, true, false}
use mathlib.Core.List.{List, [], ◌∷◌, ◌++◌, map, append-nil, map-append}
use Prim.Native.Nat.{ℕ, suc, ◌<◌}
use native.Mathlib.Nat.{le_refl}
use lib.Dec.{T, eqb}
use Rattle.std.specs.Prelude.{Option, None, Some}
use Rattle.std.proofs.Math.Option.{none}
use Rattle.spec.specs.Lists.{gather}
use Rattle.spec.specs.Record.{is_kind, IMPLEMENTS, own_markers, superclass, target, unless_none}
use Rattle.spec.specs.Sheet.{Group, class_record, of_kind}
use Rattle.spec.specs.Markers.{union, union_all}
use Rattle.spec.specs.Classes.{superclasses, targets, supertypes, gathered}
use Rattle.spec.specs.Refusals.{form_refusal, one_class}
use Rattle.laws.proofs.All.{All, map_cong, all_left, all_right, keep_yes, keep_no}
use Rattle.records.specs.Kinds.{Reads, optional, head_of}
use Rattle.records.specs.declared.record.Head.{Head}
use Rattle.records.specs.declared.record.Body.{Body}
use Rattle.records.specs.declared.record.Body.TheVariants as B
use Rattle.records.proofs.Bodies.{is_of, is_not, not_implements}
use Rattle.sheets.specs.Sheets.{Pair, groups, count, library_count}
use Rattle.theory.proofs.Accept.{form_fits}
use Rattle.theory.proofs.Falls.{Falls, falls as falls_of}
use Rattle.theory.proofs.Form.{one_record, group_one_class}
use Rattle.theory.proofs.Overlay.{gathered_enough, supertypes_lower}
use Rattle.overlay.specs.Memo.{raw, with_interfaces}
use Rattle.overlay.proofs.Unions.{union_assoc, union_zero, union_append}

-- class numbers fall where both passes passed
pub formed_falls : (p : Pair) → form_refusal p.library p.user ≡ none → Falls (groups p)
formed_falls p e = falls_of (library_count p) (count p) (groups p) (form_fits p.library p.user e)

-- no class, or the one
abbrev listed : Option ℕ → List ℕ
listed None = []
listed (Some s) = s ∷ []

superclasses_are : (h : Group) → T (one_class h) → superclasses h ≡ listed (optional (superclass (class_record h)))
unfolding superclasses gather unless_none
superclasses_are h o =
    ap (gather (λ r. unless_none (superclass r))) (one_record h o) ∙ append-nil (unless_none (superclass (class_record h)))
    ∙ go (superclass (class_record h)) (eqb (superclass (class_record h)) 65535)
  where
    go : (s : ℕ) (b : Bool) → elim b as (λ (x : Bool). List ℕ) [ true ↦ [] | false ↦ s ∷ [] ]
        ≡ listed (elim b as (λ (x : Bool). Option ℕ) [ true ↦ None | false ↦ Some s ])
    go s true = refl
    go s false = refl

-- ---- the interfaces that records list

module _ {rs rest : List (List ℕ)} {r : List ℕ} (e : rs ≡ r ∷ rest) (b : Body) (says : Reads r b) where
  pub lists : {i : ℕ} → b ≡ B.Implements i → targets IMPLEMENTS rs ≡ i ∷ targets IMPLEMENTS rest
  unfolding targets of_kind
  lists {i} q =
      let h : Reads r (B.Implements i) = subst (Reads r) q says in
      ap (targets IMPLEMENTS) e ∙ ap (map target) (keep_yes (is_kind IMPLEMENTS) r rest (is_of r (B.Implements i) h refl)) ∙ ap (λ (x : ℕ). x ∷ targets IMPLEMENTS rest) (sym h.1)

  pub lists_none : ((i : ℕ) → b ≡ B.Implements i → ⊥) → targets IMPLEMENTS rs ≡ targets IMPLEMENTS rest
  unfolding targets of_kind
  lists_none n = ap (targets IMPLEMENTS) e ∙ ap (map target) (keep_no (is_kind IMPLEMENTS) r rest (is_not r b says (not_implements b n)))

-- ---- a class of two sheets in which class numbers fall, by what its CLASS record says

module _ (p : Pair) (falls : Falls (groups p)) (c : ℕ) where
  abbrev g : ℕ → Group
  g = groups p

  below : All (λ e. e < c) (supertypes (g c))
  below = supertypes_lower g falls c

  pub interfaces_lower : All (λ e. e < c) (targets IMPLEMENTS (g c))
  unfolding supertypes
  interfaces_lower = all_right (λ e. e < c) (superclasses (g c)) (targets IMPLEMENTS (g c)) below

  raw_step : raw g c ≡ union (own_markers (class_record (g c))) (union_all (map (raw g) (supertypes (g c))))
  unfolding raw gathered
  raw_step =
      ap (λ (ms : List ℕ). union (own_markers (class_record (g c))) (union_all ms))
      (map_cong (λ e. e < c) (gathered g c) (raw g) (λ e q. gathered_enough g falls c (suc e) e q (le_refl (suc e))) (supertypes (g c)) below)

  module _ (there : c < count p) {records : Group} (here : records ≡ g c) {head : Head} (says : head ≡ head_of (class_record records)) where
    is : head ≡ head_of (class_record (g c))
    is = says ∙ ap (λ (h : Group). head_of (class_record h)) here

    supers : superclasses (g c) ≡ listed head.superclass
    supers = superclasses_are (g c) (group_one_class p.library p.user c there) ∙ ap (λ (h : Head). listed h.superclass) (sym is)

    raw_is : with_interfaces g c (union head.markers (union_all (map (raw g) (listed head.superclass)))) ≡ raw g c
    unfolding with_interfaces supertypes
    raw_is =
        let above : List ℕ = map (raw g) (listed head.superclass) in
        let beside : List ℕ = targets IMPLEMENTS (g c) in
        union_assoc head.markers (union_all above) (union_all (map (raw g) beside))
        ∙ ap (union head.markers)
        (sym (union_append above (map (raw g) beside)) ∙ ap union_all (sym (map-append (raw g) (listed head.superclass) beside))
        ∙ ap (λ (ss : List ℕ). union_all (map (raw g) (ss ++ beside))) (sym supers))
        ∙ ap (λ (h : Head). union h.markers (union_all (map (raw g) (supertypes (g c))))) is
        ∙ sym raw_step

    module _ {s : ℕ} (e : head.superclass ≡ Some s) where
      pub superclass_lower : s < c
      unfolding supertypes
      superclass_lower = (subst (All (λ e. e < c)) (supers ∙ ap listed e) (all_left (λ e. e < c) (superclasses (g c)) (targets IMPLEMENTS (g c)) below)).0

      pub raw_above : {up mine m : ℕ} → up ≡ raw g s → mine ≡ union head.markers up → m ≡ with_interfaces g c mine → m ≡ raw g c
      unfolding union_all
      raw_above u q w =
          w ∙ ap (with_interfaces g c) (q ∙ ap (union head.markers) (u ∙ sym (union_zero (raw g s)) ∙ ap (λ (o : Option ℕ). union_all (map (raw g) (listed o))) (sym e)))
          ∙ raw_is

    pub raw_alone : head.superclass ≡ None → {mine m : ℕ} → mine ≡ head.markers → m ≡ with_interfaces g c mine → m ≡ raw g c
    unfolding union_all
    raw_alone e q w =
        w ∙ ap (with_interfaces g c) (q ∙ sym (union_zero head.markers) ∙ ap (λ (o : Option ℕ). union head.markers (union_all (map (raw g) (listed o)))) (sym e)) ∙ raw_is
