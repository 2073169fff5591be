-- The number that refuses a record in the second pass, by its kind.
-- Assumes nothing.
use mathlib.Core.Path.{◌≡◌, refl, sym, ap, ap₂, ◌∙◌}
use mathlib.Core.Bool.{Bool, true, false, not, ◌&&◌, ◌||◌, or-false}
use mathlib.Core.List.{List, [], ◌∷◌}
use Prim.Native.Nat.{ℕ, ◌<◌}
use native.Mathlib.Omega.{arith}
use lib.Dec.{eqb, leb, ltb, eqb→eq}
use lib.ListN.{length}
use borrow.Author.Tests.{le-ltb}
use Rattle.std.specs.Prelude.{option_to_list}
use Rattle.std.specs.declared.option.Option.{Option as Maybe}
use Rattle.spec.specs.Lists.{any}
use Rattle.spec.specs.Record.{bit, none16, kind, CLASS, IMPLEMENTS, FIELD, LOCAL, USES, BUILDS, MEMBER, REFERS, flags, superclass, encloser, target, index}
use Rattle.spec.specs.Record.{field_ty, local_ty, is_static, unless_none, references}
use Rattle.spec.specs.Sheet.{of_kind, is_interface, is_instance_field}
use Rattle.spec.specs.Refusals.{no_such_class, no_such_index, superclass_fits, encloser_fits, implements_fits, uses_fits, name_met, form_tests}
use Rattle.laws.proofs.Bools.{eq→eqb, true_t}
use Rattle.theory.proofs.References.{references_class, references_implements, references_field, references_local, references_uses, references_builds, references_member, references_refers}
use Rattle.theory.proofs.Somewhere.{any_append}
use Rattle.records.specs.declared.record.Ty.{Ty}
use Rattle.records.specs.declared.record.Head.{Head}
use Rattle.records.specs.Kinds.{optional, ty_of, head_of}
use Rattle.sheets.specs.Sheets.{Pair, count, groups, library_count}
use Rattle.second.specs.Second.{first_met, form_number, absent, bare, superclass_ok, encloser_ok, class_tests, target_tests, type_tests, implements_tests, field_tests, index_tests, uses_tests}

-- ---- what may be missing

absent_lem : (p : Pair) (d : ℕ) → any (leb (count p)) (unless_none d) ≡ absent p (optional d)
unfolding any unless_none
absent_lem p d = go (eqb d none16)
  where
    go : (b : Bool) → any (leb (count p)) (elim b as (λ (_ : Bool). List ℕ) [ true ↦ [] | false ↦ d ∷ [] ]) ≡ absent p (elim b as (λ (_ : Bool). Maybe ℕ) [ true ↦ Maybe.None | false ↦ Maybe.Some d ])
    go true = refl
    go false = or-false (leb (count p) d)

pub absent_any : (p : Pair) (o : Maybe ℕ) {ts : List ℕ} → option_to_list o ≡ ts → absent p o ≡ any (leb (count p)) ts
unfolding any
absent_any p Maybe.None e = rw (sym e) refl
absent_any p (Maybe.Some d) e = rw (sym e) (sym (or-false (leb (count p) d)))

-- ---- a CLASS record, whose superclass and encloser are options

module _ (p : Pair) (c : ℕ) (r : List ℕ) where
  superclass_lem : c < 65535 → superclass_fits (groups p) c r ≡ superclass_ok p c (flags r) (optional (superclass r))
  unfolding superclass_fits
  superclass_lem h = go (eqb (superclass r) none16) refl
    where
      go : (b : Bool) → eqb (superclass r) none16 ≡ b
          → (elim (bare c (flags r)) as (λ (_ : Bool). Bool) [ true ↦ b | false ↦ ltb (superclass r) c && not (is_interface (groups p (superclass r))) ])
          ≡ superclass_ok p c (flags r) (elim b as (λ (_ : Bool). Maybe ℕ) [ true ↦ Maybe.None | false ↦ Maybe.Some (superclass r) ])
      go true e = none (bare c (flags r))
        where
          none : (b : Bool) → (elim b as (λ (_ : Bool). Bool) [ true ↦ true | false ↦ ltb (superclass r) c && not (is_interface (groups p (superclass r))) ]) ≡ b
          none true = refl
          none false = rw (le-ltb (superclass r) c (omega (arith, eqb→eq (superclass r) none16 (true_t e))))
      go false e = some (bare c (flags r))
        where
          some : (b : Bool)
              → (elim b as (λ (_ : Bool). Bool) [ true ↦ false | false ↦ ltb (superclass r) c && not (is_interface (groups p (superclass r))) ])
              ≡ (not b && ltb (superclass r) c && not (is_interface (groups p (superclass r))))
          some true = refl
          some false = refl

  encloser_lem : encloser_fits (library_count p) c r ≡ encloser_ok p c (flags r) (optional (encloser r))
  unfolding encloser_fits
  encloser_lem = go (eqb (encloser r) none16)
    where
      go : (b : Bool)
          → (elim b as (λ (_ : Bool). Bool) [ true ↦ not (bit 1 (flags r)) | false ↦ leb (library_count p) c && leb (library_count p) (encloser r) && ltb (encloser r) c ])
          ≡ encloser_ok p c (flags r) (elim b as (λ (_ : Bool). Maybe ℕ) [ true ↦ Maybe.None | false ↦ Maybe.Some (encloser r) ])
      go true = refl
      go false = refl

-- ---- each kind

module _ (p : Pair) (c : ℕ) (r : List ℕ) where
  -- the tests after the first, with the kind as a number
  later : ℕ → List (ℕ × Bool)
  later k =
      (9, eqb k USES && leb (length (of_kind LOCAL (groups p (target r)))) (index r))
      ∷ (9, eqb k REFERS && leb (length (of_kind MEMBER (groups p (target r)))) (index r))
      ∷ (8, eqb k CLASS && (eqb c 0 && bit 0 (flags r)))
      ∷ (8, eqb k CLASS && not (superclass_fits (groups p) c r))
      ∷ (8, eqb k CLASS && not (encloser_fits (library_count p) c r))
      ∷ (8, eqb k IMPLEMENTS && not (implements_fits (groups p) c r))
      ∷ (8, (eqb k FIELD && not (is_static r)) && is_interface (groups p c))
      ∷ (8, eqb k USES && not (uses_fits (groups p) c r))
      ∷ (10, eqb k CLASS && name_met (groups p) c r)
      ∷ []

  -- the first: the classes that the record names are there
  by_number : (k : ℕ) → kind r ≡ k → {ds : List ℕ} → references r ≡ ds → {b : Bool} → any (leb (count p)) ds ≡ b → first_met ((9, b) ∷ later k) ≡ form_number p c r
  unfolding form_number form_tests no_such_class no_such_index is_instance_field later
  by_number k e ed eb = sym (ap₂ (λ (x : ℕ) (b : Bool). first_met ((9, b) ∷ later x)) e (ap (any (leb (count p))) ed ∙ eb))

  one_missing : (t : ℕ) → any (leb (count p)) (t ∷ []) ≡ leb (count p) t
  unfolding any
  one_missing t = or-false (leb (count p) t)

  pub class_is : c < 65535 → kind r ≡ CLASS → {h : Head} → h ≡ head_of r → first_met (class_tests p c h r) ≡ form_number p c r
  unfolding later
  class_is l e eh =
      rw (eh, ← superclass_lem p c r l, ← encloser_lem p c r)
      (by_number CLASS e (references_class r (eq→eqb e))
      (any_append (leb (count p)) (unless_none (superclass r)) (unless_none (encloser r)) ∙ ap₂ (λ (a b : Bool). a || b) (absent_lem p (superclass r)) (absent_lem p (encloser r))))

  pub implements_is : kind r ≡ IMPLEMENTS → {t : ℕ} → t ≡ target r → first_met (implements_tests p c t) ≡ form_number p c r
  unfolding later implements_fits
  implements_is e et = rw et (by_number IMPLEMENTS e (references_implements r (eq→eqb e)) (one_missing (target r)))

  pub field_is : kind r ≡ FIELD → {f : ℕ} → f ≡ flags r → {t : Ty} → t ≡ ty_of (field_ty r) → first_met (field_tests p c f t) ≡ form_number p c r
  unfolding later is_static
  field_is e ef et = rw (ef, et) (by_number FIELD e (references_field r (eq→eqb e)) refl)

  pub local_is : kind r ≡ LOCAL → {t : Ty} → t ≡ ty_of (local_ty r) → first_met (type_tests p t) ≡ form_number p c r
  unfolding later
  local_is e et = rw et (by_number LOCAL e (references_local r (eq→eqb e)) refl)

  pub uses_is : kind r ≡ USES → {t i : ℕ} → t ≡ target r → i ≡ index r → first_met (uses_tests p c t i) ≡ form_number p c r
  unfolding later uses_fits
  uses_is e et ei = rw (et, ei) (by_number USES e (references_uses r (eq→eqb e)) (one_missing (target r)))

  pub builds_is : kind r ≡ BUILDS → {t : ℕ} → t ≡ target r → first_met (target_tests p t) ≡ form_number p c r
  unfolding later
  builds_is e et = rw et (by_number BUILDS e (references_builds r (eq→eqb e)) (one_missing (target r)))

  pub member_is : kind r ≡ MEMBER → first_met [] ≡ form_number p c r
  unfolding later any
  member_is e = by_number MEMBER e (references_member r (eq→eqb e)) refl

  pub refers_is : kind r ≡ REFERS → {t i : ℕ} → t ≡ target r → i ≡ index r → first_met (index_tests p MEMBER t i) ≡ form_number p c r
  unfolding later
  refers_is e et ei = rw (et, ei) (by_number REFERS e (references_refers r (eq→eqb e)) (one_missing (target r)))
