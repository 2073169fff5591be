-- Where each record of each class fits, the second pass refuses nothing: the converses of `by_class` and `form_fits`.
-- Assumes nothing.
use mathlib.Core.Path.{◌≡◌, refl, sym, ◌∙◌, subst}
use mathlib.Core.Bool.{Bool, true, false, not, ◌&&◌}
use mathlib.Core.List.{List, [], ◌∷◌, ◌++◌}
use mathlib.Core.Option.{none}
use Prim.Native.Nat.{ℕ, suc, ◌+◌, ◌-◌, ◌<◌}
use native.Mathlib.Nat.{zero-add, add-zero, suc-add, add-suc}
use native.Mathlib.Omega.{arith}
use lib.Dec.{T, eqb, leb}
use lib.ListN.{length, get_or}
use Rattle.spec.specs.Record.{kind, is_kind, is_class, bit, flags, target, index, references, IMPLEMENTS, LOCAL, USES, MEMBER, REFERS}
use Rattle.spec.specs.Sheet.{Group, Located, locate, located_in, located, Split, split_groups, records_of, groups_of, class_count, total, group, of_kind, is_interface, is_instance_field}
use Rattle.spec.specs.Refusals.{no_such_class, no_such_index, superclass_fits, encloser_fits, implements_fits, uses_fits, name_met, form_tests, form_refusal}
use Rattle.spec.proofs.Also.{◌also◌}
use Rattle.laws.proofs.Bools.{not_and, implied, nleb}
use Rattle.laws.proofs.All.{All, all_append, weaken, none_any}
use Rattle.theory.proofs.Cut.{split_class, split_other}
use Rattle.theory.proofs.Answers.{Fails, unrefused}
use Rattle.theory.proofs.Accept.{locate_if, Each, RecordFits}

-- ---- from classes to located records: the converse of `by_class`

module _ (P : ℕ → List ℕ → Type 0) where
  record Parted (n : ℕ) (t : Split) : Type 0 where
    loose : All (P (n - 1)) t.loose
    groups : Each P n t.groups

  spread : (s at n k p : ℕ) (rs : List (List ℕ)) → Parted n (split_groups rs) → All (λ l. P l.class l.bytes) (locate s at n k p rs)
  unfolding locate locate_if
  spread s at n k p [] h = tt
  spread s at n k p (r ∷ rs) h = go (is_class r) refl (spread s (at + length r) (suc n) 1 (kind r) rs) (spread s (at + length r) n (suc k) (kind r) rs)
    where
      go : (b : Bool) → is_class r ≡ b
          → (Parted (suc n) (split_groups rs) → All (λ l. P l.class l.bytes) (locate s (at + length r) (suc n) 1 (kind r) rs))
          → (Parted n (split_groups rs) → All (λ l. P l.class l.bytes) (locate s (at + length r) n (suc k) (kind r) rs))
          → All (λ l. P l.class l.bytes) (locate_if s at n k p r rs b)
      go true e f f' =
          let q = subst (Parted n) (split_class r rs e) h in
          (q.groups.0.0, f (record { loose = subst (λ (m : ℕ). All (P m) (split_groups rs).loose) (let z : n ≡ suc n - 1 = omega arith in z) q.groups.0.1; groups = q.groups.1 }))
      go false e f f' = let q = subst (Parted n) (split_other r rs e) h in (q.loose.0, f' (record { loose = q.loose.1; groups = q.groups }))

  each_of : (n : ℕ) (xs : List Group) → ((i : ℕ) → All (P (n + i)) (get_or xs i [])) → Each P n xs
  each_of n [] h = tt
  each_of n (x ∷ xs) h =
      (subst (λ (m : ℕ). All (P m) x) (add-zero n) (h 0), each_of (suc n) xs (λ i. subst (λ (m : ℕ). All (P m) (get_or xs i [])) (add-suc n i ∙ sym (suc-add n i)) (h (suc i))))

  each_right : (n : ℕ) (xs ys : List Group) → Each P n (xs ++ ys) → Each P (n + length xs) ys
  each_right n [] ys h = subst (λ (m : ℕ). Each P m ys) (sym (add-zero n)) h
  each_right n (x ∷ xs) ys h = subst (λ (m : ℕ). Each P m ys) (suc-add n (length xs) ∙ sym (add-suc n (length xs))) (each_right (suc n) xs ys h.1)

  each_left : (n : ℕ) (xs ys : List Group) → Each P n (xs ++ ys) → Each P n xs
  each_left n [] ys h = tt
  each_left n (x ∷ xs) ys h = (h.0, each_left (suc n) xs ys h.1)

  pub of_class : (lib user : List ℕ) → (split_groups (records_of lib)).loose ≡ [] → (split_groups (records_of user)).loose ≡ []
      → ((c : ℕ) → All (P c) (group lib user c)) → All (λ l. P l.class l.bytes) (located lib user)
  unfolding located located_in group class_count groups_of
  of_class lib user el eu h =
      let e = each_of 0 (groups_of lib ++ groups_of user) (λ i. subst (λ (m : ℕ). All (P m) (get_or (groups_of lib ++ groups_of user) i [])) (sym (zero-add i)) (h i)) in
      all_append (λ l. P l.class l.bytes) (located_in 0 0 lib) (located_in 1 (class_count lib) user)
      (spread 0 0 0 0 0 (records_of lib) (record { loose = subst (All (P (0 - 1))) (sym el) tt; groups = each_left 0 (groups_of lib) (groups_of user) e }))
      (spread 1 0 (class_count lib) 0 0 (records_of user) (record {
        loose = subst (All (P (class_count lib - 1))) (sym eu) tt;
        groups = subst (λ (m : ℕ). Each P m (groups_of user)) (zero-add (length (groups_of lib))) (each_right 0 (groups_of lib) (groups_of user) e);
      }))

-- ---- the second pass

failing : (nlib n : ℕ) (g : ℕ → Group) (l : Located) → RecordFits nlib n g l.class l.bytes → All Fails (form_tests g nlib n l)
unfolding form_tests no_such_class no_such_index
failing nlib n g l f =
    let r = l.bytes in
    let c = l.class in
    none_any (leb n) (references r) (weaken (λ d. d < n) (λ d. T (not (leb n d))) (λ d h. nleb n d h) (references r) f.there)
    also not_and (is_kind USES r) (leb (length (of_kind LOCAL (g (target r)))) (index r)) (λ t. nleb _ _ (f.local t))
    also not_and (is_kind REFERS r) (leb (length (of_kind MEMBER (g (target r)))) (index r)) (λ t. nleb _ _ (f.member t))
    also not_and (is_class r) (eqb c 0 && bit 0 (flags r)) (λ t. not_and (eqb c 0) (bit 0 (flags r)) (f.zero_fits t))
    also implied (is_class r) (superclass_fits g c r) f.superclass_fits
    also implied (is_class r) (encloser_fits nlib c r) f.encloser_fits
    also implied (is_kind IMPLEMENTS r) (implements_fits g c r) f.implements_fits
    also not_and (is_instance_field r) (is_interface (g c)) f.field_fits
    also implied (is_kind USES r) (uses_fits g c r) f.uses_fits
    also not_and (is_class r) (name_met g c r) f.name_fits
    also tt

pub fits_form : (lib user : List ℕ) → (split_groups (records_of lib)).loose ≡ [] → (split_groups (records_of user)).loose ≡ []
    → ((c : ℕ) → All (RecordFits (class_count lib) (total lib user) (group lib user) c) (group lib user c)) → form_refusal lib user ≡ none
unfolding form_refusal
fits_form lib user el eu h =
    let nlib : ℕ = class_count lib in
    let n : ℕ = total lib user in
    let g : ℕ → Group = group lib user in
    unrefused (form_tests g nlib n) (λ l. RecordFits nlib n g l.class l.bytes) (failing nlib n g) (located lib user) (of_class (RecordFits nlib n g) lib user el eu h)
