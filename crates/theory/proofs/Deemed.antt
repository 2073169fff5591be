-- 11 asks the library's classes alone: where a user sheet brings no refusal by 11, another beside the same library brings none.
-- Assumes nothing.
use mathlib.Core.Path.{◌≡◌, sym, ◌∙◌, subst}
use mathlib.Core.Bool.{Bool, not, ◌&&◌, ◌||◌}
use mathlib.Core.List.{List, [], Memᴰ}
use mathlib.Core.Option.{none}
use Prim.Native.Nat.{ℕ, ◌<◌}
use lib.Dec.{T, eqb, ltb, ltb→lt}
use lib.ListN.{get_or-append}
use Rattle.spec.specs.Record.{is_class}
use Rattle.spec.specs.Sheet.{Group, located, split_groups, records_of, groups_of, class_count, group}
use Rattle.spec.specs.Markers.{clash}
use Rattle.spec.specs.Classes.{overlay}
use Rattle.spec.specs.Refusals.{deemed_tests, deemed_refusal}
use Rattle.laws.proofs.Bools.{not_and, not_and_r, and_r}
use Rattle.laws.proofs.All.{All, at_member, of_members}
use Rattle.theory.proofs.Answers.{passing, unrefused}
use Rattle.theory.proofs.Accept.{by_class}
use Rattle.theory.proofs.Falls.{Falls}
use Rattle.theory.proofs.Alike.{overlay_same, below_above}
use Rattle.theory.proofs.Fitting.{of_class}

-- what 11 refuses of a library class c with overlay markers m
refused : ℕ → ℕ → Bool
refused c m = clash m || (eqb c 0 && not (eqb m 0))

abbrev Passed : ℕ → (ℕ → Group) → ℕ → List ℕ → Type 0
Passed nlib g c r = T (is_class r && ltb c nlib) → T (not (refused c (overlay g c)))

module _ (library user new : List ℕ) where
  pub library_same : (c : ℕ) → c < class_count library → group library user c ≡ group library new c
  unfolding group class_count
  library_same c h = get_or-append (groups_of library) (groups_of user) [] c h ∙ sym (get_or-append (groups_of library) (groups_of new) [] c h)

  pub deemed_stays : Falls (group library user) → (split_groups (records_of library)).loose ≡ [] → (split_groups (records_of new)).loose ≡ []
      → deemed_refusal library user ≡ none → deemed_refusal library new ≡ none
  unfolding deemed_refusal deemed_tests refused
  deemed_stays f loose new_loose e =
      let nlib : ℕ = class_count library in
      let g : ℕ → Group = group library user in
      let g' : ℕ → Group = group library new in
      let was : (c : ℕ) → All (Passed nlib g c) (g c) = by_class (Passed nlib g) library user
      (passing (deemed_tests g nlib) (λ l. Passed nlib g l.class l.bytes)
      (λ l t. not_and_r (is_class l.bytes && ltb l.class nlib) (refused l.class (overlay g l.class)) t.0) (located library user) e) in
      unrefused (deemed_tests g' nlib) (λ l. Passed nlib g' l.class l.bytes)
      (λ l p. (not_and (is_class l.bytes && ltb l.class nlib) (refused l.class (overlay g' l.class)) p, tt)) (located library new)
      (of_class (Passed nlib g') library new loose new_loose
      (λ c. of_members (Passed nlib g' c) (g' c)
      (λ r m t.
      let h : c < nlib = ltb→lt c nlib (and_r (is_class r) (ltb c nlib) t) in
      subst (λ (k : ℕ). T (not (refused c k))) (overlay_same g g' (λ d. d < nlib) (below_above f nlib) library_same c h)
      (at_member (Passed nlib g c) (g c) (was c) (subst (λ (x : Group). Memᴰ r x) (sym (library_same c h)) m) t))))
