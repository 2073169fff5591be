-- The first pass of the library sheet and then of the user sheet: what each end of them says of both sheets, and that the row of starts is right where none refuses.
-- Assumes nothing.
use mathlib.Core.Path.{◌≡◌, sym, ap, ◌∙◌}
use mathlib.Core.List.{List, [], ◌∷◌}
use mathlib.Core.Logic.{◌⊎◌, inl, inr}
use mathlib.Core.Bool.{not}
use mathlib.Core.Option.{none, some}
use Prim.Native.Nat.{ℕ, ◌+◌, ◌-◌, ◌≤◌, ◌<◌}
use native.Mathlib.Nat.{zero-add}
use native.Mathlib.Omega.{arith}
use lib.Dec.{T, ltb, ltb→lt, nltb→le}
use lib.ListN.{length, get_or}
use borrow.Author.Tests.{eq-eqb, ne_eqb, lt-ltb, le-ltb}
use Rattle.spec.specs.Lists.{first_of}
use Rattle.spec.specs.Sheet.{class_count, total, group_start}
use Rattle.spec.specs.Refusals.{Refusal, refuse_if, record_refusal, torn_refusal, no_class_refusal}
use Rattle.laws.proofs.Bools.{decide}
use Rattle.theory.proofs.Answers.{none_first, skip_none, first_some, first_append, keep_head}
use Rattle.theory.proofs.Accept.{Clear}
use Rattle.groups.specs.Groups.{start_of, Indexed}
use Rattle.pass.specs.Pass.{pass_refusal, filled, Filled}
use Rattle.pass.proofs.Starts.{filled_below, filled_start}
use Rattle.form.specs.Form.{passes_refusal}
use Rattle.form.proofs.Parts.{pass_clear}

passes_parts : (library user : List ℕ)
    → passes_refusal library user ≡ first_of (pass_refusal 0 0 library ∷ no_class_refusal library ∷ pass_refusal 1 (class_count library) user ∷ [])
unfolding passes_refusal pass_refusal
passes_parts library user =
    first_append (record_refusal 0 0 library ∷ torn_refusal 0 library ∷ []) _
    ∙ keep_head _ _ _ (keep_head _ _ _ (first_append (record_refusal 1 (class_count library) user ∷ torn_refusal 1 user ∷ []) []))

module _ (library user : List ℕ) where
  pub library_stops : {r : Refusal} → pass_refusal 0 0 library ≡ some r → passes_refusal library user ≡ some r
  library_stops e = passes_parts library user ∙ first_some _ e

  module _ (f : pass_refusal 0 0 library ≡ none) where
    pub library_empty : class_count library ≡ 0 → passes_refusal library user ≡ some (record { number = 7; sheet = 0; byte = length library })
    unfolding no_class_refusal refuse_if
    library_empty z =
        let c : no_class_refusal library ≡ some (record { number = 7; sheet = 0; byte = length library }) = rw (eq-eqb (class_count library) 0 z) in
        passes_parts library user ∙ skip_none _ _ f ∙ first_some _ c

    pub library_few : class_count library ≤ 256
    library_few = let h = (pass_clear 0 0 library f).few (omega arith) in omega (arith, h)

    module _ (z : class_count library ≡ 0 → ⊥) where
      some_class : no_class_refusal library ≡ none
      unfolding no_class_refusal refuse_if
      some_class = rw (ne_eqb (class_count library) 0 z)

      then_user : passes_refusal library user ≡ first_of (pass_refusal 1 (class_count library) user ∷ [])
      then_user = passes_parts library user ∙ skip_none _ _ f ∙ skip_none _ _ some_class

      pub user_stops : {r : Refusal} → pass_refusal 1 (class_count library) user ≡ some r → passes_refusal library user ≡ some r
      user_stops e = then_user ∙ first_some _ e

      module _ (g : pass_refusal 1 (class_count library) user ≡ none) where
        pub passes_fine : passes_refusal library user ≡ none
        passes_fine = then_user ∙ none_first _ (g, tt)

        library_passed : Clear 0 0 library
        library_passed = pass_clear 0 0 library f

        user_passed : Clear 1 (class_count library) user
        user_passed = pass_clear 1 (class_count library) user g

        module _ {row₀ row row₂ : List ℕ} (l : length row₀ ≡ 256) (a : Filled (pass_refusal 0 0 library) 0 0 library row₀ row)
            (b : Filled (pass_refusal 1 (class_count library) user) (class_count library) 0 user row row₂) where
          row_is : row ≡ filled row₀ 0 0 library
          row_is = a.rows f

          last_is : row₂ ≡ filled row (class_count library) 0 user
          last_is = b.rows g

          -- the pass of the user sheet leaves the library's starts
          library_start : (c : ℕ) → c < class_count library → get_or row₂ c 0 ≡ group_start library c
          library_start c h =
              ap (λ (x : List ℕ). get_or x c 0) last_is ∙ filled_below row (class_count library) 0 user c h ∙ ap (λ (x : List ℕ). get_or x c 0) row_is
              ∙ ap (λ (i : ℕ). get_or (filled row₀ 0 0 library) i 0) (sym (zero-add c))
              ∙ filled_start row₀ 0 library library_passed.loose (omega (arith, library_passed.few (omega arith), l)) c h

          user_start : (c : ℕ) → class_count library ≤ c → c < class_count library + class_count user → get_or row₂ c 0 ≡ group_start user (c - class_count library)
          user_start c h k =
              let i : class_count library + (c - class_count library) ≡ c = omega arith in
              ap (λ (x : List ℕ). get_or x c 0) last_is ∙ ap (λ (i : ℕ). get_or (filled row (class_count library) 0 user) i 0) (sym i)
              ∙ filled_start row (class_count library) user user_passed.loose (omega (arith, user_passed.few library_few, a.long, l)) (c - class_count library) (omega arith)

          starts_right : (c : ℕ) → c < class_count library + class_count user → get_or row₂ c 0 ≡ start_of library user c
          unfolding start_of
          starts_right c h = go (decide (ltb c (class_count library)))
            where
              go : T (ltb c (class_count library)) ⊎ T (not (ltb c (class_count library))) → get_or row₂ c 0 ≡ start_of library user c
              go (inl t) = let g = ltb→lt c (class_count library) t in rw (lt-ltb c (class_count library) g, start_of) (library_start c g)
              go (inr t) =
                  let g = nltb→le c (class_count library) t in
                  rw (le-ltb c (class_count library) g, start_of) (user_start c g h)

          pub indexed : length library ≤ 32768 → length user ≤ 32768 → {k n : ℕ} → k ≡ class_count library → n ≡ k + class_count user → Indexed library user k n row₂
          unfolding total
          indexed hl hu {k} {n} ek en = record {
            library_clear = library_passed;
            user_clear = user_passed;
            library_size = hl;
            user_size = hu;
            nlib_is = ek;
            n_is = omega (arith, ek, en);
            some = omega (arith, ek, z);
            few = omega (arith, user_passed.few library_few, ek, en);
            long = b.long ∙ a.long ∙ l;
            starts = λ c h. starts_right c (omega (arith, ek, en));
          }
