-- The deemed markers, the size of the sheets, and what each part says of all refusals.
-- Assumes nothing.
use mathlib.Core.Path.{◌≡◌, refl, sym, ap, ◌∙◌, subst}
use mathlib.Core.Bool.{Bool, true, false, ◌||◌}
use mathlib.Core.List.{List, [], ◌∷◌, ◌++◌, map, map-append}
use mathlib.Core.Option.{Option, none, some}
use Prim.Native.Nat.{ℕ, ◌≤◌, ◌<◌, min}
use native.Mathlib.Omega.{arith}
use lib.Dec.{ltb}
use lib.ListN.{length, take, replicate}
use borrow.Author.Tests.{lt-ltb, le-ltb, ltb-true, ltb-false}
use Rattle.std.specs.Prelude.{None}
use Rattle.spec.specs.Lists.{first_of}
use Rattle.spec.specs.Sheet.{class_count, group_start, located_in, located}
use Rattle.spec.specs.Refusals.{Refusal, refuse_if, refuse_record, deemed_tests, record_refusal, torn_refusal, no_class_refusal}
use Rattle.spec.specs.Refusals.{form_refusal, deemed_refusal, sheet_refusal, size_refusal, present_refusal}
use Rattle.laws.proofs.Bools.{nltb}
use Rattle.theory.proofs.Answers.{some≢none, first_some, first_only, first_past, first_append, keep_head, none_if, none_first, skip_none}
use Rattle.groups.specs.Groups.{start_of, Indexed}
use Rattle.overlay.specs.Memo.{memo_of}
use Rattle.overlay.proofs.Memos.{memo_none}
use Rattle.form.specs.declared.accepted.Found.{Found}
use Rattle.form.specs.Accepting.{FoundIn, Asked}
use Rattle.groups.proofs.Held.{in_library}
use Rattle.sheets.specs.Sheets.{Pair, Passed, groups, library_count}
use Rattle.sheets.proofs.Indexes.{indexed}
use Rattle.pass.proofs.Places.{answer}
use Rattle.form.specs.Form.{first_deemed, passes_refusal}
use Rattle.form.proofs.DeemedRecords.{library_deemed, user_deemed}

-- ---- 1

module _ (library user : List ℕ) (used : ℕ) where
  pub library_long : 32768 < length library → size_refusal library user used ≡ some (record { number = 1; sheet = 0; byte = 0 })
  unfolding size_refusal refuse_if first_of
  library_long h = rw (lt-ltb 32768 (length library) h)

  module _ (l : length library ≤ 32768) where
    user_size : size_refusal library user used ≡ refuse_if (ltb 32768 used || ltb (length user) used) 1 1 0
    unfolding size_refusal
    user_size = first_past _ _ (none_if (ltb 32768 (length library)) 1 0 0 (nltb 32768 (length library) l))

    pub used_long : min (length user) 32768 < used → size_refusal library user used ≡ some (record { number = 1; sheet = 1; byte = 0 })
    unfolding refuse_if first_of
    used_long h = user_size ∙ ap (λ (b : Bool). refuse_if b 1 1 0) (either (ltb 32768 used) refl)
      where
        either : (b : Bool) → ltb 32768 used ≡ b → (ltb 32768 used || ltb (length user) used) ≡ true
        either true e = rw e
        either false e = let l : used ≤ 32768 = ltb-false 32768 used e in rw (e, lt-ltb (length user) used (omega arith))

    pub sizes_fine : used ≤ min (length user) 32768 → size_refusal library user used ≡ none
    unfolding refuse_if first_of
    sizes_fine h = user_size ∙ rw (le-ltb 32768 used (omega arith), le-ltb (length user) used (omega arith))

-- what is known of sheets that 1 does not refuse
pub record Sizes (library user : List ℕ) (used : ℕ) : Type 0 where
  pub library_size : length library ≤ 32768
  pub used_size : used ≤ 32768
  pub in_buffer : used ≤ length user

pub sizes_told : (library user : List ℕ) (used : ℕ) → size_refusal library user used ≡ none → Sizes library user used
sizes_told library user used e =
    let l : length library ≤ 32768 =
    ltb-false 32768 (length library) (false_if (ltb 32768 (length library)) (λ q. some≢none _ (sym (library_long library user used (ltb-true 32768 (length library) q)) ∙ e))) in
    let u : used ≤ min (length user) 32768 =
    ltb-false (min (length user) 32768) used (false_if (ltb (min (length user) 32768) used) (λ q. some≢none _ (sym (used_long library user used l (ltb-true (min (length user) 32768) used q)) ∙ e))) in
    record { library_size = l; used_size = omega arith; in_buffer = omega arith }
  where
    false_if : (b : Bool) → (b ≡ true → ⊥) → b ≡ false
    false_if true n = absurd (n refl)
    false_if false n = refl

-- ---- the whole

module _ (library user : List ℕ) where
  pub sheet_parts : sheet_refusal library user ≡ first_of (passes_refusal library user ∷ form_refusal library user ∷ deemed_refusal library user ∷ [])
  unfolding sheet_refusal passes_refusal
  sheet_parts =
      first_append
      (record_refusal 0 0 library ∷ torn_refusal 0 library ∷ no_class_refusal library ∷ record_refusal 1 (class_count library) user ∷ torn_refusal 1 user ∷ [])
      (form_refusal library user ∷ deemed_refusal library user ∷ [])

-- p stands for the two sheets, which passed the first pass
module _ {library user : List ℕ} {p : Pair} (e : p ≡ record { library = library; user = user }) (f : passes_refusal library user ≡ none) where
  passed : passes_refusal p.library p.user ≡ none
  passed = rw e f

  pub form_stops : {r : Refusal} → form_refusal p.library p.user ≡ some r → sheet_refusal library user ≡ some r
  form_stops {r} o = subst (λ (q : Pair). sheet_refusal q.library q.user ≡ some r) e (sheet_parts p.library p.user ∙ skip_none _ _ passed ∙ first_some _ o)

  module _ (g : form_refusal p.library p.user ≡ none) where
    pub deemed_stops : {r : Refusal} → deemed_refusal p.library p.user ≡ some r → sheet_refusal library user ≡ some r
    deemed_stops {r} o =
        subst (λ (q : Pair). sheet_refusal q.library q.user ≡ some r) e (sheet_parts p.library p.user ∙ skip_none _ _ passed ∙ skip_none _ _ g ∙ first_some _ o)

    pub all_fine : deemed_refusal p.library p.user ≡ none → sheet_refusal library user ≡ none
    all_fine o = subst (λ (q : Pair). sheet_refusal q.library q.user ≡ none) e (sheet_parts p.library p.user ∙ none_first _ (passed, (g, (o, tt))))

-- what was found of p is found of the two sheets that it stands for
pub found_in : {p q : Pair} {found : Found} → p ≡ q → Indexed q.library q.user found.index.classes.library found.index.classes.all found.index.starts
    → form_refusal p.library p.user ≡ none → found.memo ≡ memo_of (groups p) (library_count p) → FoundIn q found
found_in {found = found} e x f k = record {
  indexed = x;
  formed = subst (λ (q : Pair). form_refusal q.library q.user ≡ none) e f;
  known = subst (λ (q : Pair). found.memo ≡ memo_of (groups q) (library_count q)) e k;
}

-- a fresh memo, and one that was asked of the classes below a number
pub unasked : {p : Pair} {found : Found} → found.memo ≡ replicate 256 None → Asked p found
unasked {p} e = record { asked = 0; memo_is = e ∙ sym (memo_none (groups p)) }

pub asked_of : {p q : Pair} {found : Found} (k : ℕ) → p ≡ q → found.memo ≡ memo_of (groups p) k → Asked q found
asked_of k e m = record { asked = k; memo_is = rw (← e) m }

-- ---- 11

first_split : {A B : Type 0} (f : A → Option B) (xs ys : List A) → first_of (map f (xs ++ ys)) ≡ first_of (first_of (map f xs) ∷ first_of (map f ys) ∷ [])
first_split f xs ys = ap first_of (map-append f xs ys) ∙ first_append (map f xs) (map f ys) ∙ keep_head _ _ _ (sym (first_only _))

module _ {p : Pair} (x : Passed p) where
  deemed_parts : deemed_refusal p.library p.user
      ≡ first_of
      (first_of (map (answer (deemed_tests (groups p) (library_count p))) (located_in 0 0 p.library))
      ∷ first_of (map (answer (deemed_tests (groups p) (library_count p))) (located_in 1 (library_count p) p.user))
      ∷ [])
  unfolding deemed_refusal answer located
  deemed_parts = first_split (λ l. refuse_record l (deemed_tests (groups p) (library_count p) l)) (located_in 0 0 p.library) (located_in 1 (library_count p) p.user)

  module _ {c : ℕ} (e : c ≡ first_deemed (groups p) (library_count p)) where
    deemed_at : deemed_refusal p.library p.user ≡ first_of (refuse_if (ltb c (library_count p)) 11 0 (group_start p.library c) ∷ none ∷ [])
    deemed_at =
        deemed_parts
        ∙ rw (library_deemed (groups p) (library_count p) p.library x.library_clear.loose refl, user_deemed (groups p) (library_count p) p.user, ← e)

    pub deemed_found : c < library_count p → {b : ℕ} → b ≡ start_of p.library p.user c → deemed_refusal p.library p.user ≡ some (record { number = 11; sheet = 0; byte = b })
    unfolding refuse_if first_of
    deemed_found h eb = deemed_at ∙ rw (lt-ltb c (library_count p) h, eb, (in_library (indexed x) h).start)

    pub deemed_none : library_count p ≤ c → deemed_refusal p.library p.user ≡ none
    unfolding refuse_if first_of
    deemed_none h = deemed_at ∙ rw (le-ltb c (library_count p) h)

-- ---- 1 to 11 and 16

module _ (library user : List ℕ) (used : ℕ) where
  pub present_stops : {r : Refusal} → size_refusal library user used ≡ some r → present_refusal library user used ≡ some r
  unfolding present_refusal
  present_stops e = first_some _ e

  pub present_is : size_refusal library user used ≡ none → present_refusal library user used ≡ sheet_refusal library (take used user)
  unfolding present_refusal
  present_is e = first_past _ _ e
