-- What an index and a lookup promise at each of their ends: 1 to 11 and 16, 12, and of a lookup 13, then the row.
-- Assumes nothing.
use mathlib.Core.Path.{◌≡◌, sym, ap, ◌∙◌, subst}
use mathlib.Core.Bool.{not}
use mathlib.Core.List.{List, [], ◌∷◌, ◌++◌}
use mathlib.Core.Option as math
use mathlib.Core.Option.{none, some}
use Prim.Native.Nat.{ℕ, ◌≤◌}
use native.Mathlib.Omega.{arith}
use lib.ListN.{length, take, drop, length-take}
use Rattle.std.specs.Prelude.{Option, Some, None, unwrap_or}
use Rattle.std.specs.Option.{is_some}
use Rattle.spec.specs.Lists.{first_of}
use Rattle.spec.specs.Record.{none16}
use Rattle.spec.specs.Sheet.{total, group}
use Rattle.spec.specs.Index.{index_places, found_in, names_index, class_named}
use Rattle.spec.specs.Refusals.{Refusal, refuse_if, refuse_plain, present_refusal, few_places_refusal, no_name_refusal, index_refusal, lookup_refusal}
use Rattle.spec.specs.Promises.{refused, accepted, afterwards, indexed, Indexes, Finds}
use Rattle.theory.specs.Claims.{Held}
use Rattle.theory.proofs.Answers.{first_append, first_some, first_past}
use Rattle.theory.proofs.Promised.{answer_refused, answer_fine, kept_refused, new_fine}
use Rattle.theory.proofs.Indexing.{names_agree}

-- the index of two sheets holds their classes
pub holds_classes : (library user : List ℕ) → total library user ≤ 256 → {places : List ℕ} → places ≡ names_index library user → Held (total library user) places
holds_classes library user few e = subst (Held (total library user)) (sym e) (names_agree library user few).placed.held

pub front_long : (row : List ℕ) → index_places ≤ length row → length (take index_places row) ≡ index_places
front_long row h = omega (arith, length-take index_places row)

module _ (library user : List ℕ) (used : ℕ) (row : List ℕ) where
  abbrev now : List ℕ
  now = take used user

  module _ {r : Refusal} where
    pub index_refused : index_refusal library user used (length row) ≡ some r → Indexes library user used row (refused r) row
    index_refused e = record { answered = answer_refused _ e; row_is = kept_refused _ _ e }

    lookup_refused : (name : List ℕ) → lookup_refusal library user used name (length row) ≡ some r → Finds library user used name row (refused r) row
    lookup_refused name e = record { answered = answer_refused _ e; row_is = kept_refused _ _ e }

  -- the row with the index in front
  front_is : {o : math.Option Refusal} → o ≡ none → {places : List ℕ} → places ≡ names_index library now → places ++ drop index_places row ≡ afterwards o row (indexed library user used row)
  unfolding indexed
  front_is e ep = ap (λ (l : List ℕ). l ++ drop index_places row) ep ∙ new_fine _ _ e

  pub index_made : index_refusal library user used (length row) ≡ none → {n : ℕ} {places : List ℕ} → n ≡ total library now → places ≡ names_index library now
      → Indexes library user used row (accepted n) (places ++ drop index_places row)
  index_made e en ep = record { answered = ap accepted en ∙ answer_fine _ e; row_is = front_is e ep }

  module _ (name : List ℕ) where
    -- a lookup asks what an index asks, and then whether the name is there
    after_index : lookup_refusal library user used name (length row) ≡ first_of (index_refusal library user used (length row) ∷ no_name_refusal library now name ∷ [])
    unfolding lookup_refusal index_refusal
    after_index = first_append (present_refusal library user used ∷ few_places_refusal (length row) ∷ []) (no_name_refusal library now name ∷ [])

    pub lookup_index_refused : {r : Refusal} → index_refusal library user used (length row) ≡ some r → Finds library user used name row (refused r) row
    lookup_index_refused e = lookup_refused name (after_index ∙ first_some _ e)

    module _ (e : index_refusal library user used (length row) ≡ none) {o : Option ℕ} (walked : o ≡ class_named library now name) where
      asked : {x : Option ℕ} → o ≡ x → lookup_refusal library user used name (length row) ≡ refuse_plain (not (is_some x)) 13
      unfolding no_name_refusal
      asked q = after_index ∙ first_past _ _ e ∙ ap (λ (x : Option ℕ). refuse_plain (not (is_some x)) 13) (sym walked ∙ q)

      pub not_there : o ≡ None → Finds library user used name row (refused (record { number = 13; sheet = 0; byte = 0 })) row
      unfolding refuse_plain refuse_if
      not_there q = lookup_refused name (asked q)

      pub there : {c : ℕ} {places : List ℕ} → o ≡ Some c → places ≡ names_index library now → Finds library user used name row (accepted c) (places ++ drop index_places row)
      unfolding refuse_plain refuse_if
      there q ep = record { answered = ap accepted (ap (λ (x : Option ℕ). unwrap_or x none16) (sym q ∙ walked)) ∙ answer_fine _ (asked q); row_is = front_is (asked q) ep }

-- what is found through the index of the sheets is what the walk finds
pub walked : (library user : List ℕ) → total library user ≤ 256 → (name : List ℕ) {o : Option ℕ} {places : List ℕ} → o ≡ found_in (group library user) places name
    → places ≡ names_index library user → o ≡ class_named library user name
walked library user few name e ep = e ∙ ap (λ (row : List ℕ). found_in (group library user) row name) ep ∙ (names_agree library user few).found name
