-- A record at its place, a CLASS record or another: what the tests see of it, the places of the records after it, and the number that refuses it.
-- Assumes nothing.
use mathlib.Core.Path.{◌≡◌, refl}
use mathlib.Core.Bool.{Bool, true, false}
use mathlib.Core.List.{List, [], ◌∷◌}
use mathlib.Core.Option.{Option, none, some}
use Prim.Native.Nat.{ℕ, suc, ◌+◌, ◌-◌}
use native.Mathlib.Omega.{arith}
use lib.Dec.{ltb}
use lib.ListN.{length}
use Rattle.spec.specs.Lists.{first_of}
use Rattle.spec.specs.Record.{kind, is_class}
use Rattle.spec.specs.Sheet.{Located, locate}
use Rattle.spec.specs.Refusals.{Refusal, refuse_if, refuse_record}
use Rattle.pass.specs.Pass.{place, classes_after, records_after, first_met}

module _ (sheet at n k b : ℕ) (r : List ℕ) where
  abbrev pub class_place : Located
  class_place = record { sheet = sheet; byte = at; class = n; record_number = 0; before = 0; grouped = true; bytes = r }

  abbrev pub other_place : Located
  other_place = record { sheet = sheet; byte = at; class = n - 1; record_number = k; before = b; grouped = ltb 0 k; bytes = r }

  pub place_class : is_class r ≡ true → place sheet at n k b r ≡ class_place
  unfolding place
  place_class e = rw (e, place)

  pub place_other : is_class r ≡ false → place sheet at n k b r ≡ other_place
  unfolding place
  place_other e = rw (e, place)

  module _ (rs : List (List ℕ)) where
    pub locate_class : is_class r ≡ true → locate sheet at n k b (r ∷ rs) ≡ class_place ∷ locate sheet (at + length r) (suc n) 1 (kind r) rs
    unfolding locate
    locate_class e = rw (e, locate)

    pub locate_other : is_class r ≡ false → locate sheet at n k b (r ∷ rs) ≡ other_place ∷ locate sheet (at + length r) n (suc k) (kind r) rs
    unfolding locate
    locate_other e = rw (e, locate)

pub carried : (b : Bool) (n m : ℕ) → n + classes_after b m ≡ classes_after b n + m
carried true n m = omega arith
carried false n m = refl

pub locate_cons : (sheet at n k b : ℕ) (r : List ℕ) (rs : List (List ℕ))
    → locate sheet at n k b (r ∷ rs) ≡ place sheet at n k b r ∷ locate sheet (at + length r) (classes_after (is_class r) n) (records_after (is_class r) k) (kind r) rs
locate_cons sheet at n k b r rs = go (is_class r) refl
  where
    go : (c : Bool) → is_class r ≡ c
        → locate sheet at n k b (r ∷ rs) ≡ place sheet at n k b r ∷ locate sheet (at + length r) (classes_after c n) (records_after c k) (kind r) rs
    go true e = rw (place_class sheet at n k b r e) (locate_class sheet at n k b r rs e)
    go false e = rw (place_other sheet at n k b r e) (locate_other sheet at n k b r rs e)

-- ---- what refuses a record

-- what refuses a located record by some tests of it
unfoldable pub answer : (Located → List (ℕ × Bool)) → Located → Option Refusal
answer tests l = refuse_record l (tests l)

-- it blames the record with the number of the first test that is met
abbrev pub blamed : Located → Option ℕ → Option Refusal
blamed l none = none
blamed l (some n) = some (record { number = n; sheet = l.sheet; byte = l.byte })

pub met_refuses : (l : Located) (ts : List (ℕ × Bool)) → refuse_record l ts ≡ blamed l (first_met ts)
unfolding refuse_record first_met refuse_if first_of
met_refuses l [] = refl
met_refuses l ((n, true) ∷ ts) = refl
met_refuses l ((n, false) ∷ ts) = met_refuses l ts
