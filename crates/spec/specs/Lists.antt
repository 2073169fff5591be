-- Lists: tests, searches, and sets that grow by steps.
-- Assumes nothing.
use Rattle.std.specs.Prelude.{Bool, true, false, ◌&&◌, ◌||◌, List, [], ◌∷◌, ◌++◌, ℕ, zero, suc, eqb, length}
use Rattle.std.proofs.Math.Option.{Option, none, some}

module _ {A : Type 0} where
  unfoldable pub any : (A → Bool) → List A → Bool
  any p [] = false
  any p (x ∷ xs) = p x || any p xs

  unfoldable pub all : (A → Bool) → List A → Bool
  all p [] = true
  all p (x ∷ xs) = p x && all p xs

  unfoldable pub keep : (A → Bool) → List A → List A
  keep p [] = []
  keep p (x ∷ xs) = elim (p x) [ true ↦ x ∷ keep p xs | false ↦ keep p xs ]

  unfoldable pub concat : List (List A) → List A
  concat [] = []
  concat (l ∷ ls) = l ++ concat ls

  unfoldable pub count : (A → Bool) → List A → ℕ
  count p xs = length (keep p xs)

  -- the elements with their places, the first at place i
  unfoldable pub numbered : ℕ → List A → List (ℕ × A)
  numbered i [] = []
  numbered i (x ∷ xs) = (i, x) ∷ numbered (suc i) xs

  -- the list if the test passes, else nothing
  unfoldable pub only_if : Bool → List A → List A
  only_if b xs = elim b [ true ↦ xs | false ↦ [] ]

  -- the first answer along a list of answers
  unfoldable pub first_of : List (Option A) → Option A
  first_of [] = none
  first_of (o ∷ os) = elim o [ none ↦ first_of os | some a ↦ some a ]

unfoldable pub gather : {A B : Type 0} → (A → List B) → List A → List B
gather f [] = []
gather f (x ∷ xs) = f x ++ gather f xs

unfoldable pub elem : ℕ → List ℕ → Bool
elem n xs = any (eqb n) xs

unfoldable pub same_list : List ℕ → List ℕ → Bool
same_list [] [] = true
same_list [] (y ∷ ys) = false
same_list (x ∷ xs) [] = false
same_list (x ∷ xs) (y ∷ ys) = eqb x y && same_list xs ys

-- the n numbers from i on
unfoldable pub span : ℕ → ℕ → List ℕ
span i zero = []
span i (suc n) = i ∷ span (suc i) n

-- the numbers below n that stand in a list: ascending, without repeats
unfoldable pub ascending : ℕ → List ℕ → List ℕ
ascending n xs = keep (λ k. elem k xs) (span 0 n)

-- the elements of a list that stand neither in `seen` nor earlier in the list
unfoldable pub fresh : List ℕ → List ℕ → List ℕ
fresh seen [] = []
fresh seen (x ∷ xs) = elim (elem x seen) [ true ↦ fresh seen xs | false ↦ x ∷ fresh (x ∷ seen) xs ]

-- a set grown by steps until a round adds nothing; at most n rounds
unfoldable pub rounds : (ℕ → List ℕ) → ℕ → List ℕ → List ℕ
rounds step zero seen = seen
rounds step (suc n) seen = elim (fresh seen (gather step seen)) [ [] ↦ seen | x ∷ xs ↦ rounds step n (seen ++ (x ∷ xs)) ]

-- what chains of no or more steps from c reach; there are at most 256 classes, so 256 rounds are enough
unfoldable pub reach : (ℕ → List ℕ) → ℕ → List ℕ
reach step c = rounds step 256 (c ∷ [])
