-- The first answer along a list: when there is none, and what holds of it where there is one. So of refusals.
-- Assumes nothing.
use mathlib.Core.Path.{◌≡◌, refl, ◌∙◌}
use mathlib.Core.Bool.{Bool, true, false, not}
use mathlib.Core.List.{List, [], ◌∷◌, ◌++◌, map}
use mathlib.Core.Option.{Option, none, some}
use Prim.Native.Nat.{ℕ}
use native.Mathlib.Omega.{arith}
use lib.Dec.{T}
use Rattle.spec.specs.Lists.{first_of}
use Rattle.spec.specs.Sheet.{Located}
use Rattle.spec.specs.Refusals.{refuse_if, refuse_plain, refuse_record}
use Rattle.laws.proofs.All.{All, weaken, all_map}

module _ {A : Type 0} where
  pub some≢none : (a : A) → Path (Option A) (some a) none → ⊥
  some≢none a e = let z : ◌≡◌ {A = ℕ} 0 1 = cc in omega arith

  pub first_none : (os : List (Option A)) → first_of os ≡ none → All (λ o. o ≡ none) os
  unfolding first_of
  first_none [] e = tt
  first_none (none ∷ os) e = (refl, first_none os e)
  first_none (some a ∷ os) e = absurd (some≢none a e)

  pub none_first : (os : List (Option A)) → All (λ o. o ≡ none) os → first_of os ≡ none
  unfolding first_of
  none_first [] h = refl
  none_first (none ∷ os) h = none_first os h.1
  none_first (some a ∷ os) h = absurd (some≢none a h.0)

  -- answers that are not there do not count
  pub skip_none : (o : Option A) (os : List (Option A)) → o ≡ none → first_of (o ∷ os) ≡ first_of os
  unfolding first_of
  skip_none none os e = refl
  skip_none (some a) os e = absurd (some≢none a e)

  pub first_some : {o : Option A} {a : A} (os : List (Option A)) → o ≡ some a → first_of (o ∷ os) ≡ some a
  unfolding first_of
  first_some os e = rw e

  pub first_only : (o : Option A) → first_of (o ∷ []) ≡ o
  unfolding first_of
  first_only none = refl
  first_only (some a) = refl

  pub first_past : (o x : Option A) → o ≡ none → first_of (o ∷ x ∷ []) ≡ x
  first_past o x e = skip_none o (x ∷ []) e ∙ first_only x

  -- the first answer of a front part counts as one
  pub first_append : (xs ys : List (Option A)) → first_of (xs ++ ys) ≡ first_of (first_of xs ∷ ys)
  unfolding first_of
  first_append [] ys = refl
  first_append (none ∷ xs) ys = first_append xs ys
  first_append (some x ∷ xs) ys = refl

  pub keep_head : (o : Option A) (os os' : List (Option A)) → first_of os ≡ first_of os' → first_of (o ∷ os) ≡ first_of (o ∷ os')
  unfolding first_of
  keep_head none os os' e = e
  keep_head (some a) os os' e = refl

  module _ (P : A → Type 0) where
    -- P holds of the answer, if there is one
    abbrev pub Gives : Option A → Type 0
    Gives none = Unit {0}
    Gives (some a) = P a

    pub gives_first : (os : List (Option A)) → All Gives os → Gives (first_of os)
    unfolding first_of
    gives_first [] h = tt
    gives_first (none ∷ os) h = gives_first os h.1
    gives_first (some a ∷ os) h = h.0

pub gives_map : {A B : Type 0} (P : B → Type 0) (f : A → Option B) (xs : List A) → All (λ x. Gives P (f x)) xs → All (Gives P) (map f xs)
gives_map P f [] h = tt
gives_map P f (x ∷ xs) h = (h.0, gives_map P f xs h.1)

pub of_map : {A B : Type 0} (P : B → Type 0) (f : A → B) (xs : List A) → All P (map f xs) → All (λ x. P (f x)) xs
of_map P f [] h = tt
of_map P f (x ∷ xs) h = (h.0, of_map P f xs h.1)

-- ---- refusals

pub if_none : (b : Bool) (n s at : ℕ) → refuse_if b n s at ≡ none → T (not b)
unfolding refuse_if
if_none true n s at e = absurd (some≢none _ e)
if_none false n s at e = tt

pub none_if : (b : Bool) (n s at : ℕ) → T (not b) → refuse_if b n s at ≡ none
unfolding refuse_if
none_if true n s at t = absurd t
none_if false n s at t = refl

pub plain_none : (b : Bool) (n : ℕ) → refuse_plain b n ≡ none → T (not b)
unfolding refuse_plain
plain_none b n e = if_none b n 0 0 e

pub none_plain : (b : Bool) (n : ℕ) → T (not b) → refuse_plain b n ≡ none
unfolding refuse_plain
none_plain b n t = none_if b n 0 0 t

-- a record that is not refused meets none of the tests
abbrev pub Fails : ℕ × Bool → Type 0
Fails t = T (not t.1)

fails_all : (l : Located) (ts : List (ℕ × Bool)) → All (λ t. refuse_if t.1 t.0 l.sheet l.byte ≡ none) ts → All Fails ts
fails_all l [] h = tt
fails_all l (t ∷ ts) h = (if_none t.1 t.0 l.sheet l.byte h.0, fails_all l ts h.1)

pub record_none : (l : Located) (ts : List (ℕ × Bool)) → refuse_record l ts ≡ none → All Fails ts
unfolding refuse_record
record_none l ts e =
    fails_all l ts (of_map (λ o. o ≡ none) (λ t. refuse_if t.1 t.0 l.sheet l.byte) ts
    (first_none (map (λ t. refuse_if t.1 t.0 l.sheet l.byte) ts) e))

-- where no record of a list is refused, each meets none of its tests
pub passing : (tests : Located → List (ℕ × Bool)) (P : Located → Type 0) → ((l : Located) → All Fails (tests l) → P l)
    → (ls : List Located) → first_of (map (λ l. refuse_record l (tests l)) ls) ≡ none → All P ls
passing tests P f ls e =
    weaken (λ l. refuse_record l (tests l) ≡ none) P (λ l k. f l (record_none l (tests l) k)) ls (of_map (λ o. o ≡ none) (λ l. refuse_record l (tests l)) ls (first_none _ e))

-- and where each meets none of its tests, none is refused
none_record : (l : Located) (ts : List (ℕ × Bool)) → All Fails ts → refuse_record l ts ≡ none
unfolding refuse_record
none_record l ts h =
    none_first _ (all_map Fails (λ o. o ≡ none) (λ t. refuse_if t.1 t.0 l.sheet l.byte) (λ t f. none_if t.1 t.0 l.sheet l.byte f) ts h)

pub unrefused : (tests : Located → List (ℕ × Bool)) (P : Located → Type 0) → ((l : Located) → P l → All Fails (tests l))
    → (ls : List Located) → All P ls → first_of (map (λ l. refuse_record l (tests l)) ls) ≡ none
unrefused tests P f ls h = none_first _ (all_map P (λ o. o ≡ none) (λ l. refuse_record l (tests l)) (λ l k. none_record l (tests l) (f l k)) ls h)
