-- Tests that pass and tests that fail.
-- Assumes nothing.
use mathlib.Core.Path.{◌≡◌, refl, sym, subst}
use mathlib.Core.Logic.{◌⊎◌, inl, inr}
use mathlib.Core.Bool.{Bool, true, false, not, ◌&&◌, ◌||◌}
use Prim.Native.Nat.{ℕ, zero, suc, ◌≤◌, ◌<◌}
use native.Mathlib.Omega.{arith}
use lib.Dec.{T, eqb, leb, ltb}
use borrow.Author.Tests.{le-ltb, lt-leb, eq-eqb}
use Rattle.spec.specs.Markers.{implies}

pub decide : (b : Bool) → T b ⊎ T (not b)
decide true = inl tt
decide false = inr tt

pub t_true : (b : Bool) → T b → b ≡ true
t_true true h = refl
t_true false h = absurd h

pub t_false : (b : Bool) → T (not b) → b ≡ false
t_false true h = absurd h
t_false false h = refl

pub true_t : {b : Bool} → b ≡ true → T b
true_t e = subst T (sym e) tt

pub false_t : {b : Bool} → b ≡ false → T (not b)
false_t e = subst (λ (x : Bool). T (not x)) (sym e) tt

-- two tests that imply each other are the same
pub t_same : (a b : Bool) → (T a → T b) → (T b → T a) → a ≡ b
t_same true true f g = refl
t_same true false f g = absurd (f tt)
t_same false true f g = absurd (g tt)
t_same false false f g = refl

-- ---- and

pub t_and : (a b : Bool) → T a → T b → T (a && b)
t_and true b h k = k
t_and false b h k = h

pub and_l : (a b : Bool) → T (a && b) → T a
and_l true b t = tt
and_l false b t = t

pub and_r : (a b : Bool) → T (a && b) → T b
and_r true b t = t
and_r false b t = absurd t

pub and_cong : (b : Bool) {x y : Bool} → (T b → x ≡ y) → (b && x) ≡ (b && y)
and_cong true h = h tt
and_cong false h = refl

-- ---- or

pub or_cases : (a b : Bool) → T (a || b) → T a ⊎ T b
or_cases true b t = inl tt
or_cases false b t = inr t

pub or_l : (a b : Bool) → T a → T (a || b)
or_l true b t = tt
or_l false b t = absurd t

pub or_r : (a b : Bool) → T b → T (a || b)
or_r true b t = tt
or_r false b t = t

-- ---- not

pub un_not : (b : Bool) → T (not (not b)) → T b
un_not true t = tt
un_not false t = t

pub not_not : (b : Bool) → T b → T (not (not b))
not_not true t = tt
not_not false t = t

pub not_mono : (a b : Bool) → (T a → T b) → T (not b) → T (not a)
not_mono true true f t = absurd t
not_mono true false f t = f tt
not_mono false b f t = tt

pub not_or : (a b : Bool) → T (not a) → T (not b) → T (not (a || b))
not_or true b h k = h
not_or false b h k = k

pub not_or_l : (a b : Bool) → T (not (a || b)) → T (not a)
not_or_l true b t = t
not_or_l false b t = tt

pub not_or_r : (a b : Bool) → T (not (a || b)) → T (not b)
not_or_r true b t = absurd t
not_or_r false b t = t

-- a test that fails unless b passes
pub imply : (a b : Bool) → T (not (a && not b)) → T a → T b
imply true true t u = tt
imply true false t u = t
imply false b t u = absurd u

pub not_and_r : (a b : Bool) → T (not (a && b)) → T a → T (not b)
not_and_r true b t u = t
not_and_r false b t u = absurd u

-- their converses
pub not_and : (a b : Bool) → (T a → T (not b)) → T (not (a && b))
not_and true b h = h tt
not_and false b h = tt

pub implied : (a b : Bool) → (T a → T b) → T (not (a && not b))
implied a b h = not_and a (not b) (λ t. not_not b (h t))

pub T-implies : (a b : Bool) → T (implies a b) → T a → T b
unfolding implies
T-implies true b t u = t
T-implies false b t u = absurd u

-- ---- numbers

pub nltb : (m n : ℕ) → n ≤ m → T (not (ltb m n))
nltb m n h = false_t (le-ltb m n h)

pub nleb : (m n : ℕ) → n < m → T (not (leb m n))
nleb m n h = false_t (lt-leb m n h)

pub eq→eqb : {m n : ℕ} → m ≡ n → T (eqb m n)
eq→eqb {m} {n} e = true_t (eq-eqb m n e)

pub positive : (n : ℕ) → T (not (eqb n 0)) → 1 ≤ n
positive zero t = absurd t
positive (suc n) t = omega arith
