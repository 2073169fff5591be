-- The entries that bytes hold: how many, one of them, one that is written, and bytes that are the same everywhere.
-- Assumes nothing.
use mathlib.Core.Path.{◌≡◌, refl, ap}
use mathlib.Core.List.{List, [], ◌∷◌}
use Prim.Native.Nat.{ℕ, zero, suc, ◌+◌, ◌*◌, ◌/◌, ◌<◌}
use native.Mathlib.Nat.{not-suc-le-zero}
use native.Mathlib.Omega.{arith}
use lib.ListN.{length, get_or, set, replicate}
use Rattle.lanes.specs.Lanes.{words}

double : (i : ℕ) → 2 * suc i ≡ suc (suc (2 * i))
double i = omega arith

double_next : (i : ℕ) → suc (suc (2 * i)) + 1 ≡ suc (suc (2 * i + 1))
double_next i = omega arith

pub words_long : (s : List ℕ) → length (words s) ≡ length s / 2
unfolding words
words_long [] = refl
words_long (x ∷ []) = refl
words_long (x ∷ y ∷ s) = let h = words_long s in omega arith

pub word_at : (s : List ℕ) (i : ℕ) → 2 * i + 1 < length s → get_or (words s) i 65535 ≡ get_or s (2 * i) 0 + 256 * get_or s (2 * i + 1) 0
unfolding words
word_at [] i h = absurd (not-suc-le-zero h)
word_at (x ∷ []) i h = absurd (omega arith)
word_at (x ∷ y ∷ s) zero h = refl
word_at (x ∷ y ∷ s) (suc i) h = rw (double i, double_next i) (word_at s i (omega arith))

pub words_set : (s : List ℕ) (i a b : ℕ) → 2 * i + 1 < length s → words (set (set s (2 * i) a) (2 * i + 1) b) ≡ set (words s) i (a + 256 * b)
unfolding words
words_set [] i a b h = absurd (not-suc-le-zero h)
words_set (x ∷ []) i a b h = absurd (omega arith)
words_set (x ∷ y ∷ s) zero a b h = refl
words_set (x ∷ y ∷ s) (suc i) a b h = rw (double i, double_next i) (ap (λ (l : List ℕ). (x + 256 * y) ∷ l) (words_set s i a b (omega arith)))

pub words_all : (x n : ℕ) → words (replicate (2 * n) x) ≡ replicate n (x + 256 * x)
unfolding words
words_all x zero = refl
words_all x (suc n) = rw (double n) (ap (λ (l : List ℕ). (x + 256 * x) ∷ l) (words_all x n))
