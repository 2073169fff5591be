-- Text put into a buffer as far as it fits, and numbers as text.
-- Assumes nothing.
use Rattle.std.specs.Prelude.{true, false, List, [], ◌∷◌, ◌++◌, ℕ, zero, suc, ◌+◌, ◌/◌, ◌%◌, ltb, length, take, drop, set}

-- the last digits of n, at most k of them, the first one not 0 unless n is
unfoldable pub digits : ℕ → ℕ → List ℕ
digits zero n = []
digits (suc k) n = elim (ltb n 10) [ true ↦ (48 + n) ∷ [] | false ↦ digits k (n / 10) ++ ((48 + n % 10) ∷ []) ]

-- a number in ASCII; a machine's numbers have at most 20 digits
unfoldable pub decimal : ℕ → List ℕ
decimal n = digits 20 n

-- some bytes written from a place on; what finds no room is left out
unfoldable pub put_all : List ℕ → ℕ → List ℕ → List ℕ
put_all out at [] = out
put_all out at (b ∷ bs) = put_all (set out at b) (at + 1) bs

-- what a buffer holds after a text was written from its start
unfoldable pub overlaid : List ℕ → List ℕ → List ℕ
overlaid text out = take (length out) text ++ drop (length text) out
