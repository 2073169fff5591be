-- What stands in a part of a list of bytes, read where the part stands in the list.
-- Assumes nothing.
use mathlib.Core.Path.{◌≡◌, ap, ◌∙◌}
use mathlib.Core.List.{List, [], ◌∷◌}
use Prim.Native.Nat.{ℕ, zero, suc, ◌+◌, ◌-◌, ◌≤◌, ◌<◌}
use native.Mathlib.Nat.{add-zero, zero-sub, sub-zero, suc-sub-suc}
use native.Mathlib.Omega.{arith}
use lib.ListN.{length, take, drop, length-drop}
use lib.Seq.{length-take-le, get_or-take, get_or-drop, drop-drop, take-nil}
use Rattle.spec.specs.Record.{u16, kind}

pub u16_take : (n : ℕ) (s : List ℕ) (i : ℕ) → i + 1 < n → u16 (take n s) i ≡ u16 s i
unfolding u16
u16_take n s i h = let k : i < n = omega arith in rw (get_or-take n s i 0 k, get_or-take n s (i + 1) 0 h)

u16_drop : (s : List ℕ) (at i : ℕ) → u16 (drop at s) i ≡ u16 s (at + i)
unfolding u16
u16_drop s at i =
    let e : at + (i + 1) ≡ at + i + 1 = omega arith in
    rw (get_or-drop at s i 0, get_or-drop at s (i + 1) 0, e)

pub u16_here : (s : List ℕ) (at : ℕ) → u16 (drop at s) 0 ≡ u16 s at
u16_here s at = u16_drop s at 0 ∙ ap (u16 s) (add-zero at)

drop_take : (j n : ℕ) (l : List ℕ) → drop j (take n l) ≡ take (n - j) (drop j l)
drop_take zero n l = rw (sub-zero n)
drop_take (suc j) zero l = rw (zero-sub (suc j))
drop_take (suc j) (suc n) [] = rw (take-nil (suc n - suc j))
drop_take (suc j) (suc n) (x ∷ l) = rw (suc-sub-suc n j) (drop_take j n l)

-- the part of n bytes from `at` on
module _ (s : List ℕ) (at n : ℕ) where
  pub part_length : at + n ≤ length s → length (take n (drop at s)) ≡ n
  part_length h = length-take-le n (drop at s) (omega (arith, length-drop at s))

  pub part_word : (j : ℕ) → j + 1 < n → u16 (take n (drop at s)) j ≡ u16 s (at + j)
  part_word j h = u16_take n (drop at s) j h ∙ u16_drop s at j

  pub part_kind : 4 ≤ n → kind (take n (drop at s)) ≡ u16 s (at + 2)
  unfolding kind
  part_kind h = part_word 2 (omega arith)

  pub part_rest : (j : ℕ) → drop j (take n (drop at s)) ≡ take (n - j) (drop (at + j) s)
  part_rest j = rw (drop_take j n (drop at s), drop-drop j at s)
