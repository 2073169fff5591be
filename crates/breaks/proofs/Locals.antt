-- The LOCALs of a group by their record numbers, as the code picks them.
-- Assumes nothing.
use mathlib.Core.Path.{◌≡◌, ap, ◌∙◌}
use mathlib.Core.List.{List, []}
use Prim.Native.Nat.{ℕ, ◌<◌}
use lib.ListN.{length, get_or}
use Rattle.std.specs.Prelude.{Option, Some}
use Rattle.std.specs.List.{filter_map, enumerate_from, slice_get}
use Rattle.spec.specs.Lists.{numbered}
use Rattle.spec.specs.Record.{is_kind, LOCAL}
use Rattle.spec.specs.Sheet.{Group}
use Rattle.spec.specs.Classes.{locals}
use native.Mathlib.Omega.{arith}
use Rattle.laws.proofs.Lists.{picked, nth_picked, numbered_is}
use Rattle.laws.proofs.All.{All, all_keep, all_at, of_members}
use Rattle.laws.proofs.Members.{Placed, numbered_at, at_low}

-- such a number is one of a record
locals_low : (h : Group) → All (λ n. n.0 < length h) (locals h)
unfolding locals
locals_low h = all_keep (λ n. n.0 < length h) (λ n. is_kind LOCAL n.1) (numbered 0 h) (of_members (λ n. n.0 < length h) (numbered 0 h) (λ n m. low n (numbered_at 0 h n m)))
  where
    low : (n : ℕ × List ℕ) → Placed 0 h n → n.0 < length h
    low n p = let b = at_low p.at in omega (arith, p.is)

pub local_low : (h : Group) (i : ℕ) → i < length (locals h) → (get_or (locals h) i (0, [])).0 < length h
local_low h i l = all_at (λ n. n.0 < length h) (0, []) (locals h) (locals_low h) i l

-- the number of a record that is a LOCAL
abbrev pub number_of : ℕ × List ℕ → Option ℕ
number_of = picked (λ (n : ℕ × List ℕ). is_kind LOCAL n.1) (λ (n : ℕ × List ℕ). n.0)

-- the i-th of them
pub nth_number : (h : Group) (i : ℕ) → i < length (locals h) → slice_get (filter_map number_of (enumerate_from 0 h)) i ≡ Some (get_or (locals h) i (0, [])).0
unfolding locals
nth_number h i l =
    ap (λ (ns : List (ℕ × List ℕ)). slice_get (filter_map number_of ns) i) (numbered_is 0 h)
    ∙ nth_picked (λ (n : ℕ × List ℕ). is_kind LOCAL n.1) (λ (n : ℕ × List ℕ). n.0) (0, []) (numbered 0 h) i l
