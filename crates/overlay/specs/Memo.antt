-- What the recursion over supertypes computes, and the memo that holds it.
-- Assumes nothing.
use Rattle.std.specs.Prelude.{◌≡◌, Option, None, Some, List, ◌++◌, map, ℕ, suc, ◌-◌, ◌<◌, length, get_or, replicate}
use Rattle.spec.specs.Lists.{span}
use Rattle.spec.specs.Record.{IMPLEMENTS}
use Rattle.spec.specs.Sheet.{Group}
use Rattle.spec.specs.Markers.{union, union_all}
use Rattle.spec.specs.Classes.{targets, gathered}

-- own markers of a class and of all its supertypes, not closed yet
unfoldable pub raw : (ℕ → Group) → ℕ → ℕ
raw g c = gathered g (suc c) c

-- a set joined with what is gathered for the interfaces of class c
unfoldable pub with_interfaces : (ℕ → Group) → ℕ → ℕ → ℕ
with_interfaces g c m = union m (union_all (map (raw g) (targets IMPLEMENTS (g c))))

-- the memo that knows just the classes below k
unfoldable pub memo_of : (ℕ → Group) → ℕ → List (Option ℕ)
memo_of g k = map (λ c. Some (raw g c)) (span 0 k) ++ replicate (256 - k) None

-- a memo that class c may be asked over: all lower classes are known, and class c is not known, or rightly
pub record Knows (g : ℕ → Group) (c : ℕ) (memo : List (Option ℕ)) : Type 0 where
  pub long : length memo ≡ 256
  pub lower : (i : ℕ) → i < c → get_or memo i None ≡ Some (raw g i)
  pub here : (m : ℕ) → get_or memo c None ≡ Some m → m ≡ raw g c
