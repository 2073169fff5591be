-- What is not allowed of the library's classes, as a row.
-- Assumes nothing.
use Rattle.std.specs.Prelude.{Bool, true, false, not, ◌&&◌, ◌||◌, List, ◌≡◌, ℕ, ◌≤◌, ◌<◌, T, ltb, length, get_or}
use Rattle.spec.specs.Lists.{any}
use Rattle.spec.specs.Record.{bit, is_kind, MEMBER, REFERS, flags, target, index, references}
use Rattle.spec.specs.Sheet.{Group, class_record, of_kind}
use Rattle.spec.specs.Rules.{forbidden}
use Rattle.breaks.specs.declared.bans.Ban.{Ban}

unfoldable pub closed_member : List ℕ → Bool
closed_member r = is_kind MEMBER r && not (bit 0 (flags r))

-- what is not allowed of a library class with these records: the class, by its flags, and some member
abbrev pub ban_of : Group → Ban
ban_of h = record { closed = not (bit 8 (flags (class_record h))); partly = any closed_member h }

abbrev pub nothing : Ban
nothing = record { closed = false; partly = false }

-- the row says what is not allowed of each library class, and nothing of every other number
pub record Bans (nlib : ℕ) (g : ℕ → Group) (row : List Ban) : Type 0 where
  pub few : nlib ≤ 256
  pub long : length row ≡ 256
  pub is : (d : ℕ) → get_or row d nothing ≡ elim (ltb d nlib) [ true ↦ ban_of (g d) | false ↦ nothing ]

-- by such a row: whether a record names a class that is not allowed
pub record NamesForbidden (row : List Ban) (r : List ℕ) (b : Bool) : Type 0 where
  pub is : (nlib : ℕ) (g : ℕ → Group) → Bans nlib g row → b ≡ any (forbidden nlib g) (references r)

-- by such a row: whether class d is none of the library's, or has a member that is not allowed
pub record Partial (nlib : ℕ) (row : List Ban) (d : ℕ) (b : Bool) : Type 0 where
  pub is : (g : ℕ → Group) → Bans nlib g row → b ≡ (not (ltb d nlib) || any closed_member (g d))

-- a REFERS record names a member that is there
pub record Refers (n : ℕ) (g : ℕ → Group) (r : List ℕ) : Type 0 where
  pub class : T (is_kind REFERS r) → target r < n
  pub member : T (is_kind REFERS r) → index r < length (of_kind MEMBER (g (target r)))
