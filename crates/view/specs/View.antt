-- The bytes of a sheet that need not be written yet.
-- Assumes nothing.
use Rattle.std.specs.Prelude.{◌≡◌, ◌⊎◌, ℕ, ◌+◌, ◌≤◌, ◌<◌, List, [], ◌++◌, length, take, drop}
use Rattle.spec.specs.Lists.{concat}
use Rattle.spec.specs.Sheet.{class_count, group_start}
use Rattle.laws.proofs.All.{All}
use Rattle.theory.proofs.Cut.{IsGroup}
use Rattle.view.specs.declared.Cut.{Cut}

-- the buffer's bytes before the cut, and the used bytes after it
abbrev pub before_cut : Cut → List ℕ → List ℕ
before_cut cut user = take cut.from user

abbrev pub after_cut : Cut → List ℕ → List ℕ
after_cut cut user = drop cut.to (take cut.used user)

-- the sheet: those with the group between them
unfoldable pub spliced : List ℕ → List ℕ → Cut → List ℕ
spliced user group cut = before_cut cut user ++ (group ++ after_cut cut user)

-- both are whole groups
pub record Around (head tail : List ℕ) : Type 0 where
  pub earlier : List (List ℕ)
  pub later : List (List ℕ)
  pub before : head ≡ concat earlier
  pub after : tail ≡ concat later
  pub earlier_whole : All IsGroup earlier
  pub later_whole : All IsGroup later

-- the cut lies in the used bytes, and those in the buffer; whole groups stand around it
pub record Sits (cut : Cut) (user : List ℕ) : Type 0 where
  pub ordered : cut.from ≤ cut.to
  pub within : cut.to ≤ cut.used
  pub there : cut.used ≤ length user
  pub around : Around (before_cut cut user) (after_cut cut user)

-- nothing is put in and nothing taken out; or a whole group is put between whole groups
unfoldable pub Seamed : Cut → List ℕ → List ℕ → Type 0
Seamed cut user group = ((group ≡ []) × (cut.from ≡ cut.used)) ⊎ (Around (before_cut cut user) (after_cut cut user) × IsGroup group)

-- the cut lies in the used bytes, and those in the buffer; each group of the sheet lies in one slice
pub record Fits (cut : Cut) (user group : List ℕ) : Type 0 where
  pub ordered : cut.from ≤ cut.to
  pub within : cut.to ≤ cut.used
  pub there : cut.used ≤ length user
  pub seams : Seamed cut user group

-- the sheet is three parts end to end, and each of its groups lies in one: nothing follows the first, or a whole group stands between whole groups
pub record Parted (sheet head group tail : List ℕ) : Type 0 where
  pub joined : sheet ≡ head ++ (group ++ tail)
  pub seams : ((group ≡ []) × (tail ≡ [])) ⊎ (Around head tail × IsGroup group)

-- a group of the sheet stands from `start` to `end`
pub record Spans (sheet : List ℕ) (start end : ℕ) : Type 0 where
  pub class : ℕ
  pub there : class < class_count sheet
  pub begins : start ≡ group_start sheet class
  pub ends : end ≡ group_start sheet (class + 1)
