-- Two sheets that passed the first pass.
-- Assumes nothing.
use Rattle.std.specs.Prelude.{List, ℕ, ◌≤◌, length}
use Rattle.spec.specs.Sheet.{Group, class_count, total, group}
use Rattle.theory.proofs.Accept.{Clear}

-- a library sheet and a user sheet
pub record Pair : Type 0 where
  pub library : List ℕ
  pub user : List ℕ

-- how many classes the library has, and both sheets
abbrev pub library_count : Pair → ℕ
library_count p = class_count p.library

abbrev pub count : Pair → ℕ
count p = total p.library p.user

-- the records of each class
abbrev pub groups : Pair → ℕ → Group
groups p = group p.library p.user

-- both passed the first pass
pub record Passed (p : Pair) : Type 0 where
  pub library_clear : Clear 0 0 p.library
  pub user_clear : Clear 1 (library_count p) p.user
  pub library_size : length p.library ≤ 32768
  pub user_size : length p.user ≤ 32768
  pub some : 1 ≤ library_count p
  pub few : count p ≤ 256
