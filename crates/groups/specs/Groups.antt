-- A class's group found by the row of starts, in whichever sheet holds it.
-- Assumes nothing.
use Rattle.std.specs.Prelude.{◌≡◌, true, false, List, ℕ, ◌+◌, ◌-◌, ◌≤◌, ◌<◌, ltb, length, get_or}
use Rattle.spec.specs.Lists.{concat}
use Rattle.spec.specs.Sheet.{class_count, total, group, group_start}
use Rattle.theory.proofs.Accept.{Clear}

-- the sheet that holds class c: 0 library, 1 user
unfoldable pub sheet_number : ℕ → ℕ → ℕ
sheet_number nlib c = elim (ltb c nlib) [ true ↦ 0 | false ↦ 1 ]

-- the byte where the group of class c begins in its sheet, and the byte after it
unfoldable pub start_of : List ℕ → List ℕ → ℕ → ℕ
start_of library user c = elim (ltb c (class_count library)) [ true ↦ group_start library c | false ↦ group_start user (c - class_count library) ]

unfoldable pub end_of : List ℕ → List ℕ → ℕ → ℕ
end_of library user c = start_of library user c + length (concat (group library user c))

-- both sheets passed the first pass, and the row holds the start of each group
pub record Indexed (library user : List ℕ) (nlib n : ℕ) (row : List ℕ) : Type 0 where
  pub library_clear : Clear 0 0 library
  pub user_clear : Clear 1 (class_count library) user
  pub library_size : length library ≤ 32768
  pub user_size : length user ≤ 32768
  pub nlib_is : nlib ≡ class_count library
  pub n_is : n ≡ total library user
  pub some : 1 ≤ nlib
  pub few : n ≤ 256
  pub long : length row ≡ 256
  pub starts : (c : ℕ) → c < n → get_or row c 0 ≡ start_of library user c
