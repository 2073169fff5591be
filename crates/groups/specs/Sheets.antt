-- A user sheet that passed the first pass, and its bytes from the start of a group on.
-- Assumes nothing.
use Rattle.std.specs.Prelude.{◌≡◌, List, [], ℕ, ◌+◌, ◌≤◌, length}
use Rattle.spec.specs.Sheet.{records_of, split_groups, class_count}
use Rattle.theory.proofs.Accept.{Clear}
use Rattle.records.specs.Records.{AtRecord}

-- a user sheet that passed the first pass, beside a library of so many classes
pub record UserSheet (nlib : ℕ) (sheet : List ℕ) : Type 0 where
  pub clear : Clear 1 nlib sheet
  pub size : length sheet ≤ 32768
  pub few : nlib + class_count sheet ≤ 256

-- bytes from the start of a group on: whole records of lengths that their kinds can have, none before the first CLASS
pub record AtGroup (rest : List ℕ) : Type 0 where
  pub place : AtRecord rest (length rest) 0
  pub loose : (split_groups (records_of rest)).loose ≡ []
