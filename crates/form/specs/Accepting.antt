-- What is found of two sheets, and what the memo holds of any two.
-- Assumes nothing.
use Rattle.std.specs.Prelude.{◌≡◌, ℕ}
use Rattle.std.proofs.Math.Option.{none}
use Rattle.spec.specs.Refusals.{form_refusal}
use Rattle.groups.specs.Groups.{Indexed}
use Rattle.sheets.specs.Sheets.{Pair, groups, library_count}
use Rattle.overlay.specs.Memo.{memo_of}
use Rattle.form.specs.declared.accepted.Found.{Found}

-- the index and the memo are right for the two sheets
pub record FoundIn (p : Pair) (found : Found) : Type 0 where
  pub indexed : Indexed p.library p.user found.index.classes.library found.index.classes.all found.index.starts
  pub formed : form_refusal p.library p.user ≡ none
  pub known : found.memo ≡ memo_of (groups p) (library_count p)

-- the memo knows just the classes below `asked`
pub record Asked (p : Pair) (found : Found) : Type 0 where
  pub asked : ℕ
  pub memo_is : found.memo ≡ memo_of (groups p) asked
