-- A row that holds the verdicts of all user classes.
-- Assumes nothing.
use Rattle.std.specs.Prelude.{◌≡◌, List, ℕ, ◌*◌, ◌<◌, length}
use Rattle.spec.specs.Sheet.{class_count}
use Rattle.spec.specs.Verdicts.{verdict_bytes, user_verdict, flat_at}
use Rattle.listing_text.specs.Listing.{listed_lines}

-- the row holds the verdict of each class of the user sheet
pub record RowHolds (library user : List ℕ) (row : List ℕ) : Type 0 where
  pub long : length row ≡ verdict_bytes * listed_lines
  pub verdicts : (i : ℕ) → i < class_count user → flat_at row i ≡ user_verdict library user i
