-- The second CLASS record stands behind the first group.
use Rattle.groups.proofs.Sheets.{group_length}
use Rattle.groups.proofs.group_length.Goals as goal

pub returns : goal.returns
returns c = group_length c.requires (rw c.number.ensures at c.nth_in.ensures)
