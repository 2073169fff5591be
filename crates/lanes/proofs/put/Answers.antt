-- Two bytes become the entry.
use Rattle.std.proofs.Common.{◌∙◌, ◌+◌, ◌*◌, get_or, set, ap, arith, ℕ, List}
use Rattle.lanes.specs.Lanes.{words}
use Rattle.lanes.proofs.Words.{words_set}
use Rattle.lanes.proofs.put.Goals as goal

pub returns : goal.returns
returns c =
    let row = c.args.row.now in
    words_set row c.args.i _ _ c.requires
    ∙ ap (λ (bytes : List ℕ). set (words row) c.args.i (get_or bytes 0 0 + 256 * get_or bytes 1 0)) c.to_le_bytes.ensures
    ∙ ap (set (words row) c.args.i) (omega (arith, c.ranges.y))
