-- The three steps make the buffer with the new sheet.
use Rattle.std.proofs.Common.{arith}
use Rattle.edit.proofs.Splicing.{sheet_room, spliced_in, edit_made, edit_longer}
use Rattle.edit.proofs.write.Goals as goal

pub shift-requires : goal.shift-requires
shift-requires c = let r = sheet_room _ _ _ c.requires.fits c.requires.room in omega (arith, r, c.requires.fits.there)

pub slice_bounds-copy-end : goal.slice_bounds-copy-end
slice_bounds-copy-end c = omega (arith, sheet_room _ _ _ c.requires.fits c.requires.room, c.shift.auto.buffer)

pub returns-then-end-cut : goal.returns-then-end-cut
returns-then-end-cut c =
    edit_made _ _ _ c.requires.fits c.requires.room (spliced_in _ _ _ c.requires.fits c.requires.room c.shift.ensures c.copy.ensures) (omega arith) (c.fill.ensures.after (λ y e. e))

pub returns-else-end-cut : goal.returns-else-end-cut
returns-else-end-cut c =
    edit_longer _ _ _ c.requires.fits c.requires.room (spliced_in _ _ _ c.requires.fits c.requires.room c.shift.ensures c.copy.ensures) c.if-end-cut.false
