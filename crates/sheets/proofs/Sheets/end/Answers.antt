-- A group ends where the next one of its sheet begins, the last one where the sheet ends.
use Rattle.std.proofs.Common.{sym, ◌∙◌, arith}
use Rattle.groups.proofs.Held.{library_end, user_end, next_start}
use Rattle.sheets.proofs.Standing.{low_is, end_is}
use Rattle.sheets.proofs.Sheets.end.Goals as goal

pub returns-then-next-classes : goal.returns-then-next-classes
returns-then-next-classes c =
    let x = c.self.invariant in
    end_is x c.self.view_is _ (sym (library_end x (low_is x c.self.view_is c.requires) c.if-next-classes.true))

pub returns-then-next-classes-2 : goal.returns-then-next-classes-2
returns-then-next-classes-2 c =
    let x = c.self.invariant in
    c.len.ensures ∙ end_is x c.self.view_is _ (sym (user_end x (low_is x c.self.view_is c.requires) c.if-next-classes.false c.if-next-classes-2.true))

pub returns : goal.returns
returns c =
    let x = c.self.invariant in
    let low = low_is x c.self.view_is c.requires in
    let next = next_start x low c.if-next-classes.false (omega arith) in
    end_is x c.self.view_is _ (c.from.ensures ∙ x.starts _ (omega arith) ∙ next)
