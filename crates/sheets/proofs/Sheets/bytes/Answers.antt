-- The bytes from the group's start to its end, in the sheet that holds it.
use Rattle.sheets.proofs.Standing.{ordered, library_within, library_carries, user_spans, user_carries}
use Rattle.sheets.proofs.Sheets.bytes.Goals as goal

pub slice_bounds-result-count : goal.slice_bounds-result-count
slice_bounds-result-count c = ordered c.self.invariant c.self.view_is c.requires c.start-start.ensures c.end-end.ensures

pub slice_bounds-result-start : goal.slice_bounds-result-start
slice_bounds-result-start c = ordered c.self.invariant c.self.view_is c.requires c.start-start.ensures c.end-end.ensures

pub slice_bounds-result-end : goal.slice_bounds-result-end
slice_bounds-result-end c = library_within c.self.invariant c.self.view_is c.requires c.start-start.ensures c.end-end.ensures c.in-Library.ensures

pub part-requires : goal.part-requires
part-requires c = user_spans c.self.invariant c.self.view_is c.requires c.start-start.ensures c.end-end.ensures c.in-User.ensures

pub returns-in-Library : goal.returns-in-Library
returns-in-Library c = library_carries c.self.invariant c.self.view_is c.requires c.start-start.ensures c.end-end.ensures c.in-Library.ensures

pub returns-in-User : goal.returns-in-User
returns-in-User c = user_carries c.self.invariant c.self.view_is c.requires c.start-start.ensures c.end-end.ensures c.in-User.ensures c.part.ensures
