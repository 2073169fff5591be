use Rattle.std.proofs.Common.{◌≡◌, ◌+◌, ◌≤◌, ◌<◌, length, arith}
use Rattle.spec.specs.Sheet.{class_count}
use Rattle.theory.specs.Claims.{running}
use Rattle.groups.specs.Sheets.{UserSheet}
use Rattle.text.proofs.Texts.{put_same}
use Rattle.groups.proofs.Sheets.{library_place, library_count, user_sheet_lem, at_group, further, class_left}
use Rattle.listing_text.proofs.ClassText.{line_is, lines_start, begins_there, lines_next, lines_end}
use Rattle.listing_text.proofs.class_lines.Goals as goal
use Rattle.listing_text.proofs.class_lines.Goals.{After-count_in-nlib, In-loop-start, After-group_length-start}

-- ---- the sheets

library_is : (c : After-count_in-nlib) → c.count_in-nlib.result ≡ class_count c.args.library.now
library_is c = library_count c.args.library.now c.args.sheet.now c.requires.accepted (rw c.number.ensures at c.count_in-nlib.ensures)

sheet_is : (c : After-count_in-nlib) → UserSheet c.count_in-nlib.result c.args.sheet.now
sheet_is c = user_sheet_lem c.args.library.now c.args.sheet.now c.requires.accepted (library_is c)

-- a class begins at the position
module _ (c : In-loop-start) (u : UserSheet c.count_in-nlib.result c.args.sheet.now) where
  class_there : c.loop-start.i < class_count c.args.sheet.now
  class_there = class_left u c.loop-start.i c.loop-start.invariant.high c.loop-start.invariant.reached c.loop-start-test.true

next : (c : After-group_length-start) → UserSheet c.count_in-nlib.result c.args.sheet.now → c.loop-start.i < class_count c.args.sheet.now
    → (c.loop-start.start + c.group_length-start.result ≡ running c.args.sheet.now (c.loop-start.i + 1)) × (1 ≤ c.group_length-start.result)
    × (c.loop-start.start + c.group_length-start.result ≤ length c.args.sheet.now)
next c u h = further u c.loop-start.i h c.loop-start.invariant.reached c.group_length-start.ensures

-- ---- the needs

pub count_in-nlib-requires : goal.count_in-nlib-requires
count_in-nlib-requires c = library_place c.args.library.now c.args.sheet.now c.requires.accepted

pub loop-start-init : goal.loop-start-init
loop-start-init c = lines_start

pub class_line-requires-clause-user_sheet : goal.class_line-requires-clause-user_sheet
class_line-requires-clause-user_sheet c = sheet_is (goal.at.class_line-requires-clause-user_sheet c).After-count_in-nlib

pub class_line-requires-clause-group : goal.class_line-requires-clause-group
class_line-requires-clause-group c =
    let k = goal.at.class_line-requires-clause-group c in
    let u = sheet_is k.After-count_in-nlib in
    (class_there k.In-loop-start u, begins_there u c.loop-start.invariant)

pub class_line-requires-clause-line : goal.class_line-requires-clause-line
class_line-requires-clause-line c =
    let k = goal.at.class_line-requires-clause-line c in
    let u = sheet_is k.After-count_in-nlib in
    let h = class_there k.In-loop-start u in
    (omega (arith, c.requires.row_holds.long, h, u.few), omega (arith, c.loop-start.invariant.short, h, u.few, c.requires.room))

pub group_length-start-requires : goal.group_length-start-requires
group_length-start-requires c =
    let u = sheet_is (goal.at.group_length-start-requires c).After-count_in-nlib in at_group u c.loop-start.i (begins_there u c.loop-start.invariant)

pub overflow_add-start : goal.overflow_add-start
overflow_add-start c =
    let k = goal.at.overflow_add-start c in
    let u = sheet_is k.After-count_in-nlib in omega (arith, next k.After-group_length-start u (class_there k.In-loop-start u), u.size)

pub overflow_add-i : goal.overflow_add-i
overflow_add-i c =
    let k = goal.at.overflow_add-i c in
    let u = sheet_is k.After-count_in-nlib in omega (arith, class_there k.In-loop-start u, u.few)

pub loop-start-smaller : goal.loop-start-smaller
loop-start-smaller c =
    let k = goal.at.loop-start-smaller c in
    let u = sheet_is k.After-count_in-nlib in omega (arith, next k.After-group_length-start u (class_there k.In-loop-start u))

pub loop-start-preserved : goal.loop-start-preserved
loop-start-preserved c =
    let k = goal.at.loop-start-preserved c in
    let u = sheet_is k.After-count_in-nlib in
    let h = class_there k.In-loop-start u in
    lines_next u c.loop-start.invariant h
    (put_same (line_is h c.args.library.now (library_is k.After-count_in-nlib) c.requires.row_holds) c.class_line.ensures)
    (next k.After-group_length-start u h).0

pub returns : goal.returns
returns c = lines_end (sheet_is (goal.at.returns c).After-count_in-nlib) c.loop-start.invariant (omega (arith, c.loop-start-test.false))
