-- What is read of the class, and its texts one after another.
use Rattle.std.proofs.Common.{refl, ◌∙◌, ◌+◌, arith}
use Rattle.text.proofs.Texts.{put_same, put_then}
use Rattle.listing_text.proofs.NameBytes.{NameAt, name_at_lem}
use Rattle.listing_text.proofs.ClassText.{line_read}
use Rattle.listing_text.proofs.class_line.Goals as goal
use Rattle.listing_text.proofs.class_line.Goals.{After-from}

-- the class's name stands where the code looks
name_by : (c : After-from) → NameAt c.args.sheet.now c.args.i c.args.start c.from.result
name_by c = let p = c.requires in name_at_lem p.user_sheet p.group.0 p.group.1 (c.from.ensures ∙ c.word_in.ensures)

-- ---- the needs

pub word_in-requires : goal.word_in-requires
word_in-requires c = let p = c.requires in let q = name_at_lem p.user_sheet p.group.0 p.group.1 refl in omega (arith, q.long, q.within)

pub overflow_add-end : goal.overflow_add-end
overflow_add-end c = omega (arith, (name_by c).within, c.requires.user_sheet.size)

pub overflow_add-name : goal.overflow_add-name
overflow_add-name c = omega (arith, (name_by (goal.at.overflow_add-name c).After-from).within, c.requires.user_sheet.size)

pub slice_bounds-name-count : goal.slice_bounds-name-count
slice_bounds-name-count c = omega (arith, (name_by (goal.at.slice_bounds-name-count c).After-from).long)

pub slice_bounds-name-start : goal.slice_bounds-name-start
slice_bounds-name-start c = let q = name_by (goal.at.slice_bounds-name-start c).After-from in omega (arith, q.long, q.within)

pub slice_bounds-name-end : goal.slice_bounds-name-end
slice_bounds-name-end c = let q = name_by (goal.at.slice_bounds-name-end c).After-from in omega (arith, q.long, q.within)

pub returns : goal.returns
returns c =
    let a = c.args in
    let q = name_by (goal.at.returns c).After-from in
    put_same (line_read (a.nlib + a.i) a.verdicts.now a.i q.is c.from-rule.ensures c.from-place.ensures c.from-class.ensures)
    (put_then c.put_number.ensures (put_then c.put.ensures (put_then c.put_bytes.ensures (put_then c.put-2.ensures c.put_verdict.ensures))))
