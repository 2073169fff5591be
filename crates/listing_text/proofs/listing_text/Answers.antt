-- The refusal, or the counts and the lines.
use Rattle.std.proofs.Common.{refl, length, arith}
use Rattle.text.specs.Written.{Writes}
use Rattle.text.proofs.Texts.{all_overlaid}
use Rattle.verifier.specs.Answers.{counts_in}
use Rattle.listing_text.specs.Listing.{listing_text}
use Rattle.listing_text.proofs.Answered.{counts_short, scratch_after_lem, refused_listing, used_length, used_sheets, row_holds, accepted_listing}
use Rattle.listing_text.proofs.listing_text.Goals as goal
use Rattle.listing_text.proofs.listing_text.Goals.{After-at, in-Err, in-Ok}

pub slice_bounds-class_lines-end : goal.slice_bounds-class_lines-end
slice_bounds-class_lines-end c =
    let a = c.args in used_length a.library.now a.user.now a.used _ a.scratch.now refl c.judge.result c.judge.ensures c.in-Ok.is

pub class_lines-requires : goal.class_lines-requires
class_lines-requires c =
    let a = c.args in
    record {
      accepted = used_sheets a.library.now a.user.now a.used _ a.scratch.now refl c.judge.result c.judge.ensures c.in-Ok.is;
      row_holds = row_holds a.library.now a.user.now a.used _ a.scratch.now refl c.judge.result c.judge.ensures c.in-Ok.is;
      room = omega (arith, c.counts_line.ensures.written.place, c.new-writer.ensures.place, counts_short (counts_in c.in-Ok.field-0));
    }

listed : (c : After-at) → Writes c.new-writer.result (listing_text c.args.library.now c.args.user.now c.args.used (length c.args.scratch.now)) c.match-judge.writer
listed c =
    let a = c.args in
    elim c.match-judge.branch [
      | in-Err w ↦ rw w.writer-is (refused_listing a.library.now a.user.now a.used _ a.scratch.now refl c.judge.result c.judge.ensures w.in-Err.is w.refusal_line.ensures)
      | in-Ok w ↦ rw w.writer-is
          (accepted_listing a.library.now a.user.now a.used _ a.scratch.now refl c.judge.result c.judge.ensures w.in-Ok.is w.counts_line.ensures w.class_lines.ensures)
    ]

pub returns-clause-answer : goal.returns-clause-answer
returns-clause-answer c = omega (arith, (listed (goal.at.returns-clause-answer c).After-at).written.place)

pub returns-clause-out : goal.returns-clause-out
returns-clause-out c =
    let w = listed (goal.at.returns-clause-out c).After-at in grind (arith, w.same_reference, w.written.bytes, all_overlaid)

pub returns-clause-scratch : goal.returns-clause-scratch
returns-clause-scratch c =
    let a = c.args in scratch_after_lem a.library.now a.user.now a.used _ a.scratch.now refl c.judge.result c.judge.ensures
