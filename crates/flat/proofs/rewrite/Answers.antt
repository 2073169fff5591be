-- A clean class, or what the walk finds, class by class.
use Rattle.std.proofs.Common.{◌<◌, sym, ap, ◌∙◌, arith}
use Rattle.sheets.specs.Sheets.{Pair, count}
use Rattle.overlay.proofs.Memos.{library_low}
use Rattle.survey.proofs.Verdicts.{clean_both}
use Rattle.rules.specs.Line.{line_of}
use Rattle.flat.proofs.Rewriting.{rewrite_start, rewrite_passed, rewrite_put, lines_same, own_verdict}
use Rattle.flat.proofs.rewrite.Goals as goal
use Rattle.flat.proofs.rewrite.Goals.{then-marks-c, then-clean, else-clean, else-marks-c}

pub loop-c-init : goal.loop-c-init
loop-c-init c = (rw c.library_count-first.ensures.count (rewrite_start _ _ _ _ _ (library_low c.args.survey.now.judging.formed.now.sheets)), ap (λ b. b.now) c.new-walk.ensures)

pub put-requires : goal.put-requires
put-requires c =
    omega (arith, lines_same c.loop-c.invariant.0 c.requires.lines, c.loop-c.invariant.0.low, c.loop-c-test.true, c.loop-c.auto.c-end, c.count-c-end.ensures.count, c.library_count-first.ensures.count)

pub loop-c-preserved : goal.loop-c-preserved
loop-c-preserved c =
    let inv = c.loop-c.invariant in
    let p : Pair = c.args.survey.now.judging.formed.now.sheets in
    let low : c.loop-c.c < count p = omega (arith, c.loop-c-test.true, c.loop-c.auto.c-end, c.count-c-end.ensures.count) in
    elim c.if-marks-c.branch [
      | then-marks-c w ↦ (
        rewrite_put inv.0 low w.if-marks-c.true c.requires.lines
            (elim w.if-clean.branch [
              | then-clean v ↦ ap line_of v.fault-is ∙ sym (clean_both _ (sym w.clean.ensures ∙ v.if-clean.true)) ∙ own_verdict p inv.0.low
              | else-clean v ↦ ap line_of v.fault-is ∙ (rw inv.1 at v.verdict_of-fault.ensures.verdict) ∙ own_verdict p inv.0.low
            ])
            (rw c.library_count-first.ensures.count at (w.verdicts-is ∙ w.put.ensures)),
        ap (λ b. b.judging.now) w.walk-is
            ∙ elim w.if-clean.branch [
              | then-clean v ↦ ap (λ b. b.judging.now) v.walk-is ∙ inv.1
              | else-clean v ↦ ap (λ b. b.judging.now) v.walk-is ∙ ap (λ b. b.now) v.verdict_of-fault.ensures.judging ∙ inv.1
            ],
      )
      | else-marks-c w ↦ (rewrite_passed inv.0 low w.if-marks-c.false w.verdicts-is, ap (λ b. b.judging.now) w.walk-is ∙ inv.1)
    ]
