-- Where no whole record stood a reader stays, and so it is already where record n begins.
use Rattle.std.proofs.Common.{◌≡◌, ap, sym, ◌∙◌, arith}
use mathlib.Core.Path.{ap₂}
use Rattle.std.proofs.lemmas.Grind.{common_steps}
use Rattle.reader.specs.Reading.{after_at, found_at, nth_at}
use Rattle.reader.proofs.Reading.{nth_zero, nth_step, nth_stays}
use Rattle.reader.proofs.nth.Goals.{else-loop-test, then-loop-test+then-not-advance}
use Rattle.reader.proofs.nth.Goals as goal

pub loop-init : goal.loop-init
loop-init c = (ap (λ b. b.now) c.new-reader.ensures.bytes, c.new-reader.ensures.at ∙ nth_zero c.args.sheet.now)

pub loop-preserved : goal.loop-preserved
loop-preserved c =
    let inv = c.loop.invariant in
    (ap (λ b. b.now) c.advance.ensures.bytes ∙ inv.0, c.advance.ensures.at ∙ ap₂ after_at inv.0 inv.1 ∙ nth_step _ _)

-- However the loop ended, the reader is where record n begins.
there : (c : goal.After-read) → (c.loop-test.reader.bytes.now ≡ c.args.sheet.now) × (c.loop-test.reader.at ≡ nth_at c.args.sheet.now c.args.n)
there c =
    let inv = c.loop.invariant in
    elim c.loop-test.branch [
      | else-loop-test w ↦ rw w.reader-is (inv.0, inv.1 ∙ ap (nth_at c.args.sheet.now) (omega arith))
      | then-loop-test+then-not-advance w ↦
          let moved = w.advance.ensures.at ∙ ap₂ after_at inv.0 inv.1 in
          let still : w.advance.new.self.at ≡ c.loop.reader.at = grind (arith, common_steps) in
          rw w.reader-is (
            ap (λ b. b.now) w.advance.ensures.bytes ∙ inv.0,
            still ∙ inv.1 ∙ nth_stays c.args.sheet.now c.loop.counter c.args.n (omega arith) (sym moved ∙ still ∙ inv.1),
          )
    ]

pub returns : goal.returns
returns c = let t = there c in c.read.ensures ∙ ap₂ found_at t.0 t.1
