use native.Mathlib.Omega.{arith}
use Rattle.overlay.proofs.Memos.{library_low}
use Rattle.captured.proofs.Seeding.{all_start, all_next, all_end}
use Rattle.captured.proofs.MarkedSheets.seed.Goals as goal

pub loop-m-init : goal.loop-m-init
loop-m-init c = rw c.library_count-m.ensures.count (all_start c.count-m-end.ensures.passed _)

pub loop-m-preserved : goal.loop-m-preserved
loop-m-preserved c = all_next c.loop-m.invariant c.seed_class.ensures

pub returns : goal.returns
returns c = all_end (omega (arith, library_low c.args.self.now.nest.now.formed.now.sheets)) c.loop-m.invariant
