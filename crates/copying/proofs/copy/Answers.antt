use Rattle.std.proofs.Common.{◌≡◌, arith}
use Rattle.std.proofs.lemmas.List.{get_or_read, same_lists}
use Rattle.std.specs.Prelude.{get_or}
use Rattle.laws.proofs.Rows.{set_below}
use Rattle.copying.proofs.copy.Goals as goal

pub loop-i-init : goal.loop-i-init
loop-i-init g c = λ d e h. absurd (omega arith)

pub loop-i-preserved : goal.loop-i-preserved
loop-i-preserved g c = λ d e h.
    set_below e (λ k v. v ≡ get_or c.args.from.now k e) c.loop-i.to c.loop-i.i c.index-from-i.result (omega (arith, c.loop-i.auto.to, c.requires))
    (λ k q. c.loop-i.invariant k e q) (get_or_read c.args.from.now c.loop-i.i c.index-from-i.result c.loop-i-test.true c.index-from-i.is e) d h

pub returns : goal.returns
returns g c = same_lists c.loop-i.to c.args.from.now (omega (arith, c.loop-i.auto.to, c.requires)) (λ k d h. c.loop-i.invariant k d (omega (arith, c.loop-i.auto.to, c.requires)))
