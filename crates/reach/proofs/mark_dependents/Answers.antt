-- The search from a single 0.
use Rattle.std.proofs.Common.{◌≡◌, ap, arith, get_or, false, nat_eq, length-set, ℕ}
use Rattle.laws.proofs.Rows.{set_below}
use Rattle.sheets.specs.Sheets.{count, groups}
use Rattle.lanes.specs.Lanes.{words}
use Rattle.reach.specs.Reach.{outer_of}
use Rattle.reach.proofs.Depending.{seeds_fit, found}
use Rattle.reach.proofs.mark_dependents.Goals as goal

pub close-requires-clause-seeds_fit : goal.close-requires-clause-seeds_fit
close-requires-clause-seeds_fit c =
    seeds_fit c.args.d (omega (arith, c.requires, c.args.formed.now.passed.few)) (outer_of (groups c.args.formed.now.sheets)) (count c.args.formed.now.sheets) c.put.ensures

pub loop-c-init : goal.loop-c-init
loop-c-init c = record { long = c.told-marks; marked = λ d h. absurd (omega arith) }

pub loop-c-preserved : goal.loop-c-preserved
loop-c-preserved c = record {
  long = simp length-set c.loop-c.invariant.long;
  marked = set_below false (λ d b. b ≡ nat_eq (get_or (words c.close.new.row) d 65535) 0) _ _ _ (omega (arith, c.loop-c.invariant.long)) c.loop-c.invariant.marked
      (ap (λ (y : ℕ). nat_eq y 0) c.entry.ensures);
}

pub returns : goal.returns
returns c =
    found c.args.formed.now.passed c.args.formed.now.formed c.requires c.put.ensures c.close.ensures c.loop-c.invariant.long (λ d b. c.loop-c.invariant.marked d (omega arith))
