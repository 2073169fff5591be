use Rattle.rules.proofs.Keeping.{kept_more}
use Rattle.rules.proofs.Walk.keep_above.Goals as goal

pub invariant_of-self : goal.invariant_of-self
invariant_of-self c = record {
  is_kept = c.args.self.now.is_kept;
  is_cleared = kept_more c.args.self.now.is_cleared c.in-Late.late c.requires.0 (rw c.in-Late.is at c.requires.1) c.set.ensures.0 c.union.ensures;
}
