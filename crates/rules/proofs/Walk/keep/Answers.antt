use Rattle.rules.proofs.Keeping.{kept_more}
use Rattle.rules.proofs.Walk.keep.Goals as goal

pub invariant_of-self : goal.invariant_of-self
invariant_of-self c = record {
  is_cleared = c.args.self.now.is_cleared;
  is_kept = kept_more c.args.self.now.is_kept c.in-Late.late c.requires.0 (rw c.in-Late.is at c.requires.1) c.set.ensures.0 c.union.ensures;
}
