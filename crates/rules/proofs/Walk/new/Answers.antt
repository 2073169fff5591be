use Rattle.rules.proofs.Keeping.{kept_none}
use Rattle.rules.proofs.Walk.new.Goals as goal

pub invariant_of-result : goal.invariant_of-result
invariant_of-result c = record { is_kept = kept_none; is_cleared = kept_none }
