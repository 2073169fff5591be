use Rattle.second.proofs.Passing.{all_classes}
use Rattle.second.proofs.second_pass.Goals as goal

pub returns : goal.returns
returns c = rw (all_classes c.count-n.ensures.passed, ← c.count-n.ensures.count) c.classes_pass.ensures
