use Rattle.std.proofs.Common.{rules}
use Rattle.spec.specs.Sheet.{is_interface}
use Rattle.records.specs.Kinds.{kind_number}
use Rattle.second.proofs.Asking.{indexed_low, kind_is}
use Rattle.second.proofs.register.asked_of.Goals as goal

pub overflow_cast-result : goal.overflow_cast-result
overflow_cast-result c = let l = indexed_low c.requires.passed (kind_number c.indexed_kind.result) c.args.c in search rules

pub returns : goal.returns
unfolding is_interface
returns c = let k = kind_is c.args.sheets.now c.args.c c.side.result c.side.ensures in search rules
