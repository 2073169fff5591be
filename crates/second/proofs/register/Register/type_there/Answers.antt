use Rattle.std.proofs.Common.{rules, tests}
use Rattle.second.proofs.ByKind.{absent_any}
use Rattle.second.proofs.register.Register.type_there.Goals as goal

pub returns : goal.returns
returns c = let e = absent_any c.args.self.now.sheets.now c.class.result c.class.ensures in search (rules, tests)
