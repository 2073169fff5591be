use Rattle.std.proofs.Common.{arith}
use Rattle.second.proofs.Passing.{library_within, library_classes, user_classes}
use Rattle.second.proofs.sheet_pass.Goals as goal

pub classes_pass-requires-clause-there : goal.classes_pass-requires-clause-there
classes_pass-requires-clause-there c = omega (arith, library_within c.args.sheets.now, c.library_count-nlib.ensures.count)

pub returns-in-Library : goal.returns-in-Library
returns-in-Library c = rw (c.in-Library.is, library_classes c.count-n.ensures.passed, ← c.library_count-nlib.ensures.count) c.classes_pass.ensures

pub returns-in-User : goal.returns-in-User
returns-in-User c =
    rw (c.in-User.is, user_classes c.count-n.ensures.passed, ← c.library_count-nlib.ensures.count, ← c.count-n.ensures.count) c.classes_pass-in-User.ensures
