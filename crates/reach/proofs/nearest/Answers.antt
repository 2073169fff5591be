use Rattle.sheets.specs.Sheets.{groups}
use Rattle.reach.proofs.Encloser.{outer_read, nearest_some, nearest_none}
use Rattle.reach.proofs.nearest.Goals as goal

pub returns-in-Some : goal.returns-in-Some
returns-in-Some c =
    nearest_some (groups c.args.sheets.now) c.args.c (outer_read (groups c.args.sheets.now) c.args.c c.head.ensures c.group.ensures) c.in-Some.is c.min.ensures

pub returns-in-None : goal.returns-in-None
returns-in-None c =
    nearest_none (groups c.args.sheets.now) c.args.c (outer_read (groups c.args.sheets.now) c.args.c c.head.ensures c.group.ensures) c.in-None.is c.requires.1
