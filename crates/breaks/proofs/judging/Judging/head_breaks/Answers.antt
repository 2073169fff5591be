use Rattle.std.proofs.Common.{◌∙◌, ap, not}
use Rattle.sheets.specs.Sheets.{groups, library_count}
use Rattle.slots.specs.Slots.{rule_marker, head_breaks}
use Rattle.slots.proofs.Sets.{twice}
use Rattle.slots.proofs.Heads.{head_is}
use Rattle.markers.proofs.Having.{has_is}
use Rattle.breaks.proofs.judging.Judging.head_breaks.Goals as goal

-- the set that is read has the rule's marker just where record 0 passes
pub returns : goal.returns
returns c =
    let j = c.args.self.now in
    ap not
    (has_is (rule_marker c.args.rule) c.head_set.result c.set.ensures.0 c.has.ensures
    ∙ head_is j.formed.now.sheets c.requires.there j.formed.now.formed c.requires.head j.known (rw c.library_count-nlib.ensures.count at c.head_set.ensures) c.args.rule)
    ∙ twice (head_breaks (library_count j.formed.now.sheets) (groups j.formed.now.sheets) c.args.rule c.args.t)
