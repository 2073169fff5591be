-- Rules 1 to 6, and then the others.
use Rattle.std.proofs.Common.{◌≡◌, ◌∙◌, ap}
use Rattle.spec.specs.Sheet.{Group, class_record}
use Rattle.records.specs.Kinds.{head_of}
use Rattle.sheets.specs.Sheets.{groups}
use Rattle.survey.proofs.Records.{all_refer}
use Rattle.survey.proofs.Whole.{faulted, fine}
use Rattle.survey.proofs.Survey.clean.Goals as goal
use Rattle.survey.proofs.Survey.clean.Goals.{After-early_fine}

head_is : (c : After-early_fine) → c.head-head.result ≡ head_of (class_record (groups c.args.self.now.judging.formed.now.sheets c.args.c))
head_is c = c.head-head.ensures ∙ ap (λ (h : Group). head_of (class_record h)) c.group-group.ensures

pub early_fine-requires : goal.early_fine-requires
early_fine-requires c = rw c.group-group.ensures (all_refer _ c.args.self.now.judging.formed.now.formed c.args.c)

pub returns-then-early_fine : goal.returns-then-early_fine
returns-then-early_fine c =
    let s = c.args.self.now in
    let q = c.requires.user_class in
    let e = head_is (goal.at.returns-then-early_fine c).After-early_fine in
    fine _ q.1 e s.judging.known c.group-group.ensures s.judging.formed.now.passed s.judging.formed.now.formed c.early_fine.ensures c.if-early_fine.true q.0 (s.passing.is _ q.1) c.late_fine.ensures

pub returns-else-early_fine : goal.returns-else-early_fine
returns-else-early_fine c =
    let e = head_is (goal.at.returns-else-early_fine c).After-early_fine in
    faulted _ c.requires.user_class.1 e c.args.self.now.judging.known c.group-group.ensures c.early_fine.ensures c.if-early_fine.false
