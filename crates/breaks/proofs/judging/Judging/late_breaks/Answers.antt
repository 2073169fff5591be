use mathlib.Core.Path.{◌≡◌, sym, ap, ◌∙◌}
use native.Mathlib.Omega.{arith}
use Rattle.records.specs.Kinds.{head_of}
use Rattle.records.proofs.Bodies.{reads_kind, is_not, not_class, not_field}
use Rattle.sheets.specs.Sheets.{groups}
use Rattle.theory.proofs.Form.{group_one_class}
use Rattle.slots.proofs.Fields.{field_other}
use Rattle.breaks.proofs.Fields.{field_told}
use Rattle.breaks.proofs.Places.{first_is, first_class, class_first, rule_head, rule_field}
use Rattle.breaks.proofs.judging.Judging.late_breaks.Goals as goal

pub head_breaks-requires-clause-head : goal.head_breaks-requires-clause-head
head_breaks-requires-clause-head c =
    let p = c.args.self.now.formed.now.sheets in
    let one = group_one_class p.library p.user c.args.step.asked c.requires.asked_there in
    c.in-Class.ensures.1 ∙ ap head_of (first_is c.requires.standing (class_first one c.requires.standing c.in-Class.ensures.0))

pub returns-in-Class : goal.returns-in-Class
returns-in-Class c =
    let p = c.args.self.now.formed.now.sheets in
    let one = group_one_class p.library p.user c.args.step.asked c.requires.asked_there in
    rule_head _ _ _ _ _ (class_first one c.requires.standing c.in-Class.ensures.0) c.head_breaks.ensures

pub returns-in-Field : goal.returns-in-Field
returns-in-Field c =
    let j = c.args.self.now in
    let p = j.formed.now.sheets in
    let one = group_one_class p.library p.user c.args.step.asked c.requires.asked_there in
    let w = rw c.in-Field.is at c.body.ensures in
    rule_field _ _ _ _ _ (λ (e : c.args.step.number ≡ 0). omega (arith, w.0, first_class one c.requires.standing e))
    (field_told (groups p) j.known c.args.rule _ _ _ w c.field_set.ensures c.set.ensures.0 c.has.ensures)

pub returns-in_default : goal.returns-in_default
returns-in_default c =
    let p = c.args.self.now.formed.now.sheets in
    let b = c.body.result in
    let r = c.args.record.now in
    let one = group_one_class p.library p.user c.args.step.asked c.requires.asked_there in
    let other = field_other (groups p) c.args.rule c.args.step.asked c.args.step.number r (is_not r b c.body.ensures (not_field b c.in_default.not-Field)) in
    rule_field _ _ _ _ _ (λ (e : c.args.step.number ≡ 0). not_class b c.in_default.not-Class (sym (reads_kind r b c.body.ensures) ∙ first_class one c.requires.standing e))
    (sym other)
