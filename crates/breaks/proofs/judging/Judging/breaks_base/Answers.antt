-- Of a class with a superclass, by what the CLASS record says; one without breaks nothing.
use Rattle.std.proofs.Common.{◌≡◌, ◌∙◌, sym, ap, Bool, ◌&&◌}
use Rattle.spec.specs.Sheet.{Group, class_record}
use Rattle.records.specs.Kinds.{head_of}
use Rattle.sheets.specs.Sheets.{groups}
use Rattle.slots.specs.Slots.{base_by}
use Rattle.slots.proofs.Base.{base_is}
use Rattle.breaks.specs.Beyond.{base_at}
use Rattle.breaks.proofs.Sites.{base_selfless}
use Rattle.breaks.proofs.judging.Judging.breaks_base.Goals as goal
use Rattle.breaks.proofs.judging.Judging.breaks_base.Goals.{After-is_some}

asked : (c : After-is_some) → base_at (groups c.args.self.now.formed.now.sheets) c.args.rule c.args.c ≡ (c.is_some.result && base_by c.head-head.result c.args.self.now.markers.now)
asked c =
    let j = c.args.self.now in
    base_selfless (groups j.formed.now.sheets) c.in-Late-Selfless.is (rw c.in-Late-Selfless.is at c.in-Late-Selfless.field-0-is) c.args.c
    ∙ base_is j.formed.now.sheets c.requires (c.head-head.ensures ∙ ap (λ (g : Group). head_of (class_record g)) c.group.ensures) j.known
    ∙ ap (λ (b : Bool). b && base_by c.head-head.result j.markers.now) (sym c.is_some.ensures)

pub returns-then-is_some : goal.returns-then-is_some
returns-then-is_some c =
    let at = (goal.at.returns-then-is_some c).After-is_some in
    c.base_breaks.ensures ∙ sym (asked at ∙ ap (λ (b : Bool). b && base_by c.head-head.result c.args.self.now.markers.now) c.if-is_some.true)

pub returns-else-is_some : goal.returns-else-is_some
returns-else-is_some c =
    let at = (goal.at.returns-else-is_some c).After-is_some in
    c.if-is_some.false ∙ sym (asked at ∙ ap (λ (b : Bool). b && base_by c.head-head.result c.args.self.now.markers.now) c.if-is_some.false)
