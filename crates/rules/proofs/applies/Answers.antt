use Rattle.std.proofs.Common.{ap, ◌∙◌}
use Rattle.spec.specs.Record.{bit, flags}
use Rattle.spec.specs.Sheet.{Group, class_record}
use Rattle.records.specs.declared.record.Head.{Head}
use Rattle.rules.proofs.Stepping.{asks_marked, asks_unmarked}
use Rattle.rules.proofs.applies.Goals as goal

pub returns-then-has : goal.returns-then-has
returns-then-has c =
    let f = ap (λ (h : Head). bit 0 h.flags) c.head.ensures ∙ ap (λ (g : Group). bit 0 (flags (class_record g))) c.group.ensures in
    rw c.in-Late.is (asks_marked _ _ _ c.args.judging.now.known c.known.ensures c.set.ensures.0 c.has.ensures c.if-has.true (c.is_interface.ensures ∙ f))

pub returns-else-has : goal.returns-else-has
returns-else-has c =
    rw c.in-Late.is (c.if-has.false ∙ asks_unmarked _ _ _ c.args.judging.now.known c.known.ensures c.set.ensures.0 c.has.ensures c.if-has.false)
