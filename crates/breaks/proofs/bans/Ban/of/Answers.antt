use Rattle.std.proofs.Common.{rules, ◌∙◌, ap, not}
use mathlib.Core.Path.{ap₂}
use mathlib.Core.Bool.{Bool}
use Rattle.std.proofs.lemmas.Iterator.Consumers.{YieldsList-from_first}
use Rattle.std.proofs.lemmas.Iterator.Search.{any_from_yields_List}
use borrow.Author.Tests.{tests}
use Rattle.spec.specs.Record.{bit}
use Rattle.records.specs.declared.record.Head.{Head}
use Rattle.breaks.specs.Bans.{closed_member}
use Rattle.records.proofs.Chains.{any_is}
use Rattle.breaks.proofs.bans.Ban.of.Goals as goal

pub returns : goal.returns
returns c =
    ap₂ (λ (x y : Bool). record { closed = x; partly = y }) (ap not (c.has_flag.ensures ∙ ap (λ (h : Head). bit 8 h.flags) c.head.ensures))
    (any_from_yields_List closed_member _ _ c.any.result c.any.ensures.ran (YieldsList-from_first (λ r. r) (λ rs. rs) c.args.group.now c.records.ensures.records) (λ x b q k. search (rules, tests))
    ∙ any_is closed_member c.args.group.now)
