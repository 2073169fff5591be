-- The member that is picked, if there is one.
use Rattle.std.proofs.Common.{rules, ◌∙◌, sym, ap, false}
use Rattle.std.proofs.lemmas.Iterator.Adapters.{option_map_id}
use Rattle.std.proofs.lemmas.Iterator.Consumers.{YieldsList-from_first, YieldsList-from_filter_map, YieldsList-at, nth_from_yields_List}
use borrow.Author.Tests.{tests}
use Rattle.std.specs.Prelude.{Option, Bool}
use Rattle.std.specs.Option.{unwrap_or}
use Rattle.spec.specs.Record.{bit, flags, u16, MEMBER}
use Rattle.captured.proofs.Picking.{picked_of, nth_of_or}
use Rattle.breaks.proofs.early.member_allowed.Goals as goal

pub returns : goal.returns
unfolding bit flags u16
returns c =
    let e = sym (option_map_id c.nth.result)
    ∙ nth_from_yields_List _ _ _ c.nth.ensures.ran
    (YieldsList-from_filter_map _ (picked_of MEMBER (λ r. bit 0 (flags r)))
    (YieldsList-at c.filter_map.ensures.source (YieldsList-from_first (λ r. r) (λ rs. rs) c.args.group.now c.records.ensures.records))
    c.filter_map.ensures.closure (λ x r q k. search (rules, tests))) in
    c.unwrap_or.ensures ∙ ap (λ (o : Option Bool). unwrap_or o false) e ∙ nth_of_or MEMBER (λ r. bit 0 (flags r)) c.args.group.now c.args.i
