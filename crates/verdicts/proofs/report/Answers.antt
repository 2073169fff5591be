-- The chain counts the first n, and all where there are no more.
use Rattle.std.proofs.Common.{◌≡◌, take, length, ap, sym, ◌∙◌, rules, tests}
use Rattle.std.specs.List.{count_by, filter}
use Rattle.std.proofs.lemmas.Iterator.{YieldsList-from_slice, YieldsList-from_take}
use Rattle.std.proofs.lemmas.Iterator.Consumers.{YieldsList-at, YieldsList-from_filter, count_from_yields_List}
use Rattle.std.proofs.lemmas.List.{take_min}
use Rattle.std.proofs.lemmas.List.Sums.{length-filter}
use Rattle.verdicts.specs.Row.{is_faulted, faulted_in}
use Rattle.verdicts.proofs.report.Goals as goal

pub returns : goal.returns
unfolding faulted_in
returns c =
    let row = c.args.row.now in
    let counted : c.count.result ≡ length (filter is_faulted (take c.args.n row)) =
    count_from_yields_List c.filter.result _ c.count.ensures.ran
    (YieldsList-from_filter _ is_faulted (YieldsList-at c.filter.ensures.source (YieldsList-from_take c.args.n (YieldsList-from_slice row cc) c.take.ensures.count))
    c.filter.ensures.closure (λ x r q k. search (rules, tests))) in
    counted ∙ length-filter is_faulted (take c.args.n row) ∙ ap (count_by is_faulted) (sym (take_min c.args.n row))
