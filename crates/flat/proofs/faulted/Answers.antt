-- The chain counts the faulted ones of the first n lines.
use mathlib.Core.Path.{◌≡◌, ◌∙◌}
use lib.ListN.{take, length}
use borrow.Author.Tests.{tests}
use Rattle.std.proofs.Common.{rules}
use Rattle.std.specs.List.{filter}
use Rattle.std.proofs.lemmas.Iterator.{YieldsList-from_slice, YieldsList-from_take}
use Rattle.std.proofs.lemmas.Iterator.Consumers.{YieldsList-at, YieldsList-from_filter, count_from_yields_List}
use Rattle.flat.proofs.Counting.{is_faulted, faulted_is}
use Rattle.flat.proofs.faulted.Goals as goal

pub returns : goal.returns
returns c =
    let lines = c.as_chunks.result.0.now in
    let counted : c.count.result ≡ length (filter is_faulted (take c.args.n lines)) =
    count_from_yields_List c.filter.result _ c.count.ensures.ran
    (YieldsList-from_filter _ is_faulted (YieldsList-at c.filter.ensures.source (YieldsList-from_take c.args.n (YieldsList-from_slice lines cc) c.take.ensures.count))
    c.filter.ensures.closure (λ x r q k. search (rules, tests))) in
    counted ∙ faulted_is c.args.verdicts.now c.args.n c.as_chunks.ensures.front c.as_chunks.ensures.front_len
