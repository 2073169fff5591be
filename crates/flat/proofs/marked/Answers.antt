-- The chain counts the marks of the first n classes.
use mathlib.Core.Path.{◌≡◌, ◌∙◌}
use lib.ListN.{take, length}
use borrow.Author.Tests.{tests}
use Rattle.std.proofs.Common.{rules}
use Rattle.std.specs.List.{filter}
use Rattle.std.proofs.lemmas.Iterator.{YieldsList-from_slice, YieldsList-from_take}
use Rattle.std.proofs.lemmas.Iterator.Consumers.{YieldsList-at, YieldsList-from_filter, count_from_yields_List}
use Rattle.flat.proofs.Counting.{marked_is}
use Rattle.flat.proofs.marked.Goals as goal

pub returns : goal.returns
returns c =
    let marks = c.args.marks.now in
    let counted : c.count.result ≡ length (filter (λ m. m) (take c.args.n marks)) =
    count_from_yields_List c.filter.result _ c.count.ensures.ran
    (YieldsList-from_filter _ (λ m. m) (YieldsList-at c.filter.ensures.source (YieldsList-from_take c.args.n (YieldsList-from_slice marks cc) c.take.ensures.count))
    c.filter.ensures.closure (λ x r q k. search (rules, tests))) in
    counted ∙ marked_is marks c.args.n
