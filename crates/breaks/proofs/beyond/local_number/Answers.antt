-- The LOCAL that is picked is there.
use Rattle.std.proofs.Common.{rules, ◌≡◌, ◌∙◌, refl, sym, [], get_or, Some}
use Rattle.std.proofs.lemmas.Iterator.Adapters.{option_map_id}
use Rattle.std.proofs.lemmas.Iterator.Consumers.{YieldsList-from_first, YieldsList-from_enumerate, YieldsList-from_filter_map, YieldsList-at, nth_from_yields_List}
use borrow.Author.Tests.{tests}
use Rattle.spec.specs.Classes.{locals}
use Rattle.breaks.proofs.Locals.{number_of, nth_number}
use Rattle.breaks.proofs.beyond.local_number.Goals as goal
use Rattle.breaks.proofs.beyond.local_number.Goals.{After-nth}

found : (c : After-nth) → c.nth.result ≡ Some (get_or (locals c.args.group.now) c.args.i (0, [])).0
found c =
    sym (option_map_id c.nth.result)
    ∙ nth_from_yields_List _ _ _ c.nth.ensures.ran
    (YieldsList-from_filter_map _ number_of
    (YieldsList-at c.filter_map.ensures.source
    (YieldsList-from_enumerate (YieldsList-at c.enumerate.ensures.source (YieldsList-from_first (λ r. r) (λ rs. rs) c.args.group.now c.records.ensures.records)) c.enumerate.ensures.count))
    c.filter_map.ensures.closure (λ x r q k. search (rules, tests)))
    ∙ nth_number c.args.group.now c.args.i c.requires

pub unwrap-requires : goal.unwrap-requires
unwrap-requires c = rw (found c) refl

pub returns : goal.returns
returns c = let e = found (goal.at.returns c).After-nth in search rules
