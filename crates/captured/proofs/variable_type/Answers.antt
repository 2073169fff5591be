-- The variable that is picked is there.
use Rattle.std.proofs.Common.{rules, ◌≡◌, ◌∙◌, refl, sym, [], get_or, Some}
use Rattle.std.proofs.lemmas.Iterator.Adapters.{option_map_id}
use Rattle.std.proofs.lemmas.Iterator.Consumers.{YieldsList-from_first, YieldsList-from_filter_map, YieldsList-at, nth_from_yields_List}
use borrow.Author.Tests.{tests}
use Rattle.spec.specs.Record.{LOCAL, local_ty}
use Rattle.spec.specs.Sheet.{of_kind}
use Rattle.records.specs.Kinds.{ty_of}
use Rattle.captured.proofs.Picking.{picked_of, nth_of}
use Rattle.captured.proofs.variable_type.Goals as goal
use Rattle.captured.proofs.variable_type.Goals.{After-nth}

found : (c : After-nth) → c.nth.result ≡ Some (ty_of (local_ty (get_or (of_kind LOCAL c.args.group.now) c.args.i [])))
found c =
    sym (option_map_id c.nth.result)
    ∙ nth_from_yields_List _ _ _ c.nth.ensures.ran
    (YieldsList-from_filter_map _ (picked_of LOCAL (λ r. ty_of (local_ty r)))
    (YieldsList-at c.filter_map.ensures.source (YieldsList-from_first (λ r. r) (λ rs. rs) c.args.group.now c.records.ensures.records))
    c.filter_map.ensures.closure (λ x r q k. search (rules, tests)))
    ∙ nth_of LOCAL (λ r. ty_of (local_ty r)) c.args.group.now c.args.i c.requires

pub unwrap-requires : goal.unwrap-requires
unwrap-requires c = rw (found c) refl

pub returns : goal.returns
returns c = let e = found (goal.at.returns c).After-nth in search rules
