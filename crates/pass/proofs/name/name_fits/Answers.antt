use Rattle.std.proofs.Common.{◌≡◌, ◌/◌, length, sym, ◌∙◌, ap, arith, rules}
use Rattle.std.proofs.lemmas.Iterator.{YieldsList-from_slice}
use Rattle.std.proofs.lemmas.Iterator.Search.{all_from_yields_List}
use Rattle.std.specs.List.{list_all}
use Rattle.std.specs.Simd.{first_chunks}
use borrow.Author.Tests.{tests}
use Rattle.spec.specs.Record.{name_fits}
use Rattle.pass.proofs.Names.{fits, ones, eights, fours}
use Rattle.pass.proofs.name.name_fits.Goals as goal
use Rattle.pass.proofs.name.name_fits.Goals.{After-all}

chunks : (c : After-all) → c.all.result ≡ list_all name_fits (first_chunks 8 (length c.args.name.now / 8) c.args.name.now)
chunks c = all_from_yields_List name_fits _ _ c.all.result c.all.ensures.ran (YieldsList-from_slice _ cc) (λ x b q k. search (rules, tests))

pub returns-then-all : goal.returns-then-all
returns-then-all c =
    let e = sym (chunks (goal.at.returns-then-all c).After-all) ∙ c.if-all.true in
    c.eight_fit.ensures ∙ ap name_fits c.in-Some.ensures.cases.1.same ∙ rw e at (eights c.args.name.now c.in-Some.ensures.cases.0)

pub returns-else-all : goal.returns-else-all
returns-else-all c =
    let e = sym (chunks (goal.at.returns-else-all c).After-all) ∙ c.if-all.false in
    c.if-all.false ∙ rw e at (eights c.args.name.now c.in-Some.ensures.cases.0)

pub returns-in-Some-Some : goal.returns-in-Some-Some
returns-in-Some-Some c =
    c.eight_fit-in-Some-Some.ensures
    ∙ fours _ _ _ (omega (arith, c.in-Some-Some.ensures.cases.enough)) (omega (arith, c.in_default.ensures)) c.in-Some-Some.ensures.cases.same c.in-Some-Some.ensures'.cases.1.same

pub returns : goal.returns
returns c = all_from_yields_List fits _ _ c.all-2.result c.all-2.ensures.ran (YieldsList-from_slice c.args.name.now cc) (λ x b q k. search (rules, tests)) ∙ ones c.args.name.now
