use Rattle.std.proofs.Common.{ap, ◌∙◌, arith, ℕ, replicate, ◌≡◌}
use Rattle.spec.specs.Index.{index_of, names_index}
use Rattle.sheets.specs.Sheets.{groups, count}
use Rattle.theory.proofs.Indexing.{home_low}
use Rattle.names.proofs.Filling.{enters}
use Rattle.names.proofs.fill.Goals as goal

pub loop-class-init : goal.loop-class-init
unfolding index_of
loop-class-init c = c.fill.ensures.after (λ y e. e) ∙ ap (λ (n : ℕ). replicate n 65535) c.requires

pub enter-requires-clause-low : goal.enter-requires-clause-low
enter-requires-clause-low c = omega (arith, home_low c.name.result.now, c.home.ensures)

pub loop-class-preserved : goal.loop-class-preserved
loop-class-preserved c = enters (groups c.args.sheets.now) c.group.ensures c.name.ensures c.loop-class.invariant c.home.ensures c.enter.ensures

pub returns : goal.returns
unfolding names_index
returns c =
    c.loop-class.invariant ∙ ap (index_of (groups c.args.sheets.now)) (let e : c.loop-class.class ≡ count c.args.sheets.now = omega (arith, c.loop-class-test.false) in e)
