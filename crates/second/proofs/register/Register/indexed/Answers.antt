use Rattle.std.proofs.Common.{sym, ◌∙◌, rules}
use denote.Enum.Bare.{same_true, same_false}
use Rattle.refusals.specs.contracts.Side.{the_type}
use Rattle.second.proofs.Asking.{indexed_here, indexed_none}
use Rattle.second.proofs.register.Register.indexed.Goals as goal

pub returns-then-eq : goal.returns-then-eq
returns-then-eq c =
    let e = same_true the_type (search rules) _ _ (sym c.eq.ensures ∙ c.if-eq.true) in
    c.from.ensures ∙ indexed_here c.args.self.now.heads c.args.class c.requires c.args.side (rw e at c.side.ensures) _

pub returns-else-eq : goal.returns-else-eq
returns-else-eq c = indexed_none c.args.self.now.heads c.args.class c.requires c.args.side c.side.result c.side.ensures (same_false the_type _ _ (sym c.eq.ensures ∙ c.if-eq.false))
