use mathlib.Core.Path.{ap, subst}
use mathlib.Core.Bool.{not}
use Prim.Native.Nat.{ℕ}
use Rattle.records.proofs.Bodies.{body_kind, is_of}
use Rattle.breaks.specs.Bans.{Partial}
use Rattle.breaks.proofs.Members.{refers_told, refers_open}
use Rattle.breaks.proofs.early.refers_forbidden.Goals as goal

pub returns-then-not-partial : goal.returns-then-not-partial
returns-then-not-partial c =
    refers_open c.requires.refers (is_of _ c.body.result c.body.ensures (ap body_kind c.in-Refers.is)) c.in-Refers.ensures.1 c.requires.bans
    (subst (λ (k : ℕ). Partial k c.args.banned.now c.in-Refers.class c.partial.result) c.library_count.ensures.count c.partial.ensures) (ap not c.if-not-partial.true)

pub returns : goal.returns
returns c =
    refers_told c.requires.refers (is_of _ c.body.result c.body.ensures (ap body_kind c.in-Refers.is)) c.in-Refers.ensures.1 c.in-Refers.ensures.2 c.group.ensures c.member_allowed.ensures
