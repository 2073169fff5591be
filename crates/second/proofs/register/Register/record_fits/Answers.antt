-- Each kind of record by its own tests.
use Rattle.std.proofs.Common.{ap, sym, ◌∙◌, arith, List, ℕ}
use lib.Dec.{eqb→eq}
use Rattle.laws.proofs.Bools.{eq→eqb, true_t}
use Rattle.second.specs.Second.{first_met, class_tests}
use Rattle.second.proofs.ByKind.{class_is, implements_is, field_is, local_is, uses_is, builds_is, member_is, refers_is}
use Rattle.second.proofs.register.Register.record_fits.Goals as goal

pub returns-in-Class : goal.returns-in-Class
returns-in-Class c =
    let p = c.args.self.now.sheets.now in
    let e = c.requires.first (eq→eqb c.in-Class.ensures.0) in
    c.class_fits.ensures
    ∙ ap (λ (r : List ℕ). first_met (class_tests p c.args.c c.in-Class.head r)) (sym e)
    ∙ class_is _ _ _ (omega (arith, c.requires.marked.long)) c.in-Class.ensures.0 c.in-Class.ensures.1

pub returns-in-Implements : goal.returns-in-Implements
returns-in-Implements c = c.implements_fits.ensures ∙ implements_is _ _ _ c.in-Implements.ensures.0 c.in-Implements.ensures.1

pub returns-in-Field : goal.returns-in-Field
returns-in-Field c = c.field_fits.ensures ∙ field_is _ _ _ c.in-Field.ensures.0 c.in-Field.ensures.1 c.in-Field.ensures.2

pub returns-in-Local : goal.returns-in-Local
returns-in-Local c = c.type_there.ensures ∙ local_is _ _ _ c.in-Local.ensures.0 c.in-Local.ensures.1

pub returns-in-Uses : goal.returns-in-Uses
returns-in-Uses c = c.uses_fits.ensures c.args.c c.requires.marked ∙ uses_is _ _ _ c.in-Uses.ensures.0 c.in-Uses.ensures.1 c.in-Uses.ensures.2

pub returns-in-Builds : goal.returns-in-Builds
returns-in-Builds c = c.there.ensures ∙ builds_is _ _ _ c.in-Builds.ensures.0 c.in-Builds.ensures.1

pub returns-in-Member : goal.returns-in-Member
returns-in-Member c = member_is _ _ _ c.in-Member.ensures.0

pub returns-in-Refers : goal.returns-in-Refers
returns-in-Refers c = c.index_there.ensures ∙ refers_is _ _ _ c.in-Refers.ensures.0 c.in-Refers.ensures.1 c.in-Refers.ensures.2

pub returns-then-is : goal.returns-then-is
returns-then-is c = member_is _ _ _ (eqb→eq _ _ (true_t (sym c.is.ensures ∙ c.if-is.true)))
