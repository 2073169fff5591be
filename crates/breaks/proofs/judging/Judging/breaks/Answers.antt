use mathlib.Core.Path.{◌≡◌, sym, ◌∙◌}
use mathlib.Core.List.{List}
use Prim.Native.Nat.{ℕ}
use Rattle.theory.proofs.Form.{group_one_class}
use Rattle.records.specs.declared.record.Head.{Head}
use Rattle.records.specs.declared.record.Body.{Body}
use Rattle.records.specs.declared.record.Body.TheVariants.{Class}
use Rattle.records.specs.Kinds.{Reads}
use Rattle.records.proofs.Bodies.{reads_kind, not_class}
use Rattle.sheets.specs.Sheets.{Pair}
use Rattle.breaks.specs.declared.breaking.Step.{Step}
use Rattle.breaks.specs.Steps.{AtStep}
use Rattle.breaks.proofs.Places.{refers_there, first_class}
use Rattle.breaks.proofs.judging.Judging.breaks.Goals as goal

-- the first record is a CLASS record
is_head : (p : Pair) {step : Step} {r : List ℕ} → AtStep p step r → step.number ≡ 0 → (b : Body) → Reads r b → ((h : Head) → b ≡ Class h → ⊥) → ⊥
is_head p {step} {r} s z b q n =
    not_class b n (sym (reads_kind r b q) ∙ first_class (group_one_class p.library p.user step.asked s.asked_there) s.standing z)

pub refers_forbidden-requires-clause-refers : goal.refers_forbidden-requires-clause-refers
refers_forbidden-requires-clause-refers c = refers_there c.args.self.now.formed.now.sheets c.args.self.now.formed.now.formed _ c.requires.standing

pub returns-in_default : goal.returns-in_default
returns-in_default c =
    absurd (is_head c.args.self.now.formed.now.sheets c.requires (c.requires.third c.in-Reserved.is) c.body.result c.body.ensures c.in_default.not-Class)

pub returns-in_default-body : goal.returns-in_default-body
returns-in_default-body c =
    absurd (is_head c.args.self.now.formed.now.sheets c.requires (c.requires.sixth c.in-LetsOut.is) c.body-in-LetsOut.result c.body-in-LetsOut.ensures c.in_default-body.not-Class)
