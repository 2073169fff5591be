use mathlib.Core.Path.{◌≡◌, sym, ap, ◌∙◌}
use mathlib.Core.Bool.{not}
use Prim.Native.Nat.{ℕ, ◌/◌, ◌%◌}
use native.Mathlib.Omega.{arith}
use lib.Dec.{eqb}
use Rattle.spec.specs.Record.{bit, field_ty}
use Rattle.spec.specs.Markers.{Powerless}
use Rattle.records.specs.declared.record.Ty.{Ty}
use Rattle.records.specs.Kinds.{spec_ty}
use Rattle.overlay.specs.Types.{type_markers, row_markers}
use Rattle.records.proofs.Bodies.{is_not, not_field}
use Rattle.overlay.proofs.Types.{row_markers_lem, satisfies_bit}
use Rattle.breaks.proofs.Statics.{no_field, instance_field, changing, typed}
use Rattle.breaks.proofs.early.static_breaks.Goals as goal

pub returns-in_default : goal.returns-in_default
returns-in_default c g w = no_field g c.args.record.now (is_not c.args.record.now c.body.result c.body.ensures (not_field c.body.result c.in_default.not-Field))

pub returns-then-not-has_flag : goal.returns-then-not-has_flag
returns-then-not-has_flag c g w = let q = c.in-Field.ensures in instance_field g c.args.record.now q.0 q.1 (sym c.has_flag.ensures ∙ c.if-not-has_flag.true)

pub returns-then-not-has_flag-2 : goal.returns-then-not-has_flag-2
returns-then-not-has_flag-2 c g w =
    let q = c.in-Field.ensures in
    ap not c.if-not-has_flag-2.true ∙ changing g c.args.record.now q.0 q.1 (sym c.has_flag.ensures ∙ c.if-not-has_flag.false) (sym c.has_flag-2.ensures ∙ c.if-not-has_flag-2.true)

pub returns-else-not-has_flag-2 : goal.returns-else-not-has_flag-2
unfolding bit
returns-else-not-has_flag-2 c g w =
    let q = c.in-Field.ensures in
    let t = field_ty c.args.record.now in
    let m : c.type_markers.result ≡ type_markers g t = c.type_markers.ensures ∙ ap (λ (y : Ty). row_markers c.args.markers.now (spec_ty y)) q.2 ∙ row_markers_lem w t in
    typed g c.args.record.now q.0 q.1 (sym c.has_flag.ensures ∙ c.if-not-has_flag.false) (sym c.has_flag-2.ensures ∙ c.if-not-has_flag-2.false)
    (c.has.ensures ∙ ap (λ (x : ℕ). eqb (x / 2 % 2) 1) m ∙ sym (satisfies_bit g Powerless t (omega arith)))
