-- Rules 7 to 10 by sets of markers: an instance field.
-- Assumes nothing.
use mathlib.Core.Path.{◌≡◌, ap, ◌∙◌}
use mathlib.Core.Bool.{Bool, not}
use mathlib.Core.List.{List}
use Prim.Native.Nat.{ℕ, ◌/◌, ◌%◌, ◌^◌}
use lib.Dec.{eqb}
use Rattle.spec.specs.Sheet.{Group}
use Rattle.records.specs.declared.record.Ty.{Ty}
use Rattle.records.specs.declared.record.Body.TheVariants.{Field}
use Rattle.records.specs.Kinds.{Reads}
use Rattle.markers.proofs.Having.{has_is}
use Rattle.overlay.specs.Types.{Known}
use Rattle.slots.specs.declared.Late.{Late}
use Rattle.slots.specs.Slots.{rule_marker, field_breaks, FieldSet}
use Rattle.slots.proofs.Sets.{twice}
use Rattle.slots.proofs.Fields.{anywhere}

pub field_told : (g : ℕ → Group) {row : List ℕ} → Known g row → (rule : Late) (t k : ℕ) (r : List ℕ) {f : ℕ} {ty : Ty} → Reads r (Field f ty) → {set : ℕ} → FieldSet row f ty set
    → {s : ℕ} → s ≡ 2 ^ rule_marker rule → {b : Bool} → b ≡ eqb (set / s % 2) 1 → not b ≡ field_breaks g rule t k r
field_told g w rule t k r q {set} f es eb = ap not (has_is (rule_marker rule) set es eb ∙ (f.is r q g w).is rule) ∙ twice (field_breaks g rule 0 0 r) ∙ anywhere g rule t k r
