-- A static field, by its flags and the markers of its type.
-- Assumes nothing.
use mathlib.Core.Path.{◌≡◌, refl, sym, ap, ◌∙◌}
use mathlib.Core.Bool.{Bool, true, false, not, ◌&&◌}
use mathlib.Core.List.{List}
use Prim.Native.Nat.{ℕ}
use borrow.Author.Tests.{eq-eqb}
use Rattle.spec.specs.Record.{bit, kind, is_kind, FIELD, flags, is_final, is_static, field_ty}
use Rattle.spec.specs.Sheet.{Group, is_static_field}
use Rattle.spec.specs.Markers.{Powerless}
use Rattle.spec.specs.Classes.{satisfies}
use Rattle.spec.specs.Rules.{static_breaks}

module _ (g : ℕ → Group) (r : List ℕ) where
  pub no_field : is_kind FIELD r ≡ false → false ≡ static_breaks g r
  unfolding is_static_field
  no_field e = sym (ap (λ (b : Bool). (b && is_static r) && not (is_final r && satisfies g Powerless (field_ty r))) e)

  module _ {f : ℕ} (k : kind r ≡ 3) (e : f ≡ flags r) where
    by_bits : (a b : Bool) → bit 2 f ≡ a → bit 0 f ≡ b → static_breaks g r ≡ (a && not (b && satisfies g Powerless (field_ty r)))
    unfolding is_static_field is_static is_final
    by_bits a b ea eb = rw (eq-eqb (kind r) 3 k, ← e, ea, eb)

    pub instance_field : bit 2 f ≡ false → false ≡ static_breaks g r
    instance_field s = sym (by_bits false _ s refl)

    module _ (s : bit 2 f ≡ true) where
      pub changing : bit 0 f ≡ false → true ≡ static_breaks g r
      changing o = sym (by_bits true false s o)

      pub typed : bit 0 f ≡ true → {b : Bool} → b ≡ satisfies g Powerless (field_ty r) → not b ≡ static_breaks g r
      typed o eb = ap not eb ∙ sym (by_bits true true s o)
