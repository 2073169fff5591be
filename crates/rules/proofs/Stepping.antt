-- The classes that a rule asks, one after the other, by what the code reads.
-- Assumes nothing.
use mathlib.Core.Path.{◌≡◌, sym, ap, ◌∙◌}
use mathlib.Core.Bool.{Bool, true, false, not, ◌||◌, and-false, and-true}
use mathlib.Core.List.{List}
use Prim.Native.Nat.{ℕ, ◌/◌, ◌%◌, ◌^◌}
use lib.Dec.{eqb, ltb}
use lib.ListN.{get_or}
use Rattle.spec.specs.Record.{bit, flags}
use Rattle.spec.specs.Sheet.{Group, class_record, is_interface}
use Rattle.spec.specs.Classes.{has_marker}
use Rattle.spec.specs.Rules.{judged_for}
use Rattle.markers.proofs.Having.{has_is}
use Rattle.overlay.specs.Types.{Known}
use Rattle.slots.specs.declared.Late.{Late as LateRule}
use Rattle.slots.specs.Slots.{rule_marker}
use Rattle.breaks.specs.declared.rule.Rule.{Rule}
use Rattle.breaks.specs.declared.rule.Rule.TheVariants.{Late}
use Rattle.breaks.specs.Breaking.{asks_first}
use Rattle.rules.specs.Walk.{only_first, applies}

module _ (g : ℕ → Group) (rule : LateRule) (c : ℕ) {row : List ℕ} {m set : ℕ} {b : Bool} (k : Known g row) (em : m ≡ get_or row c 0) (es : set ≡ 2 ^ rule_marker rule)
    (eb : b ≡ eqb (m / set % 2) 1) where
  marked : has_marker g (rule_marker rule) c ≡ b
  unfolding has_marker
  marked = sym (has_is (rule_marker rule) m es eb ∙ ap (bit (rule_marker rule)) (em ∙ k.is c))

  pub asks_unmarked : b ≡ false → false ≡ applies g (Late rule) c
  unfolding judged_for
  asks_unmarked e = sym (rw (marked, e) (and-false (not (is_interface (g c)))))

  pub asks_marked : b ≡ true → {i : Bool} → i ≡ bit 0 (flags (class_record (g c))) → not i ≡ applies g (Late rule) c
  unfolding judged_for is_interface
  asks_marked e ei = rw (marked, e, ei) (sym (and-true (not (bit 0 (flags (class_record (g c)))))))

-- a rule that asks the first record alone
pub only_asks : (nlib : ℕ) (rule : Rule) (t : ℕ) → asks_first rule ≡ true → only_first nlib rule t ≡ true
unfolding only_first
only_asks nlib rule t e = ap (λ (b : Bool). b || ltb t nlib) e
