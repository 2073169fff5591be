-- Rule 9's second part, by what the CLASS record says.
-- Assumes nothing.
use mathlib.Core.Path.{◌≡◌, refl, sym, ap, ap₂, ◌∙◌}
use mathlib.Core.Bool.{Bool, true, false, not, ◌&&◌, ◌||◌, or-false}
use mathlib.Core.List.{List, [], ◌∷◌, append-nil}
use Prim.Native.Nat.{ℕ, ◌/◌, ◌%◌, ◌<◌}
use lib.Dec.{eqb}
use lib.ListN.{get_or}
use borrow.Author.Tests.{eq-eqb, ne_eqb}
use Rattle.std.specs.Prelude.{Option, None, Some, is_some}
use Rattle.std.specs.Option.{unwrap_or}
use Rattle.spec.specs.Lists.{any, gather}
use Rattle.spec.specs.Record.{bit, none16, flags, superclass, unless_none}
use Rattle.spec.specs.Sheet.{Group, class_record}
use Rattle.spec.specs.Markers.{Selfless}
use Rattle.spec.specs.Classes.{superclasses, has_marker}
use Rattle.spec.specs.Rules.{base_fits}
use Rattle.theory.proofs.Form.{one_record, group_one_class}
use Rattle.records.specs.declared.record.Head.{Head}
use Rattle.records.specs.Kinds.{optional, head_of}
use Rattle.records.proofs.Optional.{get, number_is}
use Rattle.sheets.specs.Sheets.{Pair, count, groups}
use Rattle.overlay.specs.Types.{Known}
use Rattle.slots.specs.Slots.{base_breaks, base_by}

-- ---- as the code finds it

module _ (head : Head) (markers : List ℕ) where
  module _ {s : ℕ} (e : s ≡ unwrap_or head.superclass none16) {m : ℕ} (em : m ≡ get_or markers s 0) {y : Bool} (ey : y ≡ eqb (m / 4 % 2) 1) where
    has : bit Selfless (get_or markers s 0) ≡ y
    unfolding bit
    has = sym (ey ∙ ap (λ (i : ℕ). eqb (i / 4 % 2) 1) em)

    pub base_selfless : y ≡ true → false ≡ base_by head markers
    base_selfless h = rw (← e, has, h)

    pub base_other : y ≡ false → (s ≡ 0 → ⊥) → true ≡ base_by head markers
    base_other h n = rw (← e, has, h, ne_eqb s 0 n)

    pub base_zero : y ≡ false → s ≡ 0 → {b : Bool} → b ≡ (bit 2 head.flags && bit 3 head.flags && not (bit 4 head.flags)) → not b ≡ base_by head markers
    base_zero h z q = rw (← e, has, h, eq-eqb s 0 z) (ap not q)

-- ---- as the definition has it

pub back : (n : ℕ) → unwrap_or (optional n) none16 ≡ n
back n = same (optional n) ∙ number_is n
  where
    same : (o : Option ℕ) → unwrap_or o none16 ≡ get 65535 o
    same None = refl
    same (Some c) = refl

-- a class that there may be, asked as a list of at most one
pub asked : (p : ℕ → Bool) (n : ℕ) → any (λ x. not (p x)) (unless_none n) ≡ (is_some (optional n) && not (p n))
unfolding any unless_none
asked p n = go (eqb n none16)
  where
    go : (b : Bool) → any (λ x. not (p x)) (elim b as (λ (_ : Bool). List ℕ) [ true ↦ [] | false ↦ n ∷ [] ])
        ≡ (is_some (elim b as (λ (_ : Bool). Option ℕ) [ true ↦ None | false ↦ Some n ]) && not (p n))
    go true = refl
    go false = or-false (not (p n))

module _ (p : Pair) {c : ℕ} (there : c < count p) {head : Head} (e : head ≡ head_of (class_record (groups p c))) {markers : List ℕ} (k : Known (groups p) markers) where
  -- without a superclass the definition asks nothing
  pub base_is : base_breaks (groups p) c ≡ (is_some head.superclass && base_by head markers)
  unfolding base_breaks superclasses gather base_fits has_marker
  base_is =
      let g : ℕ → Group = groups p in
      let r : List ℕ = class_record (g c) in
      let fits : ℕ → Bool = base_fits g (flags r) in
      ap (λ (rs : Group). any (λ s. not (fits s)) (gather (λ r. unless_none (superclass r)) rs)) (one_record (g c) (group_one_class p.library p.user c there))
      ∙ ap (any (λ s. not (fits s))) (append-nil (unless_none (superclass r)))
      ∙ asked fits (superclass r)
      ∙ ap₂ (λ (f : ℕ → Bool) (s : ℕ). is_some (optional (superclass r)) && not (f s))
      (λ i s. ap (λ (m : ℕ). bit Selfless m || (eqb s 0 && bit 2 (flags r) && bit 3 (flags r) && not (bit 4 (flags r)))) (sym (k.is s)) i) (sym (back (superclass r)))
      ∙ ap (λ (h : Head). is_some h.superclass && base_by h markers) (sym e)
