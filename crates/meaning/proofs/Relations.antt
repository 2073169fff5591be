-- Each relation between classes goes over to groups that cover these ones, number by number. A record number may be another one, and so a place in the walk.
-- Assumes nothing.
use mathlib.Core.List.{List, [], ◌∷◌}
use Prim.Native.Nat.{ℕ}
use Rattle.spec.specs.Record.{Ty}
use Rattle.spec.specs.Sheet.{Group}
use Rattle.spec.specs.Relations.{Supertype, self, above, beside, Marked, own, given, Lineage, self as lineage_self, up, Root, Inside, direct, deeper, Chain, start, step, Captures}
use Rattle.spec.specs.Breaks.{Flag, Satisfies, object, primitive, SlotShape, OwnSlot, outer, instance, captured, HasSlot, of}
use Rattle.laws.proofs.Members.{at_in, in_at}
use Rattle.meaning.proofs.Covers.{Covers}

-- it holds somewhere, by place in the walk, class and record
abbrev pub Somewhere : (List ℕ → ℕ → ℕ → Type 0) → Type 0
Somewhere P = (w : List ℕ) × (d : ℕ) × (k : ℕ) × P w d k

pub flag_over : {g h : Group} → Covers g h → {k : ℕ} → Flag k g → Flag k h
flag_over o f = record { bytes = f.bytes; first = o.first f.first; set = f.set }

module _ (g h : ℕ → Group) (over : (c : ℕ) → Covers (g c) (h c)) where
  supertype_over : {c e : ℕ} → Supertype g c e → Supertype h c e
  supertype_over self = self
  supertype_over (above {d} s u) = above (supertype_over s) ((over d).superclass u)
  supertype_over (beside {d} s i) = beside (supertype_over s) ((over d).implements i)

  pub marked_over : {c k : ℕ} → Marked g c k → Marked h c k
  marked_over (own {d} s a l t) = own (supertype_over s) ((over d).first a) l t
  marked_over (given m n) = given (marked_over m) n

  pub satisfies_over : {k : ℕ} {t : Ty} → Satisfies g k t → Satisfies h k t
  satisfies_over (object d z m) = object d z (marked_over m)
  satisfies_over (primitive d z) = primitive d z

  inside_over : {d l : ℕ} → Inside g d l → Inside h d l
  inside_over (direct {l} e) = direct ((over l).encloser e)
  inside_over (deeper {l} e i) = deeper ((over l).encloser e) (inside_over i)

  chain_over : {d l m : ℕ} → Chain g d l m → Chain h d l m
  chain_over (start i) = start (inside_over i)
  chain_over (step {m} c b i) = step (chain_over c) ((over m).builds b) (inside_over i)

  captures_over : {l d i : ℕ} → Captures g l d i → Captures h l d i
  captures_over c = record { last = c.last; chain = chain_over c.chain; uses = (over c.last).uses c.uses }

  own_slot_over : {c d k : ℕ} {w : List ℕ} {s : SlotShape} → OwnSlot g c w d k s → Somewhere (λ w d k. OwnSlot h c w d k s)
  own_slot_over {c} (outer f e) = (0 ∷ [], c, 0, outer (flag_over (over c) f) ((over c).encloser e))
  own_slot_over {c} (instance a t f) = let p = in_at ((over c).field (at_in a) t) in (1 ∷ p.0 ∷ [], c, p.0, instance p.1 t f)
  own_slot_over (captured {d} {i} v n) = let p = (over d).local n in (2 ∷ d ∷ i ∷ [], d, p.0, captured (captures_over v) p.1)

  module _ (nlib : ℕ) where
    lineage_over : {c i t : ℕ} → Lineage nlib g c i t → Lineage nlib h c i t
    lineage_over lineage_self = lineage_self
    lineage_over (up {s} l u n) = up (lineage_over l) ((over s).superclass u) n

    pub root_over : {c d : ℕ} → Root nlib g c d → Root nlib h c d
    root_over r = record { height = r.height; last = r.last; line = lineage_over r.line; above = (over r.last).superclass r.above; library = r.library }

    pub slot_over : {c d k : ℕ} {w : List ℕ} {s : SlotShape} → HasSlot nlib g c w d k s → Somewhere (λ w d k. HasSlot nlib h c w d k s)
    slot_over (of {h = i} l o) = let p = own_slot_over o in (i ∷ p.0, p.1, p.2, of (lineage_over l) p.3)
