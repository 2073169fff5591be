-- Sets of markers bit by bit: those that a slot, a root, an encloser and captured variables pass.
-- Assumes nothing.
use mathlib.Core.Path.{◌≡◌, refl, sym, ap, ap₂, ◌∙◌}
use mathlib.Core.Bool.{Bool, true, false, not, ◌&&◌, ◌||◌, and-true, and-false, and_assoc, or-true, or-false}
use mathlib.Core.List.{List, [], ◌∷◌}
use Prim.Native.Nat.{ℕ, ◌-◌, ◌^◌}
use lib.ListN.{get_or}
use borrow.Author.Tests.{eq-eqb, ne_eqb}
use Rattle.std.specs.Prelude.{None}
use Rattle.std.specs.Option.{unwrap_or}
use Rattle.spec.specs.Record.{bit, none16}
use Rattle.spec.specs.Sheet.{Group}
use Rattle.spec.specs.Markers.{union}
use Rattle.spec.specs.Classes.{overlay, has_marker}
use Rattle.spec.specs.Rules.{root_fits}
use Rattle.theory.proofs.Closure.{bit_union}
use Rattle.records.specs.declared.record.Head.{Head}
use Rattle.overlay.specs.Types.{Known}
use Rattle.captured.specs.declared.Lane.{Lane}
use Rattle.captured.specs.declared.Lane.TheVariants as lane
use Rattle.captured.specs.Captured.{lane_marker}
use Rattle.captured.proofs.Lowering.{all_lanes}
use Rattle.slots.specs.declared.Late.{Late}
use Rattle.slots.specs.declared.Late.TheVariants.{Immutable, Powerless, Selfless, DeepSelfless}
use Rattle.slots.specs.Slots.{rule_marker, root_breaks, Passes, slot_by, RootSet, encloser_has, unenclosed, encloser_by, lane_shows, captured_by, lane_by}

pub twice : (b : Bool) → not (not b) ≡ b
twice true = refl
twice false = refl

-- ---- the four rules

pub late_cases : (P : Late → Type 0) → P Immutable → P Powerless → P Selfless → P DeepSelfless → (rule : Late) → P rule
late_cases P a b c d Immutable = a
late_cases P a b c d Powerless = b
late_cases P a b c d Selfless = c
late_cases P a b c d DeepSelfless = d

module _ {P : Late → Bool} where
  pub passes_of : {set : ℕ} → bit 0 set ≡ P Immutable → bit 1 set ≡ P Powerless → bit 2 set ≡ P Selfless → bit 7 set ≡ P DeepSelfless → Passes P set
  passes_of {set} a b c d = record { is = late_cases (λ rule. bit (rule_marker rule) set ≡ P rule) a b c d }

  pub passes_all : ((rule : Late) → P rule ≡ true) → Passes P 255
  unfolding bit
  passes_all h = passes_of (sym (h Immutable)) (sym (h Powerless)) (sym (h Selfless)) (sym (h DeepSelfless))

  pub passes_as : {Q : Late → Bool} {set : ℕ} → Passes P set → ((rule : Late) → P rule ≡ Q rule) → Passes Q set
  passes_as p e = record { is = λ rule. p.is rule ∙ e rule }

  pub passes_both : {Q : Late → Bool} {a b : ℕ} → Passes P a → Passes Q b → {r : ℕ} → ((k : ℕ) → bit k r ≡ (bit k a && bit k b)) → Passes (λ rule. P rule && Q rule) r
  passes_both p q e = record { is = λ rule. e (rule_marker rule) ∙ ap₂ (λ (x y : Bool). x && y) (p.is rule) (q.is rule) }

-- Selfless joined to a set: its rule asks no type
module _ (m : ℕ) {r : ℕ} (e : r ≡ union m 4) where
  pub joined : (k : ℕ) → bit k 4 ≡ false → bit k r ≡ bit k m
  joined k z = ap (bit k) e ∙ bit_union k m 4 ∙ ap (λ (b : Bool). bit k m || b) z ∙ or-false (bit k m)

  pub joined_selfless : bit 2 r ≡ true
  unfolding bit
  joined_selfless = ap (bit 2) e ∙ bit_union 2 m 4 ∙ or-true (bit 2 m)

-- ---- a slot

module _ (f m r : ℕ) where
  pub slot_changing : ((k : ℕ) → bit k r ≡ (bit k m && bit k 130)) → bit 0 f ≡ false → Passes (slot_by f m) r
  unfolding bit
  slot_changing e h = passes_of {P = slot_by f m} (e 0 ∙ and-false (bit 0 m) ∙ rw h) (e 1 ∙ and-true (bit 1 m)) (e 2 ∙ and-false (bit 2 m) ∙ rw h) (e 7 ∙ and-true (bit 7 m))

  module _ (h : bit 0 f ≡ true) where
    pub slot_transient : ((k : ℕ) → bit k r ≡ (bit k m && bit k 251)) → bit 1 f ≡ true → Passes (slot_by f m) r
    unfolding bit
    slot_transient e o =
        passes_of {P = slot_by f m} (e 0 ∙ and-true (bit 0 m) ∙ rw h) (e 1 ∙ and-true (bit 1 m)) (e 2 ∙ and-false (bit 2 m) ∙ rw (h, o)) (e 7 ∙ and-true (bit 7 m))

    pub slot_final : r ≡ union m 4 → bit 1 f ≡ false → Passes (slot_by f m) r
    unfolding bit
    slot_final e o = passes_of {P = slot_by f m} (joined m e 0 refl ∙ rw h) (joined m e 1 refl) (joined_selfless m e ∙ rw (h, o)) (joined m e 7 refl)

-- ---- a root

pub root_zero : {row : List ℕ} {d : ℕ} → d ≡ 0 → RootSet row d 255
unfolding root_fits
root_zero {row} {d} e = record { is = λ g k. passes_all (late_cases (λ rule. not (root_breaks g rule d) ≡ true) (rw (eq-eqb d 0 e)) (rw (eq-eqb d 0 e)) refl (rw (eq-eqb d 0 e))) }

pub root_other : {row : List ℕ} {d m r : ℕ} → (d ≡ 0 → ⊥) → m ≡ get_or row d 0 → r ≡ union m 4 → RootSet row d r
unfolding bit root_fits has_marker
root_other {row} {d} {m} {r} n em e =
    record { is = λ g w. passes_of {P = λ rule. not (root_breaks g rule d)} (joined m e 0 refl ∙ fits g w 0) (joined m e 1 refl ∙ fits g w 1) (joined_selfless m e) (joined m e 7 refl ∙ fits g w 7) }
  where
    fits : (g : ℕ → Group) → Known g row → (k : ℕ) → bit k m ≡ not (not (root_fits g k d))
    fits g w k = ap (bit k) (em ∙ w.is d) ∙ sym (twice (bit k (overlay g d))) ∙ rw (ne_eqb d 0 n)

-- ---- an encloser

module _ (head : Head) (row : List ℕ) where
  pub encloser_outer : bit 1 head.flags ≡ false → Passes (encloser_by head row) 255
  encloser_outer h = passes_all (late_cases (λ rule. encloser_by head row rule ≡ true) (rw h) (rw h) refl (rw h))

  -- where no encloser is named none fails
  pub encloser_none : head.encloser ≡ None → Passes (λ rule. encloser_by head row rule || unenclosed head) 255
  encloser_none h = passes_all (late_cases (λ rule. (encloser_by head row rule || unenclosed head) ≡ true) (all 0) (all 1) refl (all 7))
    where
      free : (b x : Bool) → ((not b || x) || (b && true)) ≡ true
      free true x = or-true x
      free false x = refl

      all : (k : ℕ) → (encloser_has head row k || unenclosed head) ≡ true
      all k = rw h (free (bit 1 head.flags) (bit k (get_or row none16 0)))

  pub encloser_inner : {e : ℕ} → e ≡ unwrap_or head.encloser none16 → bit 1 head.flags ≡ true → {m r : ℕ} → m ≡ get_or row e 0 → r ≡ union m 4 → Passes (encloser_by head row) r
  unfolding bit
  encloser_inner {e} h o {m} {r} em q = passes_of {P = encloser_by head row} (joined m q 0 refl ∙ has 0) (joined m q 1 refl ∙ has 1) (joined_selfless m q) (joined m q 7 refl ∙ has 7)
    where
      has : (k : ℕ) → bit k m ≡ encloser_has head row k
      has k = rw (← h, o) (ap (bit k) em)

-- ---- captured variables

-- the set of one lane
masked : (k : ℕ) → bit k 255 ≡ true → (x : Bool) (mask : ℕ) → bit k (elim x as (λ (_ : Bool). ℕ) [ true ↦ mask | false ↦ 255 ]) ≡ (not x || bit k mask)
masked k e true mask = refl
masked k e false mask = e

module _ (row : List ℕ) (t : ℕ) where
  -- none of these lanes shows that the marker is lacking
  abbrev pub left_by : List Lane → ℕ → Bool
  left_by [] k = true
  left_by (lane ∷ lanes) k = bit k (lane_by row t lane) && left_by lanes k

  -- the set and the lanes that are left tell of all
  pub record Passing (set : ℕ) (left : List Lane) : Type 0 where
    pub is : (rule : Late) → captured_by row t rule ≡ (bit (rule_marker rule) set && left_by left (rule_marker rule))

  pub lanes_start : Passing 255 all_lanes
  unfolding bit lane_by
  lanes_start = record {
    is = late_cases (λ rule. captured_by row t rule ≡ (bit (rule_marker rule) 255 && left_by all_lanes (rule_marker rule)))
        (sym (three 0 refl ∙ one (lane_shows row t lane.Immutable) (lane_shows row t lane.Powerless) (lane_shows row t lane.DeepSelfless)))
        (sym (three 1 refl ∙ two (lane_shows row t lane.Immutable) (lane_shows row t lane.Powerless) (lane_shows row t lane.DeepSelfless)))
        (sym (three 2 refl ∙ none (lane_shows row t lane.Immutable) (lane_shows row t lane.Powerless) (lane_shows row t lane.DeepSelfless)))
        (sym (three 7 refl ∙ last (lane_shows row t lane.Immutable) (lane_shows row t lane.Powerless) (lane_shows row t lane.DeepSelfless)));
  }
    where
      of : (k : ℕ) → bit k 255 ≡ true → (lane : Lane) → bit k (lane_by row t lane) ≡ (not (lane_shows row t lane) || bit k (255 - 2 ^ lane_marker lane))
      of k e lane = masked k e (lane_shows row t lane) (255 - 2 ^ lane_marker lane)

      three : (k : ℕ) → bit k 255 ≡ true → (bit k 255 && left_by all_lanes k)
          ≡ ((not (lane_shows row t lane.Immutable) || bit k 254) && ((not (lane_shows row t lane.Powerless) || bit k 253) && (not (lane_shows row t lane.DeepSelfless) || bit k 127)))
      three k e =
          ap₂ (λ (p q : Bool). p && q) e
          (ap₂ (λ (p q : Bool). p && q) (of k e lane.Immutable) (ap₂ (λ (p q : Bool). p && q) (of k e lane.Powerless) (and-true _ ∙ of k e lane.DeepSelfless)))

      one : (x y z : Bool) → ((not x || false) && ((not y || true) && (not z || true))) ≡ not x
      one x y z = rw (or-false (not x), or-true (not y), or-true (not z), and-true (not x))

      two : (x y z : Bool) → ((not x || true) && ((not y || false) && (not z || true))) ≡ not y
      two x y z = rw (or-true (not x), or-false (not y), or-true (not z), and-true (not y))

      none : (x y z : Bool) → ((not x || true) && ((not y || true) && (not z || true))) ≡ true
      none x y z = rw (or-true (not x), or-true (not y), or-true (not z))

      last : (x y z : Bool) → ((not x || true) && ((not y || true) && (not z || false))) ≡ not z
      last x y z = rw (or-true (not x), or-true (not y), or-false (not z))

module _ {row : List ℕ} {t set : ℕ} where
  pub lanes_next : {left left' : List Lane} {lane : Lane} → Passing row t set left → left ≡ lane ∷ left' → {x : ℕ} → x ≡ lane_by row t lane → {r : ℕ} → ((k : ℕ) → bit k r ≡ (bit k set && bit k x))
      → Passing row t r left'
  lanes_next {left' = left'} {lane = lane} w e {x} ex {r} er = record {
    is = λ rule. w.is rule ∙ ap (λ (ls : List Lane). bit (rule_marker rule) set && left_by row t ls (rule_marker rule)) e ∙ step (rule_marker rule);
  }
    where
      step : (k : ℕ) → (bit k set && (bit k (lane_by row t lane) && left_by row t left' k)) ≡ (bit k r && left_by row t left' k)
      step k = rw (er k, ex) (sym (and_assoc (bit k set) (bit k (lane_by row t lane)) (left_by row t left' k)))

  pub lanes_end : {left : List Lane} → Passing row t set left → left ≡ [] → Passes (captured_by row t) set
  lanes_end w e = record { is = λ rule. sym (w.is rule ∙ ap (λ (ls : List Lane). bit (rule_marker rule) set && left_by row t ls (rule_marker rule)) e ∙ and-true (bit (rule_marker rule) set)) }
