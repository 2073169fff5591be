-- Captured variables: the first that the lanes show is the first that breaks the rule, and it sits at its LOCAL.
-- Assumes nothing.
use mathlib.Core.Path.{◌≡◌, refl, sym, ap, ap₂, ◌∙◌, subst}
use mathlib.Core.Bool.{Bool, true, false, not}
use mathlib.Core.List.{List, [], map}
use mathlib.Core.Logic.{inl, inr}
use Prim.Native.Nat.{ℕ, ◌/◌, ◌%◌, ◌≤◌, ◌<◌}
use native.Mathlib.Omega.{arith}
use lib.Dec.{ltb}
use lib.ListN.{length, get_or}
use borrow.Author.Tests.{lt-ltb, le-ltb}
use Rattle.std.specs.Prelude.{Option, None, Some}
use Rattle.spec.specs.Lists.{keep}
use Rattle.spec.specs.Sheet.{Group}
use Rattle.spec.specs.Classes.{variable_slot, locals, captured_slots}
use Rattle.spec.specs.Rules.{Fault, slot_fault}
use Rattle.captured.specs.declared.Lane.{Lane}
use Rattle.captured.specs.declared.Variable.{Variable}
use Rattle.captured.specs.Captured.{lane_marker, variable_of}
use Rattle.captured.proofs.Firsts.{variable_none, variable_some, First, none, some}
use Rattle.slots.specs.declared.Late.{Late as LateRule}
use Rattle.slots.specs.declared.Late.TheVariants as late
use Rattle.slots.specs.Slots.{slot_fits, base_breaks, captured_faults, late_lane}
use Rattle.slots.proofs.Heads.{Asks, LaneOf, asks, unasked, lane_asked, selfless_none}
use Rattle.breaks.specs.declared.rule.Rule.{Rule}
use Rattle.breaks.specs.declared.rule.Rule.TheVariants.{Late}
use Rattle.breaks.specs.Beyond.{first_fault, lane_of, captured_at, base_at}
use Rattle.breaks.proofs.LateRules.{EarlyOrLate, early_or_late}

-- ---- a rule and its lane

-- the rule asks slots, and of one that never changes the marker of the lane
pub record Laned (g : ℕ → Group) (rule : Rule) (lane : Lane) : Type 0 where
  pub late : LateRule
  pub is : rule ≡ Late late
  pub asks : Asks g late (lane_marker lane)

module _ (g : ℕ → Group) where
  late_laned : (l : LateRule) {lane : Lane} → late_lane l ≡ Some lane → Laned g (Late l) lane
  late_laned l {lane} e = go (lane_asked g l) e
    where
      go : {o : Option Lane} → LaneOf g l o → o ≡ Some lane → Laned g (Late l) lane
      go (asks {l = k} h) q = let same : k ≡ lane = cc in record { late = l; is = refl; asks = subst (λ (k : Lane). Asks g l (lane_marker k)) same h }
      go (unasked z) q = absurd (cc)

  pub laned : (rule : Rule) {lane : Lane} → lane_of rule ≡ Some lane → Laned g rule lane
  laned rule {lane} e = go (early_or_late rule)
    where
      go : EarlyOrLate rule → Laned g rule lane
      go (inl q) = absurd (let z : None ≡ Some lane = rw (q, lane_of) at e in cc)
      go (inr (l, q)) = subst (λ (r : Rule). Laned g r lane) (sym q) (late_laned l (rw q at e))

  -- without a lane no captured variable breaks the rule
  late_unlaned : (nlib : ℕ) (l : LateRule) (t : ℕ) → late_lane l ≡ None → None ≡ first_fault (captured_at nlib g (Late l) t)
  late_unlaned nlib l t e = go (lane_asked g l) e
    where
      nothing : (b : Bool) {fs : List Fault} → fs ≡ [] → None ≡ first_fault (elim b as (λ (_ : Bool). List Fault) [ true ↦ [] | false ↦ fs ])
      nothing true q = refl
      nothing false q = ap first_fault (sym q)

      go : {o : Option Lane} → LaneOf g l o → o ≡ None → None ≡ first_fault (captured_at nlib g (Late l) t)
      go (asks h) q = absurd (cc)
      go (unasked z) q = rw z (nothing (ltb t nlib) (selfless_none g t))

  pub unlaned : (nlib : ℕ) (rule : Rule) (t : ℕ) → lane_of rule ≡ None → None ≡ first_fault (captured_at nlib g rule t)
  unlaned nlib rule t e = go (early_or_late rule)
    where
      go : EarlyOrLate rule → None ≡ first_fault (captured_at nlib g rule t)
      go (inl q) = rw (q, captured_at) refl
      go (inr (l, q)) = rw q (late_unlaned nlib l t (rw q at e))

  -- rule 9 alone has a second part
  pub base_selfless : {rule : Rule} {l : LateRule} → rule ≡ Late l → l ≡ late.Selfless → (c : ℕ) → base_at g rule c ≡ base_breaks g c
  base_selfless e f c = rw (e, f)

  -- ---- a class

  -- of a root no captured variable is asked
  pub site_library : (nlib : ℕ) (rule : Rule) {lane : Lane} (t : ℕ) → lane_of rule ≡ Some lane → t < nlib → None ≡ first_fault (captured_at nlib g rule t)
  site_library nlib rule t e h = let l = laned rule e in rw (l.is, lt-ltb t nlib h, captured_at)

  user_faults : (nlib : ℕ) {rule : Rule} {late : LateRule} (t : ℕ) → rule ≡ Late late → nlib ≤ t → captured_at nlib g rule t ≡ captured_faults g late t
  user_faults nlib t e h = rw (e, le-ltb t nlib h, captured_at)

  module _ (nlib : ℕ) {rule : Rule} {lane : Lane} {t y : ℕ} (low : t < 256) (l : Laned g rule lane) (h : nlib ≤ t)
      (first : First g t y (keep (λ s. not (slot_fits g l.late s)) (captured_slots g t))) where
    pub site_none : variable_of y ≡ None → None ≡ first_fault (captured_at nlib g rule t)
    unfolding captured_faults
    site_none e = go first
      where
        go : First g t y (keep (λ s. not (slot_fits g l.late s)) (captured_slots g t)) → None ≡ first_fault (captured_at nlib g rule t)
        go (none z q) = sym (ap first_fault (user_faults nlib t l.is h ∙ ap (map slot_fault) q))
        go (some z d i w q) = absurd (let v = variable_some {y = y} (λ a. omega arith) in cc)

    -- the variable that the entry is
    pub record Sits (v : Variable) : Type 0 where
      pub lower : v.owner < t
      pub there : v.index < length (locals (g v.owner))
      pub is : Some (record { class = v.owner; record_number = (get_or (locals (g v.owner)) v.index (0, [])).0 }) ≡ first_fault (captured_at nlib g rule t)

    pub site_some : {v : Variable} → variable_of y ≡ Some v → Sits v
    unfolding captured_faults variable_slot slot_fault
    site_some {v} e = go first
      where
        read : variable_of y ≡ Some (record { owner = y / 256; index = y % 256 }) → record { owner = y / 256; index = y % 256 } ≡ v
        read u = cc

        go : First g t y (keep (λ s. not (slot_fits g l.late s)) (captured_slots g t)) → Sits v
        go (none z q) = absurd (let w = variable_none z in cc)
        go (some {d} {i} z hd hi w q) =
            let er : record { owner = y / 256; index = y % 256 } ≡ v = read (variable_some (λ a. omega arith)) in
            let ed : y / 256 ≡ d = omega arith in
            let ei : y % 256 ≡ i = omega arith in
            subst Sits (sym (ap₂ (λ (a b : ℕ). record { owner = a; index = b }) ed ei) ∙ er) (record {
              lower = hd;
              there = w;
              is = sym (ap first_fault (user_faults nlib t l.is h ∙ ap (map slot_fault) q));
            })
