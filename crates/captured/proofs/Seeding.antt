-- The seeds as they are written: record by record, class by class.
-- Assumes nothing.
use mathlib.Core.Path.{◌≡◌, refl, sym, ap, ap₂, ◌∙◌, subst}
use mathlib.Core.Bool.{Bool, false}
use mathlib.Core.List.{List, Memᴰ}
use mathlib.Core.Logic.{inl, inr, ⊎_elim}
use Prim.Native.Nat.{ℕ, ◌+◌, ◌*◌, ◌/◌, ◌<◌}
use native.Mathlib.Nat.{le_of_suc-le-suc, eq-or-lt_of_le}
use native.Mathlib.Omega.{arith}
use lib.Dec.{T}
use lib.ListN.{length}
use Rattle.spec.specs.Lists.{any}
use Rattle.spec.specs.Record.{bit, is_kind, LOCAL, USES, Ty, target, index, references}
use Rattle.spec.specs.Sheet.{Group, of_kind}
use Rattle.spec.specs.Classes.{satisfies}
use Rattle.laws.proofs.Bools.{eq→eqb}
use Rattle.laws.proofs.All.{at_member}
use Rattle.laws.proofs.Count.{keep_short}
use Rattle.laws.proofs.Members.{mem_keep, mem_any}
use Rattle.theory.proofs.References.{references_uses}
use Rattle.theory.proofs.Accept.{RecordFits}
use Rattle.records.specs.declared.record.Body.{Body}
use Rattle.records.specs.declared.record.Body.TheVariants as B
use Rattle.records.specs.Kinds.{Reads}
use Rattle.records.proofs.Bodies.{is_not, not_uses}
use Rattle.groups.proofs.Few.{group_few}
use Rattle.sheets.proofs.Indexes.{indexed}
use Rattle.sheets.specs.Sheets.{Pair, Passed, groups, count, library_count}
use Rattle.lanes.specs.Lanes.{Nested, Enclosers}
use Rattle.overlay.specs.Types.{Known, type_markers, row_markers}
use Rattle.overlay.proofs.Types.{row_markers_lem, satisfies_bit}
use Rattle.reach.specs.Reach.{outer_of}
use Rattle.reach.proofs.Scanning.{empty}
use Rattle.reach.proofs.Library.{library_uses_none}
use Rattle.captured.specs.declared.Lane.{Lane}
use Rattle.captured.specs.declared.Lane.TheVariants.{Immutable, Powerless, DeepSelfless}
use Rattle.captured.specs.Captured.{lane_marker, variable_ty}
use Rattle.captured.specs.Seeds.{OneOf, Lowering, Offered, ByRecord, ByClass, ByClasses}
use Rattle.captured.proofs.Lowering.{lower_none, lower_then, lower_same}

marker_low : (lane : Lane) → lane_marker lane < 8
marker_low Immutable = omega arith
marker_low Powerless = omega arith
marker_low DeepSelfless = omega arith

-- ---- a record

-- one that uses nothing
pub record_other : {g : ℕ → Group} {m : ℕ} {r : List ℕ} (b : Body) → Reads r b → ((d : ℕ) (i : ℕ) → b ≡ B.Uses d i → ⊥) → (s : List ℕ) → Lowering (ByRecord g m r) s s
record_other {r = r} b w n s = lower_none s (λ i x q. absurd (subst T (is_not r b w (not_uses b n)) q.wanted.uses))

-- the markers of its variable
pub variable_markers : {g : ℕ → Group} {row : List ℕ} → Known g row → {markers : ℕ} {t u : Ty} → markers ≡ row_markers row t → t ≡ u → markers ≡ type_markers g u
variable_markers {row = row} k {u = u} e q = e ∙ ap (row_markers row) q ∙ row_markers_lem k u

-- one that uses variable i of class d
module _ {p : Pair} (x : Passed p) {m : ℕ} {r : List ℕ} (f : RecordFits (library_count p) (count p) (groups p) m r) {d i : ℕ} (w : Reads r (B.Uses d i)) where
  abbrev g : ℕ → Group
  g = groups p

  uses : T (is_kind USES r)
  uses = eq→eqb w.0

  pub owner_there : d < count p
  owner_there =
      subst (λ (t : ℕ). t < count p) (sym w.1)
      (at_member (λ t. t < count p) (references r) f.there (subst (Memᴰ (target r)) (sym (references_uses r uses)) (Memᴰ.head refl)))

  pub variable_there : i < length (of_kind LOCAL (g d))
  variable_there = rw (w.2, w.1) (f.local uses)

  variable_low : i < 256
  unfolding of_kind
  variable_low = omega (arith, variable_there, keep_short (is_kind LOCAL) (g d), group_few (indexed x) d)

  pub entry_low : (d < 256) × (i < 256)
  entry_low = (omega (arith, owner_there, x.few), variable_low)

  -- the lanes whose marker the variable's type lacks are lowered to it
  pub record_uses : {markers y : ℕ} {marks : List Bool} {s s' : List ℕ} → markers ≡ type_markers g (variable_ty g (d, i)) → y ≡ 256 * d + i → Enclosers (outer_of g) m marks
      → Lowering (Offered marks markers m y) s s' → Lowering (ByRecord g m r) s s'
  record_uses {markers} {y} {marks} em ey right f = lower_same f there back
    where
      lacks : (lane : Lane) → satisfies g (lane_marker lane) (variable_ty g (target r, index r)) ≡ bit (lane_marker lane) markers
      lacks lane =
          ap₂ (λ (c j : ℕ). satisfies g (lane_marker lane) (variable_ty g (c, j))) (sym w.1) (sym w.2) ∙ satisfies_bit g (lane_marker lane) (variable_ty g (d, i)) (marker_low lane)
          ∙ ap (bit (lane_marker lane)) (sym em)

      entry : 256 * target r + index r ≡ y
      entry = omega (arith, ey, w.1, w.2)

      owner : y / 256 ≡ target r
      owner = omega (arith, ey, w.1, variable_low)

      there : (j x : ℕ) → Offered marks markers m y j x → ByRecord g m r j x
      there j x q = record {
        lane = q.lane;
        place = q.allows.place;
        wanted = record {
          uses = uses;
          entry = entry ∙ sym q.allows.entry;
          lacking = lacks q.lane ∙ q.allows.lacking;
          within = subst (λ (c : ℕ). Nested (outer_of g) c m) owner (right.only (y / 256) q.marked);
        };
      }

      back : (j x : ℕ) → ByRecord g m r j x → Offered marks markers m y j x
      back j x q = record {
        marked = right.every (y / 256) (subst (λ (c : ℕ). Nested (outer_of g) c m) (sym owner) q.wanted.within);
        lane = q.lane;
        allows = record { lacking = sym (lacks q.lane) ∙ q.wanted.lacking; place = q.place; entry = sym q.wanted.entry ∙ entry };
      }

-- ---- a class

-- without USES it wants nothing
pub class_other : {g : ℕ → Group} {m : ℕ} {rs : Group} → any (is_kind USES) rs ≡ false → (s : List ℕ) → Lowering (OneOf (ByRecord g m) rs) s s
class_other e s = lower_none s (λ i x q. absurd (subst T e (mem_any (is_kind USES) q.member q.allows.wanted.uses)))

-- ---- all classes

-- no library class uses a variable
pub all_start : {p : Pair} → Passed p → (s : List ℕ) → Lowering (ByClasses (groups p) (library_count p)) s s
unfolding of_kind
all_start x s = lower_none s (λ i d q. absurd (empty (library_uses_none x q.below) (mem_keep (is_kind USES) q.allows.member q.allows.allows.wanted.uses)))

module _ {g : ℕ → Group} where
  pub all_next : {m : ℕ} {s₀ s s' : List ℕ} → Lowering (ByClasses g m) s₀ s → Lowering (ByClass g m) s s' → Lowering (ByClasses g (m + 1)) s₀ s'
  all_next {m} f h =
      lower_then f h
      (λ i x q.
      ⊎_elim (λ e. inr (subst (λ (j : ℕ). ByClass g j i x) e q.allows)) (λ l. inl (record { class = q.class; below = l; allows = q.allows }))
      (eq-or-lt_of_le (le_of_suc-le-suc (let b = q.below in omega arith))))
      (λ i x q. record { class = q.class; below = let b = q.below in omega arith; allows = q.allows })
      (λ i x q. record { class = m; below = omega arith; allows = q })

  pub all_end : {m n : ℕ} {s₀ s : List ℕ} → m ≡ n → Lowering (ByClasses g m) s₀ s → Lowering (ByClasses g n) s₀ s
  all_end e f = rw e at f
