-- The slots of captured variables: one of each variable, so the first that fails is the first variable that lacks the marker.
-- Assumes nothing.
use mathlib.Core.Path.{◌≡◌, refl, sym, ap, ◌∙◌}
use mathlib.Core.Bool.{Bool, true, false, not}
use mathlib.Core.List.{List, [], ◌∷◌, map}
use Prim.Native.Nat.{ℕ, ◌+◌, ◌*◌, ◌/◌, ◌%◌, ◌<◌}
use lib.ListN.{length, get_or, take, get_or-map}
use lib.Seq.{drop-cons}
use borrow.Author.Tests.{eq-eqb, ne_eqb}
use Rattle.std.specs.Prelude.{None, Some}
use Rattle.spec.specs.Lists.{keep, numbered}
use Rattle.spec.specs.Record.{is_kind, LOCAL, local_ty}
use Rattle.spec.specs.Sheet.{Group, of_kind}
use Rattle.spec.specs.Classes.{Slot, variable_slot, locals, local_at, satisfies, captured, captured_slots}
use Rattle.laws.proofs.All.{All, gather_cong, keep_cong}
use Rattle.laws.proofs.Lists.{keep_map, gather_each, map_numbered}
use Rattle.captured.specs.Captured.{variable_of, variable_ty}

-- ---- the LOCALs of a group

locals_are : (h : Group) → map (λ (n : ℕ × List ℕ). n.1) (locals h) ≡ of_kind LOCAL h
unfolding locals of_kind
locals_are h = sym (keep_map (is_kind LOCAL) (λ (n : ℕ × List ℕ). n.1) (numbered 0 h)) ∙ ap (keep (is_kind LOCAL)) (map_numbered 0 h)

module _ (g : ℕ → Group) where
  -- the LOCAL of a variable with its record's number, and the variable's slot
  abbrev pub local_of : ℕ × ℕ → ℕ × List ℕ
  local_of v = get_or (locals (g v.0)) v.1 (0, [])

  abbrev pub slot_of : ℕ × ℕ → Slot
  slot_of v = variable_slot v.0 (local_of v)

  abbrev pub There : ℕ × ℕ → Type 0
  There v = v.1 < length (locals (g v.0))

  one_slot : (v : ℕ × ℕ) → There v → map (variable_slot v.0) (local_at (g v.0) v.1) ≡ slot_of v ∷ []
  unfolding local_at
  one_slot v l = ap (λ (ns : List (ℕ × List ℕ)). map (variable_slot v.0) (take 1 ns)) (drop-cons (locals (g v.0)) v.1 (0, []) l)

  slot_type : (v : ℕ × ℕ) → (slot_of v).type ≡ variable_ty g v
  unfolding variable_slot
  slot_type v =
      ap local_ty (sym (get_or-map (λ (n : ℕ × List ℕ). n.1) (locals (g v.0)) v.1 (0, [])) ∙ ap (λ (rs : Group). get_or rs v.1 []) (locals_are (g v.0)))

  -- the slots that fail a test of their types, in the order of the variables
  pub fail_is : (ok : Slot → Bool) (k l : ℕ) → ((s : Slot) → s.final ≡ true → s.transient ≡ false → ok s ≡ satisfies g k s.type) → All There (captured g l)
      → keep (λ s. not (ok s)) (captured_slots g l) ≡ map slot_of (keep (λ v. not (satisfies g k (variable_ty g v))) (captured g l))
  unfolding captured_slots variable_slot
  fail_is ok k l h there =
      ap (keep (λ s. not (ok s)))
      (gather_cong There (λ v. map (variable_slot v.0) (local_at (g v.0) v.1)) (λ v. slot_of v ∷ []) one_slot (captured g l) there ∙ gather_each slot_of (captured g l))
      ∙ keep_map (λ s. not (ok s)) slot_of (captured g l)
      ∙ ap (map slot_of) (keep_cong There (λ v. not (ok (slot_of v))) (λ v. not (satisfies g k (variable_ty g v))) each (captured g l) there)
    where
      each : (v : ℕ × ℕ) → There v → not (ok (slot_of v)) ≡ not (satisfies g k (variable_ty g v))
      each v w = ap not (h (slot_of v) refl refl ∙ ap (satisfies g k) (slot_type v))

-- ---- the variable that an entry is

pub variable_none : {y : ℕ} → y ≡ 65535 → variable_of y ≡ None
variable_none {y} e = rw (eq-eqb y 65535 e, variable_of)

pub variable_some : {y : ℕ} → (y ≡ 65535 → ⊥) → variable_of y ≡ Some (record { owner = y / 256; index = y % 256 })
variable_some {y} n = rw (ne_eqb y 65535 n, variable_of)

-- an entry, and the slots of some variables that class l captures: there is none, or it is the first one's
pub data First (g : ℕ → Group) (l y : ℕ) (slots : List Slot) : Type 0 where
  none : y ≡ 65535 → slots ≡ [] → First g l y slots
  some : {d i : ℕ} {more : List Slot} → y ≡ 256 * d + i → d < l → i < 256 → There g (d, i) → slots ≡ slot_of g (d, i) ∷ more → First g l y slots
