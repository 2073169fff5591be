-- The records of a list of bytes, walked by positions: those from a byte on, and whether they end where the bytes end and no CLASS is among them.
-- Assumes nothing.
use mathlib.Core.Path.{◌≡◌, refl, sym, ap, ◌∙◌}
use mathlib.Core.Bool.{Bool, true, false, not, beq, ◌&&◌, and-false}
use mathlib.Core.Logic.{◌⊎◌, inl, inr, ⊎_elim}
use mathlib.Core.List.{List}
use Prim.Native.Nat.{ℕ, ◌+◌, ◌-◌, ◌≤◌, ◌<◌}
use native.Mathlib.Decide.{ℕ_discrete}
use native.Mathlib.Omega.{arith}
use lib.Dec.{eqb}
use lib.ListN.{length, take, drop, length-append, length-drop}
use Rattle.std.proofs.lemmas.Bool.{true≢false, false≢true, eq-eqb, ne_eqb, cases_eq}
use Rattle.std.specs.Prelude.{Some, None}
use Rattle.std.proofs.lemmas.List.{take_rest}
use Rattle.spec.specs.Lists.{any, concat}
use Rattle.spec.specs.Record.{u16, is_class}
use Rattle.spec.specs.Sheet.{whole_first, records_of, whole_end}
use Rattle.spec.specs.Refusals.{one_class, whole_group}
use Rattle.laws.proofs.Parts.{part_length, part_kind}
use Rattle.theory.proofs.Cut.{short_stop, records_stop}
use Rattle.records.specs.Lengths.{whole_length}
use Rattle.records.proofs.Lengths.{Stands, length_some, whole_none, records_here}

-- ---- the walk

-- whole records up to the end, and no CLASS among them
unfoldable pub others_only : List ℕ → Bool
others_only s = eqb (whole_end s) (length s) && not (any is_class (records_of s))

shift_eqb : (n a b x y : ℕ) → a ≡ n + x → b ≡ n + y → eqb a b ≡ eqb x y
shift_eqb n a b x y ea eb = go (ℕ_discrete x y)
  where
    go : Dec (x ≡ y) → eqb a b ≡ eqb x y
    go (yes e) = eq-eqb a b (omega arith) ∙ sym (eq-eqb x y e)
    go (no e) = ne_eqb a b (λ q. e (omega arith)) ∙ sym (ne_eqb x y e)

module _ {s : List ℕ} {at n : ℕ} (w : Stands s at n) where
  end_here : eqb (whole_end (drop at s)) (length (drop at s)) ≡ eqb (whole_end (drop (at + n) s)) (length (drop (at + n) s))
  unfolding whole_end concat
  end_here =
      let after : ℕ = length (concat (records_of (drop (at + n) s))) in
      let e : length (concat (records_of (drop at s))) ≡ n + after =
      ap (λ (rs : List (List ℕ)). length (concat rs)) (records_here w) ∙ length-append (take n (drop at s)) _ ∙ ap (λ (k : ℕ). k + after) (part_length s at n w.ends) in
      shift_eqb n _ _ _ _ e (omega (arith, length-drop at s, length-drop (at + n) s, w.ends))

  kind_here : {k : ℕ} → k ≡ u16 s (at + 2) → is_class (take n (drop at s)) ≡ eqb k 1
  kind_here e = ap (λ (k : ℕ). eqb k 1) (part_kind s at n w.four ∙ sym e)

  module _ {k : ℕ} (e : k ≡ u16 s (at + 2)) where
    class_stop : k ≡ 1 → others_only (drop at s) ≡ false
    unfolding others_only any
    class_stop h = rw (records_here w, kind_here e ∙ eq-eqb k 1 h) (and-false (eqb (whole_end (drop at s)) (length (drop at s))))

    other_step : (k ≡ 1 → ⊥) → others_only (drop at s) ≡ others_only (drop (at + n) s)
    unfolding others_only any
    other_step h = rw (end_here, records_here w, kind_here e ∙ ne_eqb k 1 h) refl

    class_first : k ≡ 1 → whole_group (drop at s) ≡ others_only (drop (at + n) s)
    unfolding others_only whole_group one_class
    class_first h = rw (end_here, records_here w, kind_here e ∙ eq-eqb k 1 h) refl

    other_first : (k ≡ 1 → ⊥) → whole_group (drop at s) ≡ false
    unfolding whole_group one_class
    other_first h = rw (records_here w, kind_here e ∙ ne_eqb k 1 h) (and-false (eqb (whole_end (drop at s)) (length (drop at s))))

none_stop : (s : List ℕ) (at : ℕ) → whole_first (drop at s) ≡ false → at < length s → others_only (drop at s) ≡ false
unfolding others_only whole_end concat any
none_stop s at e h = rw (records_stop (drop at s) e) (ap (λ (b : Bool). b && true) (ne_eqb 0 (length (drop at s)) (λ q. omega (arith, length-drop at s))))

end_stop : (s : List ℕ) (at : ℕ) → length s ≤ at → others_only (drop at s) ≡ true
unfolding others_only whole_end concat any
end_stop s at h =
    let l : length (drop at s) ≡ 0 = omega (arith, length-drop at s) in
    rw (records_stop (drop at s) (short_stop (drop at s) (omega arith))) (ap (λ (b : Bool). b && true) (eq-eqb 0 (length (drop at s)) (sym l)))

none_at_all : (s : List ℕ) → whole_first s ≡ false → whole_group s ≡ false
unfolding whole_group one_class
none_at_all s e = rw (records_stop s e) (and-false (eqb (whole_end s) (length s)))

-- ---- the code's steps

-- what is asked of the bytes from a place on: at the group's start that they are whole records with a CLASS first, later that no CLASS is among them
unfoldable pub asked : List ℕ → ℕ → Bool
asked s at = elim (eqb at 0) [ true ↦ whole_group (drop at s) | false ↦ others_only (drop at s) ]

module _ (s : List ℕ) (at : ℕ) where
  asked_first : at ≡ 0 → asked s at ≡ whole_group (drop at s)
  unfolding asked
  asked_first q = rw (eq-eqb at 0 q, asked)

  asked_later : (at ≡ 0 → ⊥) → asked s at ≡ others_only (drop at s)
  unfolding asked
  asked_later q = rw (ne_eqb at 0 q, asked)

-- the loop's invariant
pub record Going (s : List ℕ) (at : ℕ) : Type 0 where
  pub within : at ≤ length s
  pub same : whole_group s ≡ asked s at

pub go_start : (s : List ℕ) → Going s 0
go_start s = record { within = omega arith; same = sym (asked_first s 0 refl) }

module _ {s : List ℕ} {at : ℕ} (g : Going s at) where
  -- an empty group has no CLASS
  pub go_end : length s ≤ at → {b : Bool} → b ≡ eqb (length s) 0 → not b ≡ whole_group s
  go_end h {b} e = rw e (go (cases_eq (length s) 0))
    where
      go : (length s ≡ 0) ⊎ (length s ≡ 0 → ⊥) → not (eqb (length s) 0) ≡ whole_group s
      go (inl q) = rw (eq-eqb (length s) 0 q) (sym (none_at_all s (short_stop s (omega arith))))
      go (inr q) = rw (ne_eqb (length s) 0 q) (sym (g.same ∙ asked_later s at (λ z. q (omega (arith, g.within))) ∙ end_stop s at h))

  abbrev left : List ℕ
  left = take (length s - at) (drop at s)

  pub go_torn : at < length s → None ≡ whole_length left → false ≡ whole_group s
  go_torn h e =
      let none = whole_none (drop at s) (e ∙ ap whole_length (take_rest s at)) in
      sym (g.same ∙ ⊎_elim (λ q. asked_first s at q ∙ none_at_all (drop at s) none) (λ q. asked_later s at q ∙ none_stop s at none h) (cases_eq at 0))

  module _ {n : ℕ} (e : Some n ≡ whole_length left) where
    pub stands : Stands s at n
    stands = length_some s at (e ∙ ap whole_length (take_rest s at))

    -- k is the kind of the record at hand; it is a CLASS just at the start
    module _ {k : ℕ} (f : k ≡ u16 s (at + 2)) where
      pub go_wrong : not (beq (eqb k 1) (eqb at 0)) ≡ true → false ≡ whole_group s
      go_wrong h = sym (g.same ∙ go (cases_eq at 0) (cases_eq k 1))
        where
          go : (at ≡ 0) ⊎ (at ≡ 0 → ⊥) → (k ≡ 1) ⊎ (k ≡ 1 → ⊥) → asked s at ≡ false
          go (inl q) (inl p) = absurd (false≢true (rw (eq-eqb at 0 q, eq-eqb k 1 p) at h))
          go (inl q) (inr p) = asked_first s at q ∙ other_first stands f p
          go (inr q) (inl p) = asked_later s at q ∙ class_stop stands f p
          go (inr q) (inr p) = absurd (false≢true (rw (ne_eqb at 0 q, ne_eqb k 1 p) at h))

      pub go_right : not (beq (eqb k 1) (eqb at 0)) ≡ false → Going s (at + n)
      go_right h = record { within = stands.ends; same = g.same ∙ go (cases_eq at 0) (cases_eq k 1) ∙ sym (asked_later s (at + n) (λ y. omega (arith, stands.four))) }
        where
          go : (at ≡ 0) ⊎ (at ≡ 0 → ⊥) → (k ≡ 1) ⊎ (k ≡ 1 → ⊥) → asked s at ≡ others_only (drop (at + n) s)
          go (inl q) (inl p) = asked_first s at q ∙ class_first stands f p
          go (inl q) (inr p) = absurd (true≢false (rw (eq-eqb at 0 q, ne_eqb k 1 p) at h))
          go (inr q) (inl p) = absurd (true≢false (rw (ne_eqb at 0 q, eq-eqb k 1 p) at h))
          go (inr q) (inr p) = asked_later s at q ∙ other_step stands f p
