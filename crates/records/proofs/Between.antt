-- The records between two bytes of a sheet, walked by positions.
-- Assumes nothing.
use mathlib.Core.Path.{◌≡◌, sym, ap, ap₂, ◌∙◌}
use mathlib.Core.List.{List, [], ◌∷◌, ◌++◌, append_assoc}
use Prim.Native.Nat.{ℕ, ◌+◌, ◌-◌, ◌≤◌, ◌<◌}
use native.Mathlib.Omega.{arith}
use lib.ListN.{length, take, drop, length-append, length-drop, take-append-drop}
use lib.Seq.{length-take-le, take-append_seam, drop_at}
use Rattle.spec.specs.Lists.{concat}
use Rattle.spec.specs.Record.{u16}
use Rattle.spec.specs.Sheet.{records_of, whole_end}
use Rattle.laws.proofs.All.{All}
use Rattle.laws.proofs.Parts.{part_length, part_word}
use Rattle.theory.proofs.Cut.{Whole, records_of_join, records_of_whole, join_records}
use Rattle.records.specs.Records.{between, Tiled}

-- ---- whole records that stand in a sheet

pub placed : (s p : List ℕ) (rs : List (List ℕ)) (t : List ℕ) (at end : ℕ) → All Whole rs → s ≡ p ++ (concat rs ++ t) → length p ≡ at → at + length (concat rs) ≡ end
    → Tiled s at end × (between s at end ≡ rs)
unfolding between whole_end
placed s p rs t at end w e ea ee =
    let l : end - at ≡ length (concat rs) = omega arith in
    let b : take (end - at) (drop at s) ≡ concat rs =
    ap₂ (λ (n : ℕ) (x : List ℕ). take n (drop at x)) l e ∙ ap (take (length (concat rs))) (drop_at p (concat rs ++ t) at ea) ∙ take-append_seam (concat rs) t in
    let r : records_of (take (end - at) (drop at s)) ≡ rs = ap records_of b ∙ records_of_join rs w in (
      record {
        ordered = omega arith;
        within = omega (arith, ap length e, length-append p (concat rs ++ t), length-append (concat rs) t);
        whole = ap (λ (x : List (List ℕ)). length (concat x)) r ∙ sym l;
      },
      r,
    )

-- ---- a walk from record to record

-- the bytes from `at` on: the records up to `end`, and what follows them
pub tiled_parts : {s : List ℕ} {at end : ℕ} → Tiled s at end → drop at s ≡ concat (between s at end) ++ drop (end - at) (drop at s)
unfolding between
tiled_parts {s} {at} {end} h =
    let l : length (take (end - at) (drop at s)) ≡ end - at = part_length s at (end - at) (omega arith) in
    sym (take-append-drop (end - at) (drop at s))
    ∙ ap (λ (x : List ℕ). x ++ drop (end - at) (drop at s)) (sym (join_records (take (end - at) (drop at s)) (h.whole ∙ sym l)))

module _ (s : List ℕ) (at end : ℕ) where
  -- a walk that is at the record r, with rs after it
  step : (r : List ℕ) (rs : List (List ℕ)) (t : List ℕ) → Whole r → All Whole rs → at ≤ length s → drop at s ≡ (r ++ concat rs) ++ t → at + length (r ++ concat rs) ≡ end
      → (4 ≤ u16 s at) × (at + u16 s at ≤ end) × (r ∷ rs ≡ take (u16 s at) (drop at s) ∷ between s (at + u16 s at) end) × Tiled s (at + u16 s at) end
  step r rs t w ws h e ee =
      let ea : drop at s ≡ r ++ (concat rs ++ t) = e ∙ append_assoc r (concat rs) t in
      let here : take (length r) (drop at s) ≡ r = ap (take (length r)) ea ∙ take-append_seam r (concat rs ++ t) in
      let z : at ≡ at + 0 = omega arith in
      let n : u16 s at ≡ length r = ap (u16 s) z ∙ sym (part_word s at (length r) 0 (omega (arith, w.four))) ∙ ap (λ (x : List ℕ). u16 x 0) here ∙ w.own in
      let p : s ≡ (take at s ++ r) ++ (concat rs ++ t) = sym (take-append-drop at s) ∙ ap (λ (x : List ℕ). take at s ++ x) ea ∙ sym (append_assoc (take at s) r (concat rs ++ t)) in
      let q = placed s (take at s ++ r) rs t (at + u16 s at) end ws p (omega (arith, length-append (take at s) r, length-take-le at s h)) (omega (arith, length-append r (concat rs))) in
      let f = w.four in
      let first : r ≡ take (u16 s at) (drop at s) = sym here ∙ ap (λ (m : ℕ). take m (drop at s)) (sym n) in
      (omega arith, omega (arith, length-append r (concat rs)), ap₂ (λ (x : List ℕ) (xs : List (List ℕ)). x ∷ xs) first (sym q.1), q.0)

pub tiled_step : {s : List ℕ} {at end : ℕ} → Tiled s at end → at < end
    → (4 ≤ u16 s at) × (at + u16 s at ≤ end) × (between s at end ≡ take (u16 s at) (drop at s) ∷ between s (at + u16 s at) end) × Tiled s (at + u16 s at) end
unfolding concat
tiled_step {s} {at} {end} h l = go (between s at end) (unfold between in records_of_whole (take (end - at) (drop at s))) (tiled_parts h)
  where
    go : (rs : List (List ℕ)) → All Whole rs → drop at s ≡ concat rs ++ drop (end - at) (drop at s)
        → (4 ≤ u16 s at) × (at + u16 s at ≤ end) × (rs ≡ take (u16 s at) (drop at s) ∷ between s (at + u16 s at) end) × Tiled s (at + u16 s at) end
    go [] w e = absurd (omega (arith, ap length e, length-drop at s, length-drop (end - at) (drop at s), h.within))
    go (r ∷ rs) w e =
        step s at end r rs (drop (end - at) (drop at s)) w.0 w.1 (omega arith) e
        (omega (arith, ap length e, length-append (r ++ concat rs) (drop (end - at) (drop at s)), length-drop at s, length-drop (end - at) (drop at s), h.within))
