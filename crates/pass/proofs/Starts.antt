-- The row of group starts that the first pass fills: the start of each group stands at its class's number, and below the sheet's first class the row is as it was.
-- Assumes nothing.
use mathlib.Core.Path.{◌≡◌, refl, ap, ◌∙◌}
use mathlib.Core.Bool.{Bool, true, false}
use mathlib.Core.List.{List, [], ◌∷◌, ◌++◌}
use Prim.Native.Nat.{ℕ, zero, suc, ◌+◌, ◌≤◌, ◌<◌}
use native.Mathlib.Nat.{not-suc-le-zero, add-zero, add-suc, suc-add}
use native.Mathlib.Omega.{arith}
use lib.ListN.{length, get_or, take, set, length-append, length-set}
use lib.Seq.{get_or-set_same, get_or-set_other}
use Rattle.spec.specs.Lists.{concat}
use Rattle.spec.specs.Record.{is_class}
use Rattle.spec.specs.Sheet.{Split, split_groups, records_of, groups_of, class_count, group_start}
use Rattle.theory.proofs.Cut.{concat_append, onto_class, onto_loose, split_class, split_other}
use Rattle.pass.specs.Pass.{classes_after, fill, filled}

-- ---- one record

-- the row after one more record, a CLASS record or another
abbrev pub row_after : Bool → List ℕ → ℕ → ℕ → List ℕ
row_after true row n at = set row n at
row_after false row n at = row

module _ (row : List ℕ) (n at : ℕ) (r : List ℕ) (rs : List (List ℕ)) where
  pub fill_cons : fill row n at (r ∷ rs) ≡ fill (row_after (is_class r) row n at) (classes_after (is_class r) n) (at + length r) rs
  unfolding fill
  fill_cons = go (is_class r) refl
    where
      go : (b : Bool) → is_class r ≡ b → fill row n at (r ∷ rs) ≡ fill (row_after b row n at) (classes_after b n) (at + length r) rs
      go true e = rw (e, fill)
      go false e = rw (e, fill)

  pub fill_class : is_class r ≡ true → fill row n at (r ∷ rs) ≡ fill (set row n at) (suc n) (at + length r) rs
  fill_class e = rw e at fill_cons

  pub fill_other : is_class r ≡ false → fill row n at (r ∷ rs) ≡ fill row n (at + length r) rs
  fill_other e = rw e at fill_cons

-- ---- the row of any records

after_below : (b : Bool) (row : List ℕ) (n at j : ℕ) → j < n → (j < classes_after b n) × (get_or (row_after b row n at) j 0 ≡ get_or row j 0)
after_below true row n at j h = (omega arith, get_or-set_other row n j at 0 (λ q. omega arith))
after_below false row n at j h = (h, refl)

below : (row : List ℕ) (n at : ℕ) (rs : List (List ℕ)) (j : ℕ) → j < n → get_or (fill row n at rs) j 0 ≡ get_or row j 0
below row n at [] j h = unfold fill in refl
below row n at (r ∷ rs) j h =
    let a = after_below (is_class r) row n at j h in
    rw (fill_cons row n at r rs) (below (row_after (is_class r) row n at) (classes_after (is_class r) n) (at + length r) rs j a.0 ∙ a.1)

-- the byte where the i-th group begins, where the first record begins at `at`
unfoldable pub start_from : ℕ → Split → ℕ → ℕ
start_from at t i = at + length (concat t.loose) + length (concat (concat (take i t.groups)))

pub first_start : (at : ℕ) (r : List ℕ) (t : Split) → start_from at (onto_class r t) 0 ≡ at
unfolding start_from concat
first_start at r t = omega arith

pub next_start : (at i : ℕ) (r : List ℕ) (t : Split) → start_from at (onto_class r t) (suc i) ≡ start_from (at + length r) t i
unfolding start_from concat
next_start at i r t =
    let later : List (List ℕ) = concat (take i t.groups) in
    omega (arith, length-append r (concat (t.loose ++ later)), ap length (concat_append t.loose later), length-append (concat t.loose) (concat later))

pub loose_start : (at i : ℕ) (r : List ℕ) (t : Split) → start_from at (onto_loose r t) i ≡ start_from (at + length r) t i
unfolding start_from concat
loose_start at i r t = omega (arith, length-append r (concat t.loose))

-- the row says where each group begins
abbrev Started : List ℕ → ℕ → ℕ → List (List ℕ) → Type 0
Started row n at rs =
    (i : ℕ) → n + length (split_groups rs).groups ≤ length row → i < length (split_groups rs).groups → get_or (fill row n at rs) (n + i) 0 ≡ start_from at (split_groups rs) i

right_class : (row : List ℕ) (n at : ℕ) (r : List ℕ) (rs : List (List ℕ)) → is_class r ≡ true → Started (set row n at) (suc n) (at + length r) rs → Started row n at (r ∷ rs)
right_class row n at r rs e f zero l h =
    let q = ap (λ (t : Split). length t.groups) (split_class r rs e) in
    rw (fill_class row n at r rs e, split_class r rs e, first_start, add-zero) (below (set row n at) (suc n) (at + length r) rs n (omega arith) ∙ get_or-set_same row n at 0 (omega arith))
right_class row n at r rs e f (suc i) l h =
    let q = ap (λ (t : Split). length t.groups) (split_class r rs e) in
    rw (fill_class row n at r rs e, split_class r rs e, next_start, add-suc, ← (suc-add n i)) (f i (omega (arith, length-set row n at)) (omega arith))

right_other : (row : List ℕ) (n at : ℕ) (r : List ℕ) (rs : List (List ℕ)) → is_class r ≡ false → Started row n (at + length r) rs → Started row n at (r ∷ rs)
right_other row n at r rs e f i l h =
    let q = ap (λ (t : Split). length t.groups) (split_other r rs e) in
    rw (fill_other row n at r rs e, split_other r rs e, loose_start) (f i (omega arith) (omega arith))

right : (row : List ℕ) (n at : ℕ) (rs : List (List ℕ)) → Started row n at rs
right row n at [] = λ i l h. let z : i < 0 = (unfold split_groups in h) in absurd (not-suc-le-zero z)
right row n at (r ∷ rs) = go (is_class r) refl (right (set row n at) (suc n) (at + length r) rs) (right row n (at + length r) rs)
  where
    go : (b : Bool) → is_class r ≡ b → Started (set row n at) (suc n) (at + length r) rs → Started row n (at + length r) rs → Started row n at (r ∷ rs)
    go true e f g = right_class row n at r rs e f
    go false e f g = right_other row n at r rs e g

-- ---- the row of some bytes of a sheet

pub filled_below : (row : List ℕ) (n at : ℕ) (s : List ℕ) (j : ℕ) → j < n → get_or (filled row n at s) j 0 ≡ get_or row j 0
unfolding filled
filled_below row n at s j h = below row n at (records_of s) j h

-- where no record stands before the first CLASS record
pub sheet_start : (s : List ℕ) → (split_groups (records_of s)).loose ≡ [] → (i : ℕ) → start_from 0 (split_groups (records_of s)) i ≡ group_start s i
unfolding groups_of group_start start_from concat
sheet_start s e i = omega (arith, ap (λ (rs : List (List ℕ)). length (concat rs)) e)

pub filled_start : (row : List ℕ) (n : ℕ) (s : List ℕ) → (split_groups (records_of s)).loose ≡ [] → n + class_count s ≤ length row
    → (i : ℕ) → i < class_count s → get_or (filled row n 0 s) (n + i) 0 ≡ group_start s i
unfolding filled class_count groups_of
filled_start row n s e l i h = right row n 0 (records_of s) i l h ∙ sheet_start s e i
