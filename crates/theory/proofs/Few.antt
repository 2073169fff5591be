-- A sheet that passed the first pass has at most 255 records in each group.
-- Assumes nothing.
use mathlib.Core.Path.{◌≡◌, refl}
use mathlib.Core.Bool.{Bool, true, false}
use mathlib.Core.List.{List, [], ◌∷◌}
use Prim.Native.Nat.{ℕ, suc, ◌+◌, ◌≤◌}
use native.Mathlib.Omega.{arith}
use lib.ListN.{length}
use Rattle.spec.specs.Record.{kind, is_class}
use Rattle.spec.specs.Sheet.{Split, records_of, split_groups, groups_of, locate, located_in}
use Rattle.laws.proofs.All.{All}
use Rattle.theory.proofs.Cut.{split_class, split_other}
use Rattle.theory.proofs.Accept.{Passed, locate_if}

-- after k records of the open group
pub record Few (k : ℕ) (t : Split) : Type 0 where
  pub loose : k + length t.loose ≤ 255
  pub groups : All (λ g. length g ≤ 255) t.groups

pub few : (s at n k p : ℕ) (rs : List (List ℕ)) → k ≤ 255 → All Passed (locate s at n k p rs) → Few k (split_groups rs)
unfolding locate locate_if
few s at n k p [] b h = unfold split_groups in record { loose = omega arith; groups = tt }
few s at n k p (r ∷ rs) b h = go (is_class r) refl h (few s (at + length r) (suc n) 1 (kind r) rs (omega arith)) (few s (at + length r) n (suc k) (kind r) rs)
  where
    go : (b : Bool) → is_class r ≡ b → All Passed (locate_if s at n k p r rs b) → (All Passed (locate s (at + length r) (suc n) 1 (kind r) rs) → Few 1 (split_groups rs))
        → (suc k ≤ 255 → All Passed (locate s (at + length r) n (suc k) (kind r) rs) → Few (suc k) (split_groups rs)) → Few k (split_groups (r ∷ rs))
    go true e h f f' = let t = f h.1 in rw (split_class r rs e) (record { loose = omega arith; groups = (omega (arith, t.loose), t.groups) })
    go false e h f f' = let t = f' (omega (arith, h.0.record_number)) h.1 in rw (split_other r rs e) (record { loose = omega (arith, t.loose); groups = t.groups })

pub groups_few : (sheet n : ℕ) (s : List ℕ) → All Passed (located_in sheet n s) → All (λ g. length g ≤ 255) (groups_of s)
unfolding groups_of located_in
groups_few sheet n s h = (few sheet 0 n 0 0 (records_of s) (omega arith) h).groups
