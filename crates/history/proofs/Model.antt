-- Groups put end to end make a sheet that is cut into the same groups: so what one more group, or a group in the place of another, does to the classes of two sheets.
-- Then the model's sheet and bytes, as they are read back from its buffer.
-- Assumes nothing.
use mathlib.Core.Path.{◌≡◌, refl, sym, ap, ◌∙◌}
use mathlib.Core.Logic.{◌≢◌}
use mathlib.Core.List.{List, [], ◌∷◌, ◌++◌, map, map-append, append_assoc}
use Prim.Native.Nat.{ℕ, zero, suc, ◌+◌, ◌<◌}
use native.Mathlib.Nat.{zero-add, suc-add}
use native.Mathlib.Omega.{arith}
use lib.ListN.{length, get_or, take, drop, set, length-append, get_or-append}
use lib.Seq.{take-append_seam, drop-append_seam, get_or-set_other}
use Rattle.spec.specs.Lists.{concat}
use Rattle.spec.specs.Sheet.{Group, records_of, groups_of, class_count, total, group}
use Rattle.laws.proofs.All.{All, all_append, all_set}
use Rattle.theory.proofs.Cut.{IsGroup, groups_of_join, count_of_join}
use Rattle.history.specs.Model.{Model, sheet, used, buffer}

-- ---- lists

map_set : {A B : Type 0} (f : A → B) (xs : List A) (k : ℕ) (a : A) → map f (set xs k a) ≡ set (map f xs) k (f a)
map_set f [] k a = refl
map_set f (x ∷ xs) zero a = refl
map_set f (x ∷ xs) (suc k) a = ap (λ l. f x ∷ l) (map_set f xs k a)

-- a store at place k of the second of two lists is seen at no other place
get_or_second : {A : Type 0} (xs ys : List A) (k : ℕ) (a z : A) (d : ℕ) → d ≢ length xs + k → get_or (xs ++ set ys k a) d z ≡ get_or (xs ++ ys) d z
get_or_second [] ys k a z d ne = get_or-set_other ys k d a z (λ e. ne (e ∙ sym (zero-add k)))
get_or_second (x ∷ xs) ys k a z zero ne = refl
get_or_second (x ∷ xs) ys k a z (suc d) ne = get_or_second xs ys k a z d (λ e. ne (ap suc e ∙ sym (suc-add (length xs) k)))

-- ---- the classes of a sheet of whole groups

pub total_count : (library : List ℕ) (gs : List (List ℕ)) → All IsGroup gs → total library (concat gs) ≡ class_count library + length gs
unfolding total
total_count library gs w = ap (λ (n : ℕ). class_count library + n) (count_of_join gs w)

module _ (library : List ℕ) (gs : List (List ℕ)) (g : List ℕ) (w : All IsGroup gs) (wg : IsGroup g) where
  pub added_groups : groups_of (concat (gs ++ (g ∷ []))) ≡ groups_of (concat gs) ++ (records_of g ∷ [])
  added_groups =
      groups_of_join (gs ++ (g ∷ [])) (all_append IsGroup gs (g ∷ []) w (wg, tt))
      ∙ map-append records_of gs (g ∷ []) ∙ ap (λ (l : List Group). l ++ (records_of g ∷ [])) (sym (groups_of_join gs w))

  -- with one more group every class keeps its own
  pub added_group : (d : ℕ) → d < total library (concat gs) → group library (concat gs) d ≡ group library (concat (gs ++ (g ∷ []))) d
  unfolding group total class_count
  added_group d h =
      sym (get_or-append (groups_of library ++ groups_of (concat gs)) (records_of g ∷ []) [] d (omega (arith, length-append (groups_of library) (groups_of (concat gs)))))
      ∙ ap (λ (l : List Group). get_or l d [])
      (append_assoc (groups_of library) (groups_of (concat gs)) (records_of g ∷ []) ∙ ap (λ (l : List Group). groups_of library ++ l) (sym added_groups))

  set_groups : (k : ℕ) → groups_of (concat (set gs k g)) ≡ set (groups_of (concat gs)) k (records_of g)
  set_groups k =
      groups_of_join (set gs k g) (all_set IsGroup gs k g w wg) ∙ map_set records_of gs k g ∙ ap (λ (l : List Group). set l k (records_of g)) (sym (groups_of_join gs w))

  -- with a group in the place of another every other class keeps its own
  pub set_group : (k d : ℕ) → d ≢ class_count library + k → group library (concat (set gs k g)) d ≡ group library (concat gs) d
  unfolding group class_count
  set_group k d ne =
      ap (λ (l : List Group). get_or (groups_of library ++ l) d []) (set_groups k) ∙ get_or_second (groups_of library) (groups_of (concat gs)) k (records_of g) [] d ne

-- ---- the buffer is the sheet and then the bytes past it

pub front_is : (m : Model) → take (used m) (buffer m) ≡ sheet m
unfolding used buffer
front_is m = take-append_seam (sheet m) m.past

pub rest_is : (m : Model) → drop (used m) (buffer m) ≡ m.past
unfolding used buffer
rest_is m = drop-append_seam (sheet m) m.past
