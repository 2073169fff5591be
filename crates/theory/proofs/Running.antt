-- Where the groups of a sheet begin: each start is found from the one before it and the bytes at or after that one alone.
-- Assumes nothing.
use mathlib.Core.Path.{◌≡◌, refl, sym, ap, ◌∙◌, subst}
use mathlib.Core.List.{List, [], ◌∷◌, ◌++◌, append-nil}
use Prim.Native.Nat.{ℕ, zero, suc, ◌+◌, ◌≤◌, ◌<◌}
use native.Mathlib.Nat.{add-zero}
use native.Mathlib.Omega.{arith}
use lib.Dec.{T}
use lib.ListN.{length, get_or, take, drop, length-append, take-append-drop}
use lib.Seq.{take-suc, take-length, length-take-le, get_or-drop, drop_at}
use Rattle.spec.specs.Lists.{concat}
use Rattle.spec.specs.Sheet.{Group, records_of, split_groups, groups_of, class_count, group_start}
use Rattle.spec.specs.Refusals.{one_class}
use Rattle.theory.specs.Claims.{first_length, running, Carried, RunningHolds}
use Rattle.laws.proofs.All.{All, all_drop, all_right}
use Rattle.theory.proofs.Cut.{Whole, records_of_whole, records_of_join, concat_append, concat_concat, split_parts, split_join, records_grouped, sheet_grouped}
use Rattle.theory.proofs.Accept.{Clear}
use Rattle.theory.proofs.Form.{accepted_sound}
use Rattle.theory.proofs.Unrefused.{present_facts}

-- a group begins where the one before it ends
pub group_next : (s : List ℕ) (i : ℕ) → i < class_count s → group_start s (i + 1) ≡ group_start s i + length (concat (get_or (groups_of s) i []))
unfolding group_start class_count concat
group_next s i h =
    let front = concat (take i (groups_of s)) in
    let g : Group = get_or (groups_of s) i [] in
    let e : i + 1 ≡ suc i = omega arith in
    ap (λ (k : ℕ). length (concat (concat (take k (groups_of s))))) e
    ∙ ap (λ (x : List Group). length (concat (concat x))) (take-suc (groups_of s) i [] h)
    ∙ ap (λ (x : List (List ℕ)). length (concat x)) (concat_append (take i (groups_of s)) (g ∷ []) ∙ ap (λ (x : List (List ℕ)). front ++ x) (append-nil g))
    ∙ ap length (concat_append front g)
    ∙ length-append (concat front) (concat g)

pub running_next : (s : List ℕ) (i : ℕ) → running s (i + 1) ≡ running s i + first_length (drop (running s i) s)
unfolding running
running_next s i = let e : i + 1 ≡ suc i = omega arith in ap (running s) e

module _ {sheet n : ℕ} {s : List ℕ} (clear : Clear sheet n s) where
  -- the sheet is its groups end to end
  pub joined : concat (concat (groups_of s)) ≡ s
  joined = sym (concat_concat (groups_of s)) ∙ sheet_grouped s clear.end clear.loose

  pub group_last : group_start s (class_count s) ≡ length s
  unfolding group_start class_count
  group_last = ap (λ (x : List Group). length (concat (concat x))) (take-length (groups_of s)) ∙ ap length joined

  -- ---- the bytes from the start of a group on

  module _ (i : ℕ) where
    parted : concat (groups_of s) ≡ concat (take i (groups_of s)) ++ concat (drop i (groups_of s))
    parted = ap concat (sym (take-append-drop i (groups_of s))) ∙ concat_append (take i (groups_of s)) (drop i (groups_of s))

    -- what holds of all records holds of those that stand there
    pub rest_all : (P : List ℕ → Type 0) → All P (records_of s) → All P (concat (drop i (groups_of s)))
    rest_all P h = all_right P (concat (take i (groups_of s))) (concat (drop i (groups_of s))) (subst (All P) (records_grouped s clear.end clear.loose ∙ parted) h)

    pub rest_bytes : drop (group_start s i) s ≡ concat (concat (drop i (groups_of s)))
    unfolding group_start
    rest_bytes =
        let front : List (List ℕ) = concat (take i (groups_of s)) in
        let rest : List (List ℕ) = concat (drop i (groups_of s)) in
        ap (drop (length (concat front))) (sym joined ∙ ap concat parted ∙ concat_append front rest) ∙ drop_at (concat front) (concat rest) (length (concat front)) refl

    pub rest_records : records_of (drop (group_start s i) s) ≡ concat (drop i (groups_of s))
    rest_records = ap records_of rest_bytes ∙ records_of_join (concat (drop i (groups_of s))) (rest_all Whole (records_of_whole s))

    rest_split : ((split_groups (concat (drop i (groups_of s)))).loose ≡ []) × ((split_groups (concat (drop i (groups_of s)))).groups ≡ drop i (groups_of s))
    unfolding groups_of
    rest_split = split_join (drop i (groups_of s)) (all_drop (λ h. T (one_class h)) i (groups_of s) (split_parts (records_of s)).one)

    pub rest_loose : (split_groups (records_of (drop (group_start s i) s))).loose ≡ []
    rest_loose = ap (λ (rs : List (List ℕ)). (split_groups rs).loose) rest_records ∙ rest_split.0

    pub rest_groups : groups_of (drop (group_start s i) s) ≡ drop i (groups_of s)
    unfolding groups_of
    rest_groups = ap (λ (rs : List (List ℕ)). (split_groups rs).groups) rest_records ∙ rest_split.1

    first_length_lem : first_length (drop (group_start s i) s) ≡ length (concat (get_or (groups_of s) i []))
    unfolding first_length
    first_length_lem =
        ap (λ (gs : List Group). length (concat (get_or gs 0 []))) rest_groups
        ∙ ap (λ (g : Group). length (concat g)) (get_or-drop i (groups_of s) 0 [] ∙ ap (λ (k : ℕ). get_or (groups_of s) k []) (add-zero i))

  -- ---- the running position

  pub begins : (i : ℕ) → i ≤ class_count s → running s i ≡ group_start s i
  unfolding running
  begins zero h = unfold group_start concat in refl
  begins (suc i) h =
      let e : i + 1 ≡ suc i = omega arith in
      ap (λ (k : ℕ). k + first_length (drop k s)) (begins i (omega arith))
      ∙ ap (λ (k : ℕ). group_start s i + k) (first_length_lem i)
      ∙ sym (group_next s i (omega arith))
      ∙ ap (group_start s) e

  carried : Carried s (length s)
  carried = record {
    begins = begins;
    stands = λ i h. ap (λ (k : ℕ). drop k s) (begins i h) ∙ rest_bytes i;
    onward = λ i h. ap (λ (k : ℕ). groups_of (drop k s)) (begins i h) ∙ rest_groups i;
    end = begins (class_count s) (omega arith) ∙ group_last;
  }

pub running_holds : RunningHolds
running_holds library user used e =
    subst (Carried (take used user)) (length-take-le used user (present_facts library user used e).in_buffer) (carried (accepted_sound library user used e).user_sheet)
