-- What it says of two sheets, and of a new group, that no refusal stands against them.
-- Assumes nothing.
use mathlib.Core.Path.{◌≡◌}
use mathlib.Core.Bool.{not, ◌||◌}
use mathlib.Core.List.{List, [], ◌∷◌}
use mathlib.Core.Option.{none}
use Prim.Native.Nat.{ℕ, ◌≤◌}
use lib.Dec.{ltb, nltb→le}
use lib.ListN.{length, take}
use Rattle.spec.specs.Sheet.{class_count}
use Rattle.spec.specs.Refusals.{refuse_if, sheet_limit, scratch_length, whole_group, size_refusal, sheet_refusal, new_refusal, present_refusal, short_refusal, group_refusal, room_refusal}
use Rattle.laws.proofs.Bools.{un_not, not_or, not_or_l, not_or_r, nltb}
use Rattle.laws.proofs.All.{All}
use Rattle.theory.proofs.Cut.{IsGroup}
use Rattle.theory.proofs.Answers.{first_none, none_first, if_none, none_if, plain_none, none_plain}

-- ---- 1 to 11 and 16 of the present sheets

pub record Present (library user : List ℕ) (used : ℕ) : Type 0 where
  pub library_size : length library ≤ sheet_limit
  pub user_size : used ≤ sheet_limit
  pub in_buffer : used ≤ length user
  pub sheets : sheet_refusal library (take used user) ≡ none

module _ (library user : List ℕ) (used : ℕ) where
  pub present_facts : present_refusal library user used ≡ none → Present library user used
  unfolding present_refusal size_refusal
  present_facts e =
      let q = first_none _ e in
      let r = first_none _ q.0 in
      let u = if_none (ltb sheet_limit used || ltb (length user) used) 1 1 0 r.1.0 in
      record {
        library_size = nltb→le sheet_limit (length library) (if_none (ltb sheet_limit (length library)) 1 0 0 r.0);
        user_size = nltb→le sheet_limit used (not_or_l (ltb sheet_limit used) (ltb (length user) used) u);
        in_buffer = nltb→le (length user) used (not_or_r (ltb sheet_limit used) (ltb (length user) used) u);
        sheets = q.1.0;
      }

  pub facts_present : Present library user used → present_refusal library user used ≡ none
  unfolding present_refusal size_refusal
  facts_present p =
      none_first (size_refusal library user used ∷ sheet_refusal library (take used user) ∷ []) (
        none_first (refuse_if (ltb sheet_limit (length library)) 1 0 0 ∷ refuse_if (ltb sheet_limit used || ltb (length user) used) 1 1 0 ∷ []) (
          none_if (ltb sheet_limit (length library)) 1 0 0 (nltb sheet_limit (length library) p.library_size),
          (
            none_if (ltb sheet_limit used || ltb (length user) used) 1 1 0
                (not_or (ltb sheet_limit used) (ltb (length user) used) (nltb sheet_limit used p.user_size) (nltb (length user) used p.in_buffer)),
            tt,
          ),
        ),
        (p.sheets, tt),
      )

-- ---- 12

pub short_none : (needed lines scratch : ℕ) → short_refusal needed lines scratch ≡ none → needed ≤ lines
unfolding short_refusal
short_none needed lines scratch e =
    nltb→le lines needed (not_or_l (ltb lines needed) (ltb scratch scratch_length) (plain_none (ltb lines needed || ltb scratch scratch_length) 12 e))

pub none_short : (needed lines : ℕ) → needed ≤ lines → short_refusal needed lines scratch_length ≡ none
unfolding short_refusal
none_short needed lines h =
    none_plain (ltb lines needed || ltb scratch_length scratch_length) 12 (not_or (ltb lines needed) (ltb scratch_length scratch_length) (nltb lines needed h) tt)

-- ---- 14, 15, 3 to 11 and 16, and 12, as every operation that writes a new sheet asks them last

pub record Passes (library g new : List ℕ) (lines : ℕ) : Type 0 where
  pub whole : IsGroup g
  pub size : length new ≤ sheet_limit
  pub sheets : new_refusal library new ≡ none
  pub room : class_count new ≤ lines

pub edit_passes : (library user g new : List ℕ) (lines scratch : ℕ)
    → All (λ o. o ≡ none) (group_refusal g ∷ room_refusal user new ∷ new_refusal library new ∷ short_refusal (class_count new) lines scratch ∷ [])
    → Passes library g new lines
unfolding group_refusal room_refusal IsGroup
edit_passes library user g new lines scratch q = record {
  whole = un_not (whole_group g) (plain_none (not (whole_group g)) 14 q.0);
  size = nltb→le sheet_limit (length new)
      (not_or_r (ltb (length user) (length new)) (ltb sheet_limit (length new)) (plain_none (ltb (length user) (length new) || ltb sheet_limit (length new)) 15 q.1.0));
  sheets = q.1.1.0;
  room = short_none (class_count new) lines scratch q.1.1.1.0;
}
