-- Where the group of a class stands in the sheet that holds it, what stands in its CLASS record, and where the next group begins.
-- Assumes nothing.
use mathlib.Core.Path.{◌≡◌, refl, sym, ap, ◌∙◌}
use mathlib.Core.Bool.{not}
use mathlib.Core.List.{List, [], ◌∷◌, ◌++◌}
use mathlib.Core.Logic.{◌⊎◌, inl, inr}
use Prim.Native.Nat.{ℕ, suc, ◌+◌, ◌-◌, ◌≤◌, ◌<◌}
use native.Mathlib.Omega.{arith}
use lib.Dec.{T, T_not, eqb, leb, ltb, eqb→eq, leb→le, ltb→lt, nltb→le}
use lib.ListN.{length, get_or, take, drop, length-append, get_or-append}
use lib.Seq.{split_at, get_or-append-add}
use borrow.Author.Tests.{eq-eqb, ne_eqb, lt-ltb, le-ltb}
use Rattle.spec.specs.Lists.{concat}
use Rattle.spec.specs.Record.{u16, kind, is_class, by_kind, with_name, length_fits}
use Rattle.spec.specs.Sheet.{Group, records_of, groups_of, class_count, group_start, total, group, class_record, located_in}
use Rattle.spec.specs.Refusals.{one_class}
use Rattle.theory.specs.Claims.{sheet_of}
use Rattle.laws.proofs.All.{All, all_append, all_get, all_at}
use Rattle.laws.proofs.Bools.{decide, and_l, and_r, eq→eqb}
use Rattle.laws.proofs.Parts.{part_length}
use Rattle.theory.proofs.Cut.{Whole, records_of_whole, concat_append, in_groups, split_parts}
use Rattle.theory.proofs.Accept.{each_record, Clear}
use Rattle.theory.proofs.Form.{class_first}
use Rattle.theory.proofs.Running.{joined, group_next, group_last}
use Rattle.groups.specs.Groups.{sheet_number, start_of, end_of, Indexed}
use Rattle.records.specs.Records.{between, Tiled}
use Rattle.records.proofs.Between.{placed, tiled_step}

-- ---- a CLASS record

-- twelve bytes and a name of at most 100
class_sizes : (r : List ℕ) → T (is_class r) → T (length_fits r) → (13 ≤ length r) × (length r ≤ 112)
unfolding length_fits by_kind with_name
class_sizes r k t =
    let e : kind r ≡ 1 = eqb→eq (kind r) 1 k in
    let u = rw e at t in
    (leb→le 13 (length r) (and_l (leb 13 (length r)) (leb (length r) 112) u), leb→le (length r) 112 (and_r (leb 13 (length r)) (leb (length r) 112) u))

pub first_within : (g : Group) → length (class_record g) ≤ length (concat g)
unfolding class_record concat
first_within [] = omega arith
first_within (r ∷ rs) = omega (arith, length-append r (concat rs))

-- ---- one sheet

module _ {sheet n : ℕ} {s : List ℕ} (clear : Clear sheet n s) where
  pub record_lengths : All (λ r. T (length_fits r)) (records_of s)
  unfolding located_in
  record_lengths = each_record (λ r. T (length_fits r)) sheet (λ l e p. p.length_fits) 0 n 0 0 (records_of s) clear.passed

  pub sheet_lengths : All (All (λ r. T (length_fits r))) (groups_of s)
  sheet_lengths = in_groups (λ r. T (length_fits r)) s record_lengths

  module _ (i : ℕ) (h : i < class_count s) where
    around : concat (groups_of s) ≡ concat (take i (groups_of s)) ++ (get_or (groups_of s) i [] ++ concat (drop (suc i) (groups_of s)))
    unfolding class_count concat
    around =
        ap concat (split_at (groups_of s) i [] h) ∙ concat_append (take i (groups_of s)) (get_or (groups_of s) i [] ∷ drop (suc i) (groups_of s))

    -- a group stands where the groups before it end
    pub group_placed : Tiled s (group_start s i) (group_start s i + length (concat (get_or (groups_of s) i [])))
        × (between s (group_start s i) (group_start s i + length (concat (get_or (groups_of s) i []))) ≡ get_or (groups_of s) i [])
    unfolding group_start
    group_placed =
        let front = concat (take i (groups_of s)) in
        let g : Group = get_or (groups_of s) i [] in
        let rest = concat (drop (suc i) (groups_of s)) in
        let w : All Whole g = all_get {A = Group} (All Whole) [] (groups_of s) (in_groups Whole s (records_of_whole s)) tt i in
        placed s (concat front) g (concat rest) (length (concat front)) (length (concat front) + length (concat g)) w
        (sym (joined clear) ∙ ap concat around ∙ concat_append front (g ++ rest) ∙ ap (λ (x : List ℕ). concat front ++ x) (concat_append g rest)) refl refl

    -- its CLASS record, which comes first
    pub class_fits : (13 ≤ length (class_record (get_or (groups_of s) i []))) × (length (class_record (get_or (groups_of s) i [])) ≤ 112)
    unfolding class_count groups_of
    class_fits =
        let g : Group = get_or (groups_of s) i [] in
        let a : All (λ r. T (length_fits r)) g = all_get {A = Group} (All (λ r. T (length_fits r))) [] (groups_of s) sheet_lengths tt i in
        let f = class_first (λ r. T (length_fits r)) g (all_at (λ h. T (one_class h)) [] (groups_of s) (split_parts (records_of s)).one i h) a in
        class_sizes (class_record g) f.1 f.0

    nonempty : group_start s i < group_start s i + length (concat (get_or (groups_of s) i []))
    nonempty = omega (arith, class_fits.0, first_within (get_or (groups_of s) i []))

    pub class_here : class_record (get_or (groups_of s) i []) ≡ take (u16 s (group_start s i)) (drop (group_start s i) s)
    unfolding class_record
    class_here = ap class_record (sym group_placed.1 ∙ (tiled_step group_placed.0 nonempty).2)

    pub class_long_here : length (class_record (get_or (groups_of s) i [])) ≡ u16 s (group_start s i)
    class_long_here =
        let at = group_start s i in
        ap length class_here ∙ part_length s at (u16 s at) (omega (arith, (tiled_step group_placed.0 nonempty).1, group_placed.0.within))

-- ---- two sheets

module _ (library user : List ℕ) (sheet : ℕ) where
  pub library_sheet_lem : sheet ≡ 0 → sheet_of library user sheet ≡ library
  library_sheet_lem e = rw (eq-eqb sheet 0 e, sheet_of)

  pub user_sheet_lem : (sheet ≡ 0 → ⊥) → sheet_of library user sheet ≡ user
  user_sheet_lem ne = rw (ne_eqb sheet 0 ne, sheet_of)

-- both are short
pub sheet_low : {library user : List ℕ} {nlib n : ℕ} {row : List ℕ} → Indexed library user nlib n row → (sheet : ℕ) → length (sheet_of library user sheet) ≤ 32768
sheet_low {library} {user} x sheet = go (decide (eqb sheet 0))
  where
    go : T (eqb sheet 0) ⊎ T (not (eqb sheet 0)) → length (sheet_of library user sheet) ≤ 32768
    go (inl t) = rw (library_sheet_lem library user sheet (eqb→eq sheet 0 t)) x.library_size
    go (inr t) = rw (user_sheet_lem library user sheet (λ e. T_not (eqb sheet 0) t (eq→eqb e))) x.user_size

pub library_number : (nlib c : ℕ) → c < nlib → sheet_number nlib c ≡ 0
unfolding sheet_number
library_number nlib c h = rw (lt-ltb c nlib h, sheet_number)

pub user_number : (nlib c : ℕ) → nlib ≤ c → sheet_number nlib c ≡ 1
unfolding sheet_number
user_number nlib c h = rw (le-ltb c nlib h, sheet_number)

-- class c is number i of the sheet s
pub record Held (library user : List ℕ) (nlib c : ℕ) (s : List ℕ) (i : ℕ) : Type 0 where
  pub is : sheet_of library user (sheet_number nlib c) ≡ s
  pub sheet : ℕ
  pub before : ℕ
  pub clear : Clear sheet before s
  pub there : i < class_count s
  pub start : start_of library user c ≡ group_start s i
  pub its : group library user c ≡ get_or (groups_of s) i []

module _ {library user : List ℕ} {nlib n : ℕ} {row : List ℕ} (x : Indexed library user nlib n row) {c : ℕ} where
  pub in_library : c < nlib → Held library user nlib c library c
  unfolding start_of group class_count
  in_library h =
      let l : c < length (groups_of library) = omega (arith, x.nlib_is) in
      record {
        is = library_sheet_lem library user (sheet_number nlib c) (library_number nlib c h);
        sheet = 0;
        before = 0;
        clear = x.library_clear;
        there = l;
        start = rw (lt-ltb c (length (groups_of library)) l, start_of);
        its = get_or-append (groups_of library) (groups_of user) [] c l;
      }

  pub in_user : nlib ≤ c → c < n → Held library user nlib c user (c - nlib)
  unfolding start_of group class_count total
  in_user h l =
      let k : length (groups_of library) ≤ c = omega (arith, x.nlib_is) in
      let e : length (groups_of library) + (c - nlib) ≡ c = omega (arith, x.nlib_is) in
      let d : c - length (groups_of library) ≡ c - nlib = omega (arith, x.nlib_is) in
      record {
        is = user_sheet_lem library user (sheet_number nlib c) (omega (arith, user_number nlib c h));
        sheet = 1;
        before = class_count library;
        clear = x.user_clear;
        there = omega (arith, x.nlib_is, x.n_is);
        start = rw (le-ltb c (length (groups_of library)) k, start_of) (ap (group_start user) d);
        its = ap (λ (k : ℕ). get_or (groups_of library ++ groups_of user) k []) (sym e) ∙ get_or-append-add (groups_of library) (groups_of user) (c - nlib) [];
      }

-- each record of a class has a length that its kind can have
pub group_lengths : {library user : List ℕ} {nlib n : ℕ} {row : List ℕ} → Indexed library user nlib n row → (c : ℕ) → All (λ r. T (length_fits r)) (group library user c)
unfolding group
group_lengths {library} {user} x c =
    all_get {A = Group} (All (λ r. T (length_fits r))) [] (groups_of library ++ groups_of user)
    (all_append (All (λ r. T (length_fits r))) (groups_of library) (groups_of user) (sheet_lengths x.library_clear) (sheet_lengths x.user_clear)) tt c

module _ {library user : List ℕ} {nlib c : ℕ} {s : List ℕ} {i : ℕ} (h : Held library user nlib c s i) where
  pub held_placed : Tiled (sheet_of library user (sheet_number nlib c)) (start_of library user c) (end_of library user c)
      × (between (sheet_of library user (sheet_number nlib c)) (start_of library user c) (end_of library user c) ≡ group library user c)
  unfolding end_of
  held_placed = rw (h.is, h.start, h.its) (group_placed h.clear i h.there)

  pub held_end : end_of library user c ≡ group_start s (i + 1)
  unfolding end_of
  held_end = rw (h.start, h.its) (sym (group_next s i h.there))

module _ {library user : List ℕ} {nlib n : ℕ} {row : List ℕ} (x : Indexed library user nlib n row) {c : ℕ} (h : c < n) where
  -- what holds of a class of either sheet
  by_sheet : (P : Type 0) → ((s : List ℕ) (i : ℕ) → Held library user nlib c s i → P) → P
  by_sheet P f = go (decide (ltb c nlib))
    where
      go : T (ltb c nlib) ⊎ T (not (ltb c nlib)) → P
      go (inl t) = f library c (in_library x (ltb→lt c nlib t))
      go (inr t) = f user (c - nlib) (in_user x (nltb→le c nlib t) h)

  -- ---- the group of a class in its sheet

  pub group_tiled : Tiled (sheet_of library user (sheet_number nlib c)) (start_of library user c) (end_of library user c)
  group_tiled = by_sheet _ (λ s i k. (held_placed k).0)

  pub group_between : between (sheet_of library user (sheet_number nlib c)) (start_of library user c) (end_of library user c) ≡ group library user c
  group_between = by_sheet _ (λ s i k. (held_placed k).1)

  pub end_small : end_of library user c ≤ 32768
  end_small = omega (arith, group_tiled, sheet_low x (sheet_number nlib c))

  -- ---- where the next group begins

  pub library_end : c + 1 ≡ nlib → end_of library user c ≡ length library
  library_end e = held_end (in_library x (omega arith)) ∙ ap (group_start library) (e ∙ x.nlib_is) ∙ group_last x.library_clear

  pub user_end : (c + 1 ≡ nlib → ⊥) → c + 1 ≡ n → end_of library user c ≡ length user
  unfolding total
  user_end ne e =
      let k : nlib ≤ c = omega (arith, x.nlib_is, x.n_is) in
      let d : c - nlib + 1 ≡ class_count user = omega (arith, x.nlib_is, x.n_is) in
      held_end (in_user x k h) ∙ ap (group_start user) d ∙ group_last x.user_clear

  pub next_start : (c + 1 ≡ nlib → ⊥) → c + 1 < n → start_of library user (c + 1) ≡ end_of library user c
  next_start ne l = go (decide (ltb c nlib))
    where
      go : T (ltb c nlib) ⊎ T (not (ltb c nlib)) → start_of library user (c + 1) ≡ end_of library user c
      go (inl t) = let k : c < nlib = ltb→lt c nlib t in (in_library x {c = c + 1} (omega arith)).start ∙ sym (held_end (in_library x k))
      go (inr t) =
          let k : nlib ≤ c = nltb→le c nlib t in
          let e : c + 1 - nlib ≡ c - nlib + 1 = omega arith in
          (in_user x {c = c + 1} (omega arith) l).start ∙ ap (group_start user) e ∙ sym (held_end (in_user x k h))

  -- ---- the CLASS record, which comes first

  pub class_long : 13 ≤ length (class_record (group library user c))
  class_long = by_sheet _ (λ s i k. rw k.its (class_fits k.clear i k.there).0)

  pub class_room : start_of library user c + length (class_record (group library user c)) ≤ end_of library user c
  unfolding end_of
  class_room = omega (arith, first_within (group library user c))

  pub class_there : start_of library user c < end_of library user c
  class_there = omega (arith, class_long, class_room)
