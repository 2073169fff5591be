-- Records and groups: cutting bytes into them and joining them again.
-- Assumes nothing.
use mathlib.Core.Path.{◌≡◌, refl, sym, ap, ap₂, ◌∙◌, subst}
use mathlib.Core.Bool.{Bool, true, false, not, ◌&&◌, ◌||◌}
use mathlib.Core.List.{List, [], ◌∷◌, ◌++◌, map, append_assoc, append-nil}
use Prim.Native.Nat.{ℕ, zero, suc, ◌+◌, ◌*◌, ◌≤◌, ◌<◌, zero-le}
use native.Mathlib.Nat.{le_of_suc-le-suc, not-suc-le-zero, le_refl}
use native.Mathlib.Omega.{arith}
use lib.Dec.{T, eqb, leb, eqb→eq, leb→le, eqb_refl}
use lib.ListN.{length, take, drop, length-append, length-drop, length-map, take-append-drop, get_or-append}
use lib.Seq.{take-append_seam, drop-append_seam, length-take-le}
use borrow.Author.Tests.{le-leb}
use Rattle.spec.specs.Lists.{any, concat}
use Rattle.spec.specs.Record.{u16, is_class}
use Rattle.spec.specs.Sheet.{Group, whole_first, records_in, records_of, whole_end, Split, split_groups, groups_of, class_count}
use Rattle.spec.specs.Refusals.{one_class, whole_group}
use Rattle.laws.proofs.All.{All, all_right, all_map, all_concat, each_concat}
use Rattle.laws.proofs.Parts.{u16_take}
use Rattle.laws.proofs.Bools.{t_and, t_true, t_false, true_t, and_l, and_r, not_or_l, not_or_r}

-- a list of bytes that is one whole record
pub record Whole (r : List ℕ) : Type 0 where
  pub four : 4 ≤ length r
  pub own : u16 r 0 ≡ length r

u16_append : (r t : List ℕ) → 4 ≤ length r → u16 (r ++ t) 0 ≡ u16 r 0
unfolding u16
u16_append r t h = ap₂ (λ (a b : ℕ). a + 256 * b) (get_or-append r t 0 0 (omega arith)) (get_or-append r t 0 1 (omega arith))

-- whether a whole record comes first, in numbers
pub record First (s : List ℕ) : Type 0 where
  pub left : 4 ≤ length s
  pub four : 4 ≤ u16 s 0
  pub ends : u16 s 0 ≤ length s

module _ (s : List ℕ) where
  pub first_is : T (whole_first s) → First s
  unfolding whole_first
  first_is t =
      let a : T (leb 4 (length s) && leb 4 (u16 s 0)) = and_l (leb 4 (length s) && leb 4 (u16 s 0)) (leb (u16 s 0) (length s)) t in
      record {
        left = leb→le 4 (length s) (and_l (leb 4 (length s)) (leb 4 (u16 s 0)) a);
        four = leb→le 4 (u16 s 0) (and_r (leb 4 (length s)) (leb 4 (u16 s 0)) a);
        ends = leb→le (u16 s 0) (length s) (and_r (leb 4 (length s) && leb 4 (u16 s 0)) (leb (u16 s 0) (length s)) t);
      }

  pub is_first : First s → whole_first s ≡ true
  unfolding whole_first
  is_first f = rw (le-leb 4 (length s) f.left, le-leb 4 (u16 s 0) f.four, le-leb (u16 s 0) (length s) f.ends)

-- one record and the others
pub records_first : (n : ℕ) (s : List ℕ) → whole_first s ≡ true → records_in (suc n) s ≡ take (u16 s 0) s ∷ records_in n (drop (u16 s 0) s)
unfolding records_in
records_first n s e = rw (e, records_in)

-- ---- the records one by one

stop_in : (n : ℕ) (s : List ℕ) → whole_first s ≡ false → records_in n s ≡ []
unfolding records_in
stop_in zero s e = refl
stop_in (suc n) s e = rw (e, records_in)

pub short_stop : (s : List ℕ) → length s < 4 → whole_first s ≡ false
short_stop s h = go (whole_first s) refl
  where
    go : (b : Bool) → whole_first s ≡ b → b ≡ false
    go true e = absurd (omega (arith, (first_is s (true_t e)).left))
    go false e = refl

-- fuel past the length changes nothing
enough : (n m : ℕ) (s : List ℕ) → length s ≤ n → length s ≤ m → records_in n s ≡ records_in m s
enough zero m s h k = stop_in zero s (short_stop s (omega arith)) ∙ sym (stop_in m s (short_stop s (omega arith)))
enough (suc n) zero s h k = stop_in (suc n) s (short_stop s (omega arith)) ∙ sym (stop_in zero s (short_stop s (omega arith)))
enough (suc n) (suc m) s h k = go (whole_first s) refl (enough n m)
  where
    go : (b : Bool) → whole_first s ≡ b → ((t : List ℕ) → length t ≤ n → length t ≤ m → records_in n t ≡ records_in m t) → records_in (suc n) s ≡ records_in (suc m) s
    go true e ih =
        let f = first_is s (true_t e) in
        let d = length-drop (u16 s 0) s in
        rw (records_first n s e, records_first m s e, ih (drop (u16 s 0) s) (omega arith) (omega arith))
    go false e ih = stop_in (suc n) s e ∙ sym (stop_in (suc m) s e)

pub records_step : (s : List ℕ) → whole_first s ≡ true → records_of s ≡ take (u16 s 0) s ∷ records_of (drop (u16 s 0) s)
unfolding records_of
records_step s e =
    let t : List ℕ = drop (u16 s 0) s in
    let f = first_is s (true_t e) in
    let d = length-drop (u16 s 0) s in
    enough (length s) (suc (length s)) s (omega arith) (omega arith) ∙ rw (records_first (length s) s e, enough (length s) (length t) t (omega arith) (omega arith))

pub records_stop : (s : List ℕ) → whole_first s ≡ false → records_of s ≡ []
unfolding records_of
records_stop s e = stop_in (length s) s e

-- ---- the whole records lie in the sheet

records_low : (n : ℕ) (s : List ℕ) → length (concat (records_in n s)) ≤ length s
unfolding records_in concat
records_low zero s = zero-le
records_low (suc n) s = go (whole_first s) (records_low n (drop (u16 s 0) s))
  where
    rest : List (List ℕ)
    rest = records_in n (drop (u16 s 0) s)

    go : (b : Bool) → length (concat rest) ≤ length (drop (u16 s 0) s)
        → length {A = ℕ} (concat (elim b as (λ (c : Bool). List (List ℕ)) [ true ↦ take (u16 s 0) s ∷ rest | false ↦ [] ])) ≤ length s
    go true h = omega (arith, length-append (take (u16 s 0) s) (concat rest), length-append (take (u16 s 0) s) (drop (u16 s 0) s), ap length (take-append-drop (u16 s 0) s))
    go false h = zero-le

pub end_low : (s : List ℕ) → whole_end s ≤ length s
unfolding whole_end records_of
end_low s = records_low (length s) s

-- ---- whole records end to end

whole_first_lem : (r t : List ℕ) → Whole r → whole_first (r ++ t) ≡ true
whole_first_lem r t w =
    let u = u16_append r t w.four in
    let l = length-append r t in
    is_first (r ++ t) (record { left = omega (arith, w); four = omega (arith, w); ends = omega (arith, w) })

records_cons : (n : ℕ) (r t : List ℕ) → Whole r → records_in (suc n) (r ++ t) ≡ r ∷ records_in n t
records_cons n r t w =
    records_first n (r ++ t) (whole_first_lem r t w)
    ∙ ap (λ (k : ℕ). take k (r ++ t) ∷ records_in n (drop k (r ++ t))) (u16_append r t w.four ∙ w.own)
    ∙ ap₂ (λ (a b : List ℕ). a ∷ records_in n b) (take-append_seam r t) (drop-append_seam r t)

records_nil : (n : ℕ) → records_in n [] ≡ []
unfolding records_in whole_first
records_nil zero = refl
records_nil (suc n) = refl

records_join : (n : ℕ) (rs : List (List ℕ)) → All Whole rs → length rs ≤ n → records_in n (concat rs) ≡ rs
unfolding concat
records_join n [] w h = records_nil n
records_join zero (r ∷ rs) w h = absurd (not-suc-le-zero h)
records_join (suc n) (r ∷ rs) w h = records_cons n r (concat rs) w.0 ∙ ap (λ (l : List (List ℕ)). r ∷ l) (records_join n rs w.1 (le_of_suc-le-suc h))

count_le : (rs : List (List ℕ)) → All Whole rs → length rs ≤ length (concat rs)
unfolding concat
count_le [] w = le_refl 0
count_le (r ∷ rs) w = omega (arith, length-append r (concat rs), count_le rs w.1, w.0.four)

-- whole records joined are cut into the same records
pub records_of_join : (rs : List (List ℕ)) → All Whole rs → records_of (concat rs) ≡ rs
unfolding records_of
records_of_join rs w = records_join (length (concat rs)) rs w (count_le rs w)

-- what is cut off is whole records
first_whole : (s : List ℕ) → T (whole_first s) → Whole (take (u16 s 0) s)
first_whole s t =
    let f = first_is s t in
    let l = length-take-le (u16 s 0) s f.ends in
    record { four = omega (arith, f); own = u16_take (u16 s 0) s 0 (omega (arith, f)) ∙ sym l }

if_t : {B : Type 0} (Q : B → Type 0) (b : Bool) (x y : B) → (T b → Q x) → Q y → Q (elim b as (λ (c : Bool). B) [ true ↦ x | false ↦ y ])
if_t Q true x y h k = h tt
if_t Q false x y h k = k

records_whole : (n : ℕ) (s : List ℕ) → All Whole (records_in n s)
unfolding records_in
records_whole zero s = tt
records_whole (suc n) s =
    if_t (All Whole) (whole_first s) (take (u16 s 0) s ∷ records_in n (drop (u16 s 0) s)) [] (λ t. (first_whole s t, records_whole n (drop (u16 s 0) s))) tt

pub records_of_whole : (s : List ℕ) → All Whole (records_of s)
unfolding records_of
records_of_whole s = records_whole (length s) s

-- the bytes begin with the records that are cut off
Begins : List ℕ → List (List ℕ) → Type 0
Begins s rs = (t : List ℕ) × (s ≡ concat rs ++ t)

records_begin : (n : ℕ) (s : List ℕ) → Begins s (records_in n s)
unfolding records_in Begins concat
records_begin zero s = (s, refl)
records_begin (suc n) s =
    let r = records_begin n (drop (u16 s 0) s) in
    if_t (Begins s) (whole_first s) (take (u16 s 0) s ∷ records_in n (drop (u16 s 0) s)) []
    (λ t. (r.0, sym (take-append-drop (u16 s 0) s) ∙ ap (λ (l : List ℕ). take (u16 s 0) s ++ l) r.1 ∙ sym (append_assoc (take (u16 s 0) s) (concat (records_in n (drop (u16 s 0) s))) r.0)))
    (s, refl)

length_zero : (t : List ℕ) → length t ≡ 0 → t ≡ []
length_zero [] h = refl
length_zero (x ∷ t) h = absurd (let z : suc (length t) ≤ 0 = omega arith in not-suc-le-zero z)

-- a sheet of whole records is its records end to end
pub join_records : (s : List ℕ) → whole_end s ≡ length s → concat (records_of s) ≡ s
unfolding whole_end records_of Begins
join_records s h =
    let r = records_begin (length s) s in
    let z : r.0 ≡ [] = length_zero r.0 (omega (arith, length-append (concat (records_in (length s) s)) r.0, ap length r.1, h)) in
    sym (append-nil (concat (records_in (length s) s))) ∙ ap (λ (t : List ℕ). concat (records_in (length s) s) ++ t) (sym z) ∙ sym r.1

-- ---- groups

pub concat_append : {A : Type 0} (xs ys : List (List A)) → concat (xs ++ ys) ≡ concat xs ++ concat ys
unfolding concat
concat_append [] ys = refl
concat_append (x ∷ xs) ys = ap (λ l. x ++ l) (concat_append xs ys) ∙ sym (append_assoc x (concat xs) (concat ys))

pub map_take : {A B : Type 0} (f : A → B) (n : ℕ) (xs : List A) → map f (take n xs) ≡ take n (map f xs)
map_take f zero xs = refl
map_take f (suc n) [] = refl
map_take f (suc n) (x ∷ xs) = ap (λ (l : List _). f x ∷ l) (map_take f n xs)

pub front_low : (k : ℕ) (rs : List (List ℕ)) → length (concat (take k rs)) ≤ length (concat rs)
front_low k rs =
    omega (arith, ap (λ (l : List (List ℕ)). length (concat l)) (take-append-drop k rs), ap length (concat_append (take k rs) (drop k rs)), length-append (concat (take k rs)) (concat (drop k rs)))

pub concat_concat : {A : Type 0} (xs : List (List (List A))) → concat (map concat xs) ≡ concat (concat xs)
unfolding concat
concat_concat [] = refl
concat_concat (x ∷ xs) = ap (λ l. concat x ++ l) (concat_concat xs) ∙ sym (concat_append x (concat xs))

-- one more record in front, a CLASS record or another
abbrev pub onto_class : List ℕ → Split → Split
onto_class r t = record { loose = []; groups = (r ∷ t.loose) ∷ t.groups }

abbrev pub onto_loose : List ℕ → Split → Split
onto_loose r t = record { loose = r ∷ t.loose; groups = t.groups }

pub split_class : (r : List ℕ) (rs : List (List ℕ)) → is_class r ≡ true → split_groups (r ∷ rs) ≡ onto_class r (split_groups rs)
unfolding split_groups
split_class r rs e =
    ap (λ (b : Bool). elim b as (λ (c : Bool). Split)
    [ true ↦ record { loose = []; groups = (r ∷ (split_groups rs).loose) ∷ (split_groups rs).groups } | false ↦ record { loose = r ∷ (split_groups rs).loose; groups = (split_groups rs).groups } ]) e

pub split_other : (r : List ℕ) (rs : List (List ℕ)) → is_class r ≡ false → split_groups (r ∷ rs) ≡ onto_loose r (split_groups rs)
unfolding split_groups
split_other r rs e =
    ap (λ (b : Bool). elim b as (λ (c : Bool). Split)
    [ true ↦ record { loose = []; groups = (r ∷ (split_groups rs).loose) ∷ (split_groups rs).groups } | false ↦ record { loose = r ∷ (split_groups rs).loose; groups = (split_groups rs).groups } ]) e

-- records after the first of a group
split_tail : (rs rest : List (List ℕ)) → T (not (any is_class rs)) → (split_groups rest).loose ≡ []
    → ((split_groups (rs ++ rest)).loose ≡ rs) × ((split_groups (rs ++ rest)).groups ≡ (split_groups rest).groups)
unfolding any
split_tail [] rest h e = (e, refl)
split_tail (r ∷ rs) rest h e =
    let k = split_tail rs rest (not_or_r (is_class r) (any is_class rs) h) e in
    let q = split_other r (rs ++ rest) (t_false (is_class r) (not_or_l (is_class r) (any is_class rs) h)) in
    (ap (λ (t : Split). t.loose) q ∙ ap (λ (l : List (List ℕ)). r ∷ l) k.0, ap (λ (t : Split). t.groups) q ∙ k.1)

-- groups joined are split into the same groups
pub split_join : (hs : List Group) → All (λ h. T (one_class h)) hs → ((split_groups (concat hs)).loose ≡ []) × ((split_groups (concat hs)).groups ≡ hs)
unfolding concat one_class split_groups
split_join [] w = (refl, refl)
split_join ([] ∷ hs) w = absurd w.0
split_join ((r ∷ rs) ∷ hs) w =
    let ih = split_join hs w.1 in
    let k = split_tail rs (concat hs) (and_r (is_class r) (not (any is_class rs)) w.0) ih.0 in
    let q = split_class r (rs ++ concat hs) (t_true (is_class r) (and_l (is_class r) (not (any is_class rs)) w.0)) in (
      ap (λ (t : Split). t.loose) q,
      ap (λ (t : Split). t.groups) q ∙ ap₂ (λ (a : List (List ℕ)) (b : List Group). (r ∷ a) ∷ b) k.0 (k.1 ∙ ih.1),
    )

-- what a row of records is split into
pub record Parts (rs : List (List ℕ)) (t : Split) : Type 0 where
  pub joined : rs ≡ t.loose ++ concat t.groups
  pub one : All (λ h. T (one_class h)) t.groups
  pub free : T (not (any is_class t.loose))

not_or : (a b : Bool) → a ≡ false → T (not b) → T (not (a || b))
not_or a b e h = subst (λ (x : Bool). T (not (x || b))) (sym e) h

parts_onto : (r : List ℕ) (rs : List (List ℕ)) (t : Split) → Parts rs t → (b : Bool) → is_class r ≡ b
    → Parts (r ∷ rs) (elim b as (λ (c : Bool). Split) [ true ↦ record { loose = []; groups = (r ∷ t.loose) ∷ t.groups } | false ↦ record { loose = r ∷ t.loose; groups = t.groups } ])
unfolding concat one_class any
parts_onto r rs t p true e = record {
  joined = ap (λ (l : List (List ℕ)). r ∷ l) p.joined;
  one = (t_and (is_class r) (not (any is_class t.loose)) (subst T (sym e) tt) p.free, p.one);
  free = tt;
}
parts_onto r rs t p false e = record
    { joined = ap (λ (l : List (List ℕ)). r ∷ l) p.joined; one = p.one; free = not_or (is_class r) (any is_class t.loose) e p.free }

pub split_parts : (rs : List (List ℕ)) → Parts rs (split_groups rs)
unfolding split_groups concat any
split_parts [] = record { joined = refl; one = tt; free = tt }
split_parts (r ∷ rs) = parts_onto r rs (split_groups rs) (split_parts rs) (is_class r) refl

-- ---- whole groups

unfoldable pub IsGroup : List ℕ → Type 0
IsGroup g = T (whole_group g)

pub group_end : (g : List ℕ) → IsGroup g → concat (records_of g) ≡ g
unfolding IsGroup whole_group
group_end g h = join_records g (eqb→eq (whole_end g) (length g) (and_l (eqb (whole_end g) (length g)) (one_class (records_of g)) h))

pub group_one : (g : List ℕ) → IsGroup g → T (one_class (records_of g))
unfolding IsGroup whole_group
group_one g h = and_r (eqb (whole_end g) (length g)) (one_class (records_of g)) h

pub regroup : (gs : List (List ℕ)) → All IsGroup gs → map concat (map records_of gs) ≡ gs
regroup [] h = refl
regroup (g ∷ gs) h = ap₂ (λ (a : List ℕ) (b : List (List ℕ)). a ∷ b) (group_end g h.0) (regroup gs h.1)

pub records_of_groups : (gs : List (List ℕ)) → All IsGroup gs → records_of (concat gs) ≡ concat (map records_of gs)
records_of_groups gs h =
    ap (λ (l : List (List ℕ)). records_of (concat l)) (sym (regroup gs h))
    ∙ ap records_of (concat_concat (map records_of gs))
    ∙ records_of_join (concat (map records_of gs)) (all_concat Whole (map records_of gs) (all_map IsGroup (All Whole) records_of (λ g q. records_of_whole g) gs h))

-- whole groups end to end are split into the same groups
pub groups_of_join : (gs : List (List ℕ)) → All IsGroup gs → groups_of (concat gs) ≡ map records_of gs
unfolding groups_of
groups_of_join gs h =
    ap (λ (l : List (List ℕ)). (split_groups l).groups) (records_of_groups gs h)
    ∙ (split_join (map records_of gs) (all_map IsGroup (λ r. T (one_class r)) records_of group_one gs h)).1

pub count_of_join : (gs : List (List ℕ)) → All IsGroup gs → class_count (concat gs) ≡ length gs
unfolding class_count
count_of_join gs h = ap length (groups_of_join gs h) ∙ length-map gs records_of

-- what holds of the records of a sheet holds of those of each group
pub in_groups : (P : List ℕ → Type 0) (s : List ℕ) → All P (records_of s) → All (All P) (groups_of s)
unfolding groups_of
in_groups P s h =
    each_concat P (split_groups (records_of s)).groups
    (all_right P (split_groups (records_of s)).loose (concat (split_groups (records_of s)).groups) (subst (All P) (split_parts (records_of s)).joined h))

-- a sheet of whole records that begins with a CLASS record, or is empty, is its groups end to end, and each is whole
is_group : (h : Group) → All Whole h → T (one_class h) → IsGroup (concat h)
unfolding IsGroup whole_group whole_end
is_group h w o =
    let e : records_of (concat h) ≡ h = records_of_join h w in
    rw e (t_and (eqb (length (concat h)) (length (concat h))) (one_class h) (eqb_refl (length (concat h))) o)

all_groups : (hs : List Group) → All (All Whole) hs → All (λ h. T (one_class h)) hs → All IsGroup (map concat hs)
all_groups [] w o = tt
all_groups (h ∷ hs) w o = (is_group h w.0 o.0, all_groups hs w.1 o.1)

module _ (s : List ℕ) (end : whole_end s ≡ length s) (none_loose : (split_groups (records_of s)).loose ≡ []) where
  pub records_grouped : records_of s ≡ concat (groups_of s)
  unfolding groups_of
  records_grouped = (split_parts (records_of s)).joined ∙ ap (λ (l : List (List ℕ)). l ++ concat (split_groups (records_of s)).groups) none_loose

  pub sheet_grouped : concat (map concat (groups_of s)) ≡ s
  sheet_grouped = concat_concat (groups_of s) ∙ ap concat (sym records_grouped) ∙ join_records s end

  pub sheet_groups : All IsGroup (map concat (groups_of s))
  unfolding groups_of
  sheet_groups =
      all_groups (groups_of s) (in_groups Whole s (records_of_whole s)) (split_parts (records_of s)).one

-- so the new sheet of an Add or a Replace is never torn: refusal 2 doesn't come from it
pub whole_join : (gs : List (List ℕ)) → All IsGroup gs → whole_end (concat gs) ≡ length (concat gs)
unfolding whole_end
whole_join gs h =
    ap (λ (rs : List (List ℕ)). length (concat rs)) (records_of_groups gs h)
    ∙ ap length (sym (concat_concat (map records_of gs)) ∙ ap concat (regroup gs h))
