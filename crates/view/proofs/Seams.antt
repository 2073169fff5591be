-- The groups of a sheet in three parts: each lies in one, whose bytes there are the sheet's.
-- Assumes nothing.
use mathlib.Core.Path.{◌≡◌, refl, sym, ap, ap₂, ◌∙◌, subst}
use mathlib.Core.Bool.{Bool, true, false}
use mathlib.Core.List.{List, [], ◌∷◌, ◌++◌, map, append_assoc}
use mathlib.Core.Logic.{◌⊎◌, inl, inr}
use Prim.Native.Nat.{ℕ, ◌+◌, ◌-◌, ◌≤◌, ◌<◌}
use native.Mathlib.Decide.{ℕ_discrete}
use native.Mathlib.Omega.{arith}
use lib.Dec.{ltb}
use lib.ListN.{length, take, drop, length-append, take-append-drop}
use lib.Seq.{take-take, take-append_seam, drop-append_seam, drop-append-add}
use borrow.Author.Tests.{ltb-true, ltb-false}
use Rattle.spec.specs.Lists.{concat}
use Rattle.spec.specs.Sheet.{Group, records_in, records_of, whole_end, split_groups, groups_of, group_start}
use Rattle.laws.proofs.All.{All, all_append, all_take}
use Rattle.theory.proofs.Cut.{IsGroup, end_low, front_low, map_take, concat_append, concat_concat, groups_of_join, regroup, split_parts}
use Rattle.theory.proofs.New.{concat_last}
use Rattle.theory.proofs.Running.{group_next}
use Rattle.view.specs.View.{Around, Parted, Spans}

-- ---- every group lies in its sheet

pub start_low : (s : List ℕ) (i : ℕ) → group_start s i ≤ length s
unfolding group_start groups_of records_of whole_end
start_low s i =
    let t = split_groups (records_in (length s) s) in
    let front : List (List ℕ) = concat (take i t.groups) in
    let back : List (List ℕ) = concat (drop i t.groups) in
    let halves : concat t.groups ≡ front ++ back = ap concat (sym (take-append-drop i t.groups)) ∙ concat_append (take i t.groups) (drop i t.groups) in
    let parts : records_in (length s) s ≡ t.loose ++ (front ++ back) =
    (split_parts (records_in (length s) s)).joined ∙ ap (λ (x : List (List ℕ)). t.loose ++ x) halves in
    omega (
      arith,
      end_low s,
      ap (λ (rs : List (List ℕ)). length (concat rs)) parts,
      ap length (concat_append t.loose (front ++ back)),
      length-append (concat t.loose) (concat (front ++ back)),
      ap length (concat_append front back),
      length-append (concat front) (concat back),
    )

module _ {s : List ℕ} {start end : ℕ} (w : Spans s start end) where
  pub ordered : start ≤ end
  ordered = omega (arith, w.begins, w.ends, group_next s w.class w.there)

  pub within : end ≤ length s
  within = omega (arith, w.ends, start_low s (w.class + 1))

-- ---- whole groups end to end

-- each begins where those before it end
start_joined : (bs : List (List ℕ)) → All IsGroup bs → (i : ℕ) → group_start (concat bs) i ≡ length (concat (take i bs))
unfolding group_start
start_joined bs w i =
    ap (λ (gs : List Group). length (concat (concat (take i gs)))) (groups_of_join bs w)
    ∙ ap (λ (gs : List Group). length (concat (concat gs))) (sym (map_take records_of i bs))
    ∙ ap length (sym (concat_concat (map records_of (take i bs))))
    ∙ ap (λ (l : List (List ℕ)). length (concat l)) (regroup (take i bs) (all_take IsGroup i bs w))

front_grows : (bs : List (List ℕ)) (i j : ℕ) → i ≤ j → length (concat (take i bs)) ≤ length (concat (take j bs))
front_grows bs i j h = subst (λ (l : List (List ℕ)). length (concat l) ≤ length (concat (take j bs))) (take-take i j bs h) (front_low i (take j bs))

-- ---- each lies in the head, is the group, or lies in the tail

abbrev pub Lies : List ℕ → List ℕ → ℕ → ℕ → Type 0
Lies head g start end = (end ≤ length head) ⊎ (((start ≡ length head) × (end ≡ length head + length g)) ⊎ (length head + length g ≤ start))

module _ {head tail : List ℕ} (a : Around head tail) (g : List ℕ) (w : IsGroup g) where
  seam : ℕ
  seam = length a.earlier

  bs : List (List ℕ)
  bs = a.earlier ++ (g ∷ a.later)

  bs_whole : All IsGroup bs
  unfolding bs
  bs_whole = all_append IsGroup a.earlier (g ∷ a.later) a.earlier_whole (w, a.later_whole)

  sheet_is : head ++ (g ++ tail) ≡ concat bs
  unfolding bs concat
  sheet_is = ap₂ (λ (l r : List ℕ). l ++ (g ++ r)) a.before a.after ∙ sym (concat_append a.earlier (g ∷ a.later))

  at : ℕ → ℕ
  at k = length (concat (take k bs))

  starts : (k : ℕ) → group_start (head ++ (g ++ tail)) k ≡ at k
  unfolding at
  starts k = ap (λ (l : List ℕ). group_start l k) sheet_is ∙ start_joined bs bs_whole k

  at_seam : at seam ≡ length head
  unfolding at seam bs
  at_seam = ap (λ (l : List (List ℕ)). length (concat l)) (take-append_seam a.earlier (g ∷ a.later)) ∙ ap length (sym a.before)

  at_next : at (seam + 1) ≡ length head + length g
  unfolding at seam bs
  at_next =
      let m : List (List ℕ) = a.earlier ++ (g ∷ []) in
      let q : m ++ a.later ≡ a.earlier ++ (g ∷ a.later) = append_assoc a.earlier (g ∷ []) a.later in
      let l : length m ≡ length a.earlier + 1 = length-append a.earlier (g ∷ []) in
      ap (λ (k : ℕ). length (concat (take k (a.earlier ++ (g ∷ a.later))))) (sym l)
      ∙ ap (λ (l : List (List ℕ)). length (concat (take (length m) l))) (sym q)
      ∙ ap (λ (l : List (List ℕ)). length (concat l)) (take-append_seam m a.later)
      ∙ ap length (concat_last a.earlier g)
      ∙ length-append (concat a.earlier) g
      ∙ ap (λ (l : List ℕ). length l + length g) (sym a.before)

  among : (i : ℕ) → Lies head g (group_start (head ++ (g ++ tail)) i) (group_start (head ++ (g ++ tail)) (i + 1))
  unfolding at
  among i = go (ltb i seam) refl (ℕ_discrete i seam)
    where
      go : (b : Bool) → ltb i seam ≡ b → Dec (i ≡ seam) → Lies head g (group_start (head ++ (g ++ tail)) i) (group_start (head ++ (g ++ tail)) (i + 1))
      go b t (yes q) = inr (inl (starts i ∙ ap at q ∙ at_seam, starts (i + 1) ∙ ap (λ (k : ℕ). at (k + 1)) q ∙ at_next))
      go true t (no q) = let z = ltb-true i seam t in inl (omega (arith, starts (i + 1), at_seam, front_grows bs (i + 1) seam (omega arith)))
      go false t (no q) = let z = ltb-false i seam t in inr (inr (omega (arith, starts i, at_next, front_grows bs (seam + 1) i (omega arith))))

-- ---- the bytes of each

-- a part of two lists end to end that lies in the second
part_back : (xs ys : List ℕ) (at k n : ℕ) → at ≡ length xs + k → take n (drop at (xs ++ ys)) ≡ take n (drop k ys)
part_back xs ys at k n e = ap (λ (j : ℕ). take n (drop j (xs ++ ys))) e ∙ ap (take n) (drop-append-add xs ys k)

module _ {sheet head g tail : List ℕ} (p : Parted sheet head g tail) {start end : ℕ} (w : Spans sheet start end) where
  sheet_length : length sheet ≡ length head + (length g + length tail)
  sheet_length = omega (arith, ap length p.joined, length-append head (g ++ tail), length-append g tail)

  lies : Lies head g start end
  lies = go p.seams
    where
      go : ((g ≡ []) × (tail ≡ [])) ⊎ (Around head tail × IsGroup g) → Lies head g start end
      go (inl e) = inl (omega (arith, within w, sheet_length, ap length e.0, ap length e.1))
      go (inr e) = rw (w.begins, w.ends, p.joined) (among e.0 g e.1 w.class)

  pub group_bytes : length head < end → start < length head + length g → g ≡ take (end - start) (drop start sheet)
  group_bytes h l = go lies
    where
      go : Lies head g start end → g ≡ take (end - start) (drop start sheet)
      go (inl q) = absurd (omega arith)
      go (inr (inl q)) =
          let n : end - start ≡ length g = omega (arith, q.0, q.1) in
          sym (rw (p.joined, n, q.0, drop-append_seam head (g ++ tail)) (take-append_seam g tail))
      go (inr (inr q)) = absurd (omega arith)

  pub tail_within : end ≤ length head + length g + length tail
  tail_within = omega (arith, within w, sheet_length)

  pub tail_bytes : {next : ℕ} → next ≡ length head + length g → next ≤ start
      → take (end - next - (start - next)) (drop (start - next) tail) ≡ take (end - start) (drop start sheet)
  tail_bytes {next} e h =
      let n : ℕ = end - start in
      let k : ℕ = start - length head in
      let same : end - next - (start - next) ≡ n = omega (arith, ordered w) in
      rw (same, p.joined) (sym (part_back head (g ++ tail) start k n (omega (arith, e)) ∙ part_back g tail k (start - next) n (omega (arith, e))))
