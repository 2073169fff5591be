-- Bytes end to end: the first pass of two parts of a sheet, one after the other, is that of both, where each is whole groups or the second is empty.
-- Assumes nothing.
use mathlib.Core.Path.{◌≡◌, refl, sym, ap, ap₂, ◌∙◌, subst}
use mathlib.Core.Bool.{Bool, true, false}
use mathlib.Core.List.{List, [], ◌∷◌, ◌++◌, map, map-append, append-nil}
use mathlib.Core.Option.{Option, none, some}
use Prim.Native.Nat.{ℕ, ◌+◌}
use native.Mathlib.Nat.{add-zero, add_assoc}
use native.Mathlib.Omega.{arith}
use lib.ListN.{length, length-append}
use lib.Dec.{T}
use borrow.Author.Tests.{eq-eqb}
use Rattle.spec.specs.Lists.{concat, first_of}
use Rattle.spec.specs.Record.{kind, is_class}
use Rattle.spec.specs.Sheet.{records_in, records_of, whole_end, Split, split_groups, groups_of, class_count, Located, locate, located_in}
use Rattle.spec.specs.Refusals.{Refusal, refuse_if, refuse_record, record_tests, record_refusal, torn_refusal, one_class}
use Rattle.laws.proofs.All.{All, all_append, all_map}
use Rattle.theory.proofs.Cut.{concat_append, split_class, split_other, split_join, IsGroup, group_one, records_of_groups, count_of_join, whole_join}
use Rattle.theory.proofs.Answers.{first_append, first_only, keep_head}
use Rattle.pass.specs.Pass.{place, classes_after, records_after, pass_refusal, shifted, fill, filled}
use Rattle.pass.proofs.Places.{answer, locate_class, carried, locate_cons}
use Rattle.pass.proofs.Starts.{row_after, fill_cons}

-- ---- refusals further on

pub first_shifted : (d : ℕ) (o : Option Refusal) (os os' : List (Option Refusal)) → first_of os' ≡ shifted d (first_of os) → first_of (shifted d o ∷ os') ≡ shifted d (first_of (o ∷ os))
unfolding first_of
first_shifted d none os os' e = e
first_shifted d (some r) os os' e = refl

tests_shifted : (d sheet at : ℕ) (ts : List (ℕ × Bool))
    → first_of (map (λ t. refuse_if t.1 t.0 sheet (d + at)) ts) ≡ shifted d (first_of (map (λ t. refuse_if t.1 t.0 sheet at) ts))
unfolding first_of refuse_if
tests_shifted d sheet at [] = refl
tests_shifted d sheet at ((n, true) ∷ ts) = refl
tests_shifted d sheet at ((n, false) ∷ ts) = tests_shifted d sheet at ts

-- the tests of a record do not ask for its byte
answer_shifted : (d sheet at n k b : ℕ) (r : List ℕ) → answer record_tests (place sheet (d + at) n k b r) ≡ shifted d (answer record_tests (place sheet at n k b r))
unfolding answer refuse_record record_tests place
answer_shifted d sheet at n k b r = tests_shifted d sheet at (record_tests (place sheet at n k b r))

-- the first answer along some records
abbrev pub along : ℕ → ℕ → ℕ → ℕ → ℕ → List (List ℕ) → Option Refusal
along sheet at n k b rs = first_of (map (answer record_tests) (locate sheet at n k b rs))

pub along_shifted : (d sheet at n k b : ℕ) (rs : List (List ℕ)) → along sheet (d + at) n k b rs ≡ shifted d (along sheet at n k b rs)
along_shifted d sheet at n k b [] = unfold locate first_of in refl
along_shifted d sheet at n k b (r ∷ rs) =
    let n' : ℕ = classes_after (is_class r) n in
    let k' : ℕ = records_after (is_class r) k in
    rw (locate_cons sheet (d + at) n k b r rs, locate_cons sheet at n k b r rs, answer_shifted d sheet at n k b r, add_assoc d at (length r))
    (first_shifted d _ _ _ (along_shifted d sheet (at + length r) n' k' (kind r) rs))

-- ---- records end to end

-- a CLASS record comes first, or none
abbrev pub Opens : List (List ℕ) → Type 0
Opens rs = (split_groups rs).loose ≡ []

pub open_anywhere : (sheet at n k b : ℕ) (rs : List (List ℕ)) → Opens rs → locate sheet at n k b rs ≡ locate sheet at n 0 0 rs
open_anywhere sheet at n k b [] o = unfold locate in refl
open_anywhere sheet at n k b (r ∷ rs) o = go (is_class r) refl
  where
    go : (c : Bool) → is_class r ≡ c → locate sheet at n k b (r ∷ rs) ≡ locate sheet at n 0 0 (r ∷ rs)
    go true e = locate_class sheet at n k b r rs e ∙ sym (locate_class sheet at n 0 0 r rs e)
    go false e = let q = sym (ap (λ (t : Split). t.loose) (split_other r rs e)) ∙ o in absurd (let z : ◌≡◌ {A = ℕ} 0 1 = cc in omega arith)

-- the groups that some records make
abbrev pub count : List (List ℕ) → ℕ
count rs = length (split_groups rs).groups

module _ (r : List ℕ) (rs : List (List ℕ)) where
  pub count_cons : count (r ∷ rs) ≡ classes_after (is_class r) (count rs)
  count_cons = go (is_class r) refl
    where
      go : (b : Bool) → is_class r ≡ b → count (r ∷ rs) ≡ classes_after b (count rs)
      go true e = ap (λ (t : Split). length t.groups) (split_class r rs e)
      go false e = ap (λ (t : Split). length t.groups) (split_other r rs e)

  long_cons : (at : ℕ) → at + length (concat (r ∷ rs)) ≡ at + length r + length (concat rs)
  unfolding concat
  long_cons at = omega (arith, length-append r (concat rs))

-- what is located in two lists is located in each, the second further on
locate_append : (sheet at n k b : ℕ) (rs rs' : List (List ℕ)) → Opens rs'
    → locate sheet at n k b (rs ++ rs') ≡ locate sheet at n k b rs ++ locate sheet (at + length (concat rs)) (n + count rs) 0 0 rs'
locate_append sheet at n k b [] rs' o = unfold locate concat split_groups in rw (add-zero at, add-zero n) (open_anywhere sheet at n k b rs' o)
locate_append sheet at n k b (r ∷ rs) rs' o =
    rw (
      locate_cons sheet at n k b r (rs ++ rs'),
      locate_cons sheet at n k b r rs,
      long_cons r rs at,
      count_cons r rs,
      carried (is_class r) n (count rs),
      locate_append sheet (at + length r) (classes_after (is_class r) n) (records_after (is_class r) k) (kind r) rs rs' o,
    )

-- and so of the row
fill_append : (row : List ℕ) (n at : ℕ) (rs rs' : List (List ℕ)) → fill row n at (rs ++ rs') ≡ fill (fill row n at rs) (n + count rs) (at + length (concat rs)) rs'
fill_append row n at [] rs' = unfold fill concat split_groups in rw (add-zero at, add-zero n)
fill_append row n at (r ∷ rs) rs' =
    rw (
      fill_cons row n at r (rs ++ rs'),
      fill_cons row n at r rs,
      long_cons r rs at,
      count_cons r rs,
      carried (is_class r) n (count rs),
      fill_append (row_after (is_class r) row n at) (classes_after (is_class r) n) (at + length r) rs rs',
    )

along_append : (sheet n : ℕ) (rs rs' : List (List ℕ)) → Opens rs'
    → along sheet 0 n 0 0 (rs ++ rs') ≡ first_of (along sheet 0 n 0 0 rs ∷ shifted (length (concat rs)) (along sheet 0 (n + count rs) 0 0 rs') ∷ [])
along_append sheet n rs rs' o =
    let d : ℕ = length (concat rs) in
    let e : 0 + d ≡ d + 0 = omega arith in
    let ls : List Located = locate sheet 0 n 0 0 rs in
    let ls' : List Located = locate sheet (0 + d) (n + count rs) 0 0 rs' in
    let q : first_of (map (answer record_tests) ls') ≡ shifted d (along sheet 0 (n + count rs) 0 0 rs') = rw e (along_shifted d sheet 0 (n + count rs) 0 0 rs') in
    ap (λ (l : List Located). first_of (map (answer record_tests) l)) (locate_append sheet 0 n 0 0 rs rs' o)
    ∙ ap first_of (map-append (answer record_tests) ls ls') ∙ first_append (map (answer record_tests) ls) (map (answer record_tests) ls')
    ∙ keep_head _ _ _ (sym (first_only _)) ∙ ap (λ (x : Option Refusal). first_of (along sheet 0 n 0 0 rs ∷ x ∷ [])) q

-- ---- parts of a sheet

-- the pass of a, else that of b, whose bytes stand further on and after the classes of a, is that of both; so of the classes and of the row of starts
pub record Seam (a b : List ℕ) : Type 0 where
  pub refusal : (sheet n : ℕ) → pass_refusal sheet n (a ++ b) ≡ first_of (pass_refusal sheet n a ∷ shifted (length a) (pass_refusal sheet (n + class_count a) b) ∷ [])
  pub classes : class_count (a ++ b) ≡ class_count a + class_count b
  pub row : (row : List ℕ) (n at : ℕ) → filled row n at (a ++ b) ≡ filled (filled row n at a) (n + class_count a) (at + length a) b

before_none : (o : Option Refusal) → first_of (o ∷ none ∷ []) ≡ o
before_none o = keep_head o (none ∷ []) [] (unfold first_of in refl) ∙ first_only o

-- nothing stands after the first part
pub seam_nothing : (a : List ℕ) → Seam a []
unfolding pass_refusal record_refusal torn_refusal located_in locate records_of whole_end class_count groups_of filled fill first_of refuse_if concat records_in split_groups
seam_nothing a = record {
  refusal = λ sheet n. ap (pass_refusal sheet n) (append-nil a) ∙ sym (before_none (pass_refusal sheet n a));
  classes = ap class_count (append-nil a) ∙ sym (add-zero (class_count a));
  row = λ row n at. ap (filled row n at) (append-nil a);
}

-- nothing is torn
whole_pass : (sheet n : ℕ) (s : List ℕ) → whole_end s ≡ length s → pass_refusal sheet n s ≡ along sheet 0 n 0 0 (records_of s)
unfolding pass_refusal torn_refusal record_refusal located_in answer refuse_if
whole_pass sheet n s e = rw (eq-eqb (whole_end s) (length s) e) (before_none (record_refusal sheet n s))

-- whole groups stand before and after
module _ (xs ys : List (List ℕ)) (wx : All IsGroup xs) (wy : All IsGroup ys) where
  both : All IsGroup (xs ++ ys)
  both = all_append IsGroup xs ys wx wy

  records_both : records_of (concat xs ++ concat ys) ≡ records_of (concat xs) ++ records_of (concat ys)
  records_both =
      ap records_of (sym (concat_append xs ys)) ∙ records_of_groups (xs ++ ys) both
      ∙ ap concat (map-append records_of xs ys) ∙ concat_append (map records_of xs) (map records_of ys)
      ∙ ap₂ (λ (a b : List (List ℕ)). a ++ b) (sym (records_of_groups xs wx)) (sym (records_of_groups ys wy))

  end_both : whole_end (concat xs ++ concat ys) ≡ length (concat xs ++ concat ys)
  end_both = subst (λ (s : List ℕ). whole_end s ≡ length s) (concat_append xs ys) (whole_join (xs ++ ys) both)

  opens_second : Opens (records_of (concat ys))
  opens_second =
      ap (λ (rs : List (List ℕ)). (split_groups rs).loose) (records_of_groups ys wy)
      ∙ (split_join (map records_of ys) (all_map IsGroup (λ r. T (one_class r)) records_of group_one ys wy)).0

  refusal_both : (sheet n : ℕ)
      → pass_refusal sheet n (concat xs ++ concat ys)
      ≡ first_of (pass_refusal sheet n (concat xs) ∷ shifted (length (concat xs)) (pass_refusal sheet (n + class_count (concat xs)) (concat ys)) ∷ [])
  unfolding class_count groups_of whole_end
  refusal_both sheet n =
      let a = whole_pass sheet n (concat xs) (whole_join xs wx) in
      let b = whole_pass sheet (n + class_count (concat xs)) (concat ys) (whole_join ys wy) in
      rw (whole_pass sheet n (concat xs ++ concat ys) end_both, a, b, records_both, ← whole_join xs wx)
      (along_append sheet n (records_of (concat xs)) (records_of (concat ys)) opens_second)

  classes_both : class_count (concat xs ++ concat ys) ≡ class_count (concat xs) + class_count (concat ys)
  classes_both = ap class_count (sym (concat_append xs ys)) ∙ count_of_join (xs ++ ys) both ∙ omega (arith, length-append xs ys, count_of_join xs wx, count_of_join ys wy)

  row_both : (row : List ℕ) (n at : ℕ) → filled row n at (concat xs ++ concat ys) ≡ filled (filled row n at (concat xs)) (n + class_count (concat xs)) (at + length (concat xs)) (concat ys)
  unfolding filled class_count groups_of whole_end
  row_both row n at = rw (records_both, ← whole_join xs wx) (fill_append row n at (records_of (concat xs)) (records_of (concat ys)))

  pub seam_groups : Seam (concat xs) (concat ys)
  seam_groups = record { refusal = refusal_both; classes = classes_both; row = row_both }
