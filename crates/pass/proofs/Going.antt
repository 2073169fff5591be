-- The first pass at a place: what is left of the refusals, of the count of classes and of the row of group starts from there on comes to what all bytes give.
-- Assumes nothing.
use mathlib.Core.Path.{◌≡◌, refl, sym, ap, ◌∙◌}
use mathlib.Core.Bool.{Bool, true, false, not}
use mathlib.Core.List.{List, [], ◌∷◌}
use mathlib.Core.Option.{Option, none, some}
use Prim.Native.Nat.{ℕ, ◌+◌, ◌≤◌, ◌<◌}
use native.Mathlib.Nat.{add-zero}
use native.Mathlib.Omega.{arith}
use lib.Dec.{eqb, eqb→eq}
use lib.ListN.{length, drop, length-append, length-drop, length-set}
use lib.Seq.{length-take-le}
use borrow.Author.Tests.{ne_eqb}
use Rattle.std.specs.declared.option.Option.TheVariants.{None}
use Rattle.spec.specs.Lists.{concat, first_of}
use Rattle.spec.specs.Record.{u16, kind, is_class}
use Rattle.spec.specs.Sheet.{whole_first, records_in, records_of, whole_end, split_groups, groups_of, class_count, locate, located_in}
use Rattle.spec.specs.Refusals.{Refusal, refuse_if, refuse_record, record_tests, record_refusal, torn_refusal}
use Rattle.laws.proofs.Bools.{true_t, t_same, eq→eqb}
use Rattle.theory.proofs.Cut.{first_is, records_step, records_stop}
use Rattle.theory.proofs.Answers.{some≢none, first_some, skip_none, first_only}
use Rattle.refusals.specs.declared.Side.{Side}
use Rattle.refusals.specs.declared.Refusal.{Refusal as Refused}
use Rattle.refusals.specs.Refusals.{sheet_number, reason_number, refusal_of}
use Rattle.pass.specs.declared.place.Place.{Place}
use Rattle.pass.specs.Pass.{group_records, group_kind, classes_after, records_after, place, located, Follows, first_record, refused_at, Passes, Blames}
use Rattle.pass.specs.Pass.{pass_refusal, shifted, fill, filled, Filled}
use Rattle.pass.proofs.Places.{answer, blamed, met_refuses, carried, locate_cons}
use Rattle.pass.proofs.Starts.{row_after, fill_cons}
use Rattle.pass.proofs.Tests.{refused_is}
use Rattle.pass.proofs.Joining.{first_shifted, along, along_shifted, count, count_cons}

-- what refuses the bytes that begin at a place
unfoldable pub refusal_from : Place → List ℕ → Option Refusal
refusal_from p s = first_of
    (along (sheet_number p.side) p.byte p.classes (group_records p.group) (group_kind p.group) (records_of s)
    ∷ refuse_if (not (eqb (whole_end s) (length s))) 2 (sheet_number p.side) (p.byte + whole_end s)
    ∷ [])

-- the pass of s stands at a place where `rest` is left, and has made `row` of `row₀`
pub record Going (side : Side) (s : List ℕ) (base from : ℕ) (row₀ row : List ℕ) (p : Place) (rest : List ℕ) : Type 0 where
  pub refusal : shifted from (pass_refusal (sheet_number side) base s) ≡ refusal_from p rest
  pub count : base + class_count s ≡ p.classes + class_count rest
  pub rows : filled row₀ base from s ≡ filled row p.classes p.byte rest
  pub long : length row ≡ length row₀
  pub inside : p.byte + length rest ≡ from + length s

-- ---- at the first record

if_shifted : (d : ℕ) (b : Bool) (n sheet at : ℕ) → refuse_if b n sheet (d + at) ≡ shifted d (refuse_if b n sheet at)
unfolding refuse_if
if_shifted d true n sheet at = refl
if_shifted d false n sheet at = refl

pass_shifted : (sheet n from : ℕ) (s : List ℕ)
    → shifted from (pass_refusal sheet n s) ≡ first_of (along sheet from n 0 0 (records_of s) ∷ refuse_if (not (eqb (whole_end s) (length s))) 2 sheet (from + whole_end s) ∷ [])
unfolding pass_refusal record_refusal torn_refusal located_in answer
pass_shifted sheet n from s =
    let t = refuse_if (not (eqb (whole_end s) (length s))) 2 sheet (whole_end s) in
    let a = ap (λ (i : ℕ). along sheet i n 0 0 (records_of s)) (sym (add-zero from)) ∙ along_shifted from sheet 0 n 0 0 (records_of s) in
    sym (rw (a, if_shifted from (not (eqb (whole_end s) (length s))) 2 sheet (whole_end s)) (first_shifted from _ (t ∷ []) _ (first_only _ ∙ ap (shifted from) (sym (first_only t)))))

pub begin : {side : Side} {base from : ℕ} (p : Place) (s row : List ℕ) → (p.side ≡ side) × (p.byte ≡ from) × (p.classes ≡ base) → p.group ≡ None → Going side s base from row row p s
unfolding refusal_from
begin p s row (es, eb, ec) e = record {
  refusal = rw (← es, ← eb, ← ec) (pass_shifted (sheet_number p.side) p.classes p.byte s ∙ rw e);
  count = rw (← ec);
  rows = rw (← eb, ← ec);
  long = refl;
  inside = rw (← eb);
}

-- ---- at a record

eqb_add : (l m n : ℕ) → eqb (l + m) (l + n) ≡ eqb m n
eqb_add l m n =
    t_same (eqb (l + m) (l + n)) (eqb m n)
    (λ t. let q : l + m ≡ l + n = eqb→eq (l + m) (l + n) t in eq→eqb {m = m} {n = n} (omega arith))
    (λ t. let q : m ≡ n = eqb→eq m n t in eq→eqb {m = l + m} {n = l + n} (omega arith))

module _ (p : Place) (s : List ℕ) where
  torn : whole_first s ≡ false → 0 < length s → refusal_from p s ≡ some (record { number = 2; sheet = sheet_number p.side; byte = p.byte })
  unfolding refusal_from whole_end locate first_of concat refuse_if
  torn e h = rw (records_stop s e, ne_eqb 0 (length s) (λ q. omega arith), add-zero p.byte)

  module _ (w : whole_first s ≡ true) where
    abbrev r : List ℕ
    r = first_record s

    abbrev rest : List ℕ
    rest = drop (length r) s

    r_long : length r ≡ u16 s 0
    unfolding first_record
    r_long = let f = first_is s (true_t w) in length-take-le (u16 s 0) s (omega (arith, f))

    step : records_of s ≡ r ∷ records_of rest
    unfolding first_record
    step = records_step s w ∙ ap (λ (n : ℕ). r ∷ records_of (drop n s)) (sym r_long)

    r_inside : length r ≤ length s
    r_inside = let f = first_is s (true_t w) in omega (arith, f, r_long)

    end_step : whole_end s ≡ length r + whole_end rest
    unfolding whole_end concat
    end_step = ap (λ (rs : List (List ℕ)). length (concat rs)) step ∙ length-append r (concat (records_of rest))

    located_step : locate (sheet_number p.side) p.byte p.classes (group_records p.group) (group_kind p.group) (records_of s)
        ≡ located p r
        ∷ locate (sheet_number p.side) (p.byte + length r) (classes_after (is_class r) p.classes) (records_after (is_class r) (group_records p.group)) (kind r) (records_of rest)
    unfolding located
    located_step = rw step (locate_cons _ _ _ _ _ r (records_of rest))

    met : refuse_record (located p r) (record_tests (located p r)) ≡ blamed (located p r) (refused_at p s)
    met = met_refuses (located p r) (record_tests (located p r)) ∙ ap (blamed (located p r)) (sym (refused_is p s w refl))

    refused_whole : {n : ℕ} → refused_at p s ≡ some n → refusal_from p s ≡ some (record { number = n; sheet = sheet_number p.side; byte = p.byte })
    unfolding refusal_from answer located place
    refused_whole e = first_some _ (rw located_step (first_some _ (met ∙ ap (blamed (located p r)) e)))

    along_step : {p' : Place} → Follows p r p' → refused_at p s ≡ none
        → along (sheet_number p.side) p.byte p.classes (group_records p.group) (group_kind p.group) (records_of s)
        ≡ along (sheet_number p'.side) p'.byte p'.classes (group_records p'.group) (group_kind p'.group) (records_of rest)
    unfolding answer
    along_step f e = rw (located_step, f.side, f.byte, f.classes, f.records, f.last) (skip_none _ _ (met ∙ ap (blamed (located p r)) e))

    rest_long : length s ≡ length r + length rest
    rest_long = omega (arith, r_inside, length-drop (length r) s)

    same_end : eqb (whole_end s) (length s) ≡ eqb (whole_end rest) (length rest)
    same_end = rw (end_step, rest_long) (eqb_add (length r) (whole_end rest) (length rest))

    refusal_step : {p' : Place} → Follows p r p' → refused_at p s ≡ none → refusal_from p s ≡ refusal_from p' rest
    unfolding refusal_from
    refusal_step {p' = p'} f e =
        let b : p.byte + whole_end s ≡ p'.byte + whole_end rest = omega (arith, f.byte, end_step) in
        rw (along_step f e, same_end, b, f.side)

    count_step : {p' : Place} → Follows p r p' → p.classes + class_count s ≡ p'.classes + class_count rest
    unfolding class_count groups_of
    count_step f = ap (λ (rs : List (List ℕ)). p.classes + count rs) step ∙ rw (count_cons r (records_of rest), f.classes) (carried (is_class r) p.classes (count (records_of rest)))

    rows_step : (row : List ℕ) {p' : Place} {row' : List ℕ} → Follows p r p' → row' ≡ row_after (is_class r) row p.classes p.byte
        → filled row p.classes p.byte s ≡ filled row' p'.classes p'.byte rest
    unfolding filled
    rows_step row f e = rw (step, fill_cons, f.classes, f.byte, e)

-- a record that passes is within the bytes, and not empty
pub within : {p : Place} {s r : List ℕ} → Passes p s r → (0 < length r) × (length r ≤ length s)
within {p} {s} w = let f = first_is s (true_t w.whole) in let l = r_long p s w.whole in rw w.is (omega (arith, f), omega (arith, f))

-- ---- the ways on

empty : (s : List ℕ) → length s ≡ 0 → s ≡ []
empty [] e = refl
empty (b ∷ s) e = absurd (omega arith)

row_long : (b : Bool) (row : List ℕ) (n at : ℕ) → length (row_after b row n at) ≡ length row
row_long true row n at = length-set row n at
row_long false row n at = refl

module _ {side : Side} {s : List ℕ} {base from : ℕ} {row₀ row : List ℕ} {p : Place} {rest : List ℕ} (g : Going side s base from row₀ row p rest) where
  abbrev all : Option Refusal
  all = pass_refusal (sheet_number side) base s

  -- nothing is left
  module _ (z : length rest ≡ 0) where
    pub ends : (shifted from all ≡ none) × (p.classes ≡ base + class_count s)
    unfolding refusal_from class_count groups_of split_groups whole_end records_of records_in locate first_of concat refuse_if
    ends = (g.refusal ∙ ap (refusal_from p) (empty rest z), omega (arith, g.count, ap class_count (empty rest z)))

    pub ends_row : Filled all base from s row₀ row
    unfolding filled fill records_of records_in
    ends_row = record { long = g.long; rows = λ e. sym (g.rows ∙ ap (filled row p.classes p.byte) (empty rest z)) }

  -- the record at hand is refused
  module _ (h : 0 < length rest) {e : Refused} (b : Blames p rest e) where
    pub stops : shifted from all ≡ some (refusal_of e)
    unfolding refused_at
    stops = g.refusal ∙ go (whole_first rest) refl ∙ rw (b.sheet, b.byte)
      where
        go : (t : Bool) → whole_first rest ≡ t → refusal_from p rest ≡ some (record { number = reason_number e.reason; sheet = sheet_number p.side; byte = p.byte })
        go true w = refused_whole p rest w b.number
        go false w = let q : 2 ≡ reason_number e.reason = (let t = rw (w, refused_at) at b.number in cc) in rw q at (torn p rest w h)

    pub stops_row : Filled all base from s row₀ row
    stops_row = record { long = g.long; rows = λ q. absurd (some≢none _ (sym stops ∙ ap (shifted from) q)) }

  -- it is not
  pub goes_on : {r row' rest' : List ℕ} {p' : Place} → Passes p rest r → Follows p r p' → row' ≡ row_after (is_class r) row p.classes p.byte → rest' ≡ drop (length r) rest
      → Going side s base from row₀ row' p' rest'
  goes_on w f e d =
      let f' = rw w.is at f in
      let e' = rw w.is at e in
      record {
        refusal = rw (d, w.is) (g.refusal ∙ refusal_step p rest w.whole f' (refused_is p rest w.whole w.is ∙ w.fine));
        count = rw (d, w.is) (g.count ∙ count_step p rest w.whole f');
        rows = rw (d, w.is) (g.rows ∙ rows_step p rest w.whole row f' e');
        long = rw e (row_long _ row p.classes p.byte ∙ g.long);
        inside = rw (d, w.is) (omega (arith, f'.byte, rest_long p rest w.whole, g.inside));
      }
