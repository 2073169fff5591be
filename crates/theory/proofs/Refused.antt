-- Every refusal has a number that its operation may give, and blames what that number says: a sheet that is too long, the first record that is not whole,
-- a record by the byte where it begins, the end of a library without classes, or nothing.
-- Assumes nothing.
use mathlib.Core.Path.{◌≡◌, refl, sym, ◌∙◌, subst}
use mathlib.Core.Bool.{Bool, true, false}
use mathlib.Core.List.{List, [], ◌∷◌, map}
use mathlib.Core.Option.{Option, none, some}
use Prim.Native.Nat.{ℕ, suc, ◌+◌, ◌<◌, ◌≤◌}
use native.Mathlib.Nat.{add-zero, zero-add}
use native.Mathlib.Omega.{arith}
use lib.Dec.{T, leb, eqb→eq, leb→le, lit<}
use lib.ListN.{length, take, length-append}
use Rattle.spec.specs.Lists.{any, all, concat, first_of, elem}
use Rattle.spec.specs.Record.{kind, is_class}
use Rattle.spec.specs.Sheet.{records_of, whole_end, class_count, total, group, Located, locate, located_in, located}
use Rattle.spec.specs.Refusals.{Refusal, refuse_if, refuse_plain, refuse_record, size_refusal, torn_refusal, record_tests, record_refusal, no_class_refusal, form_tests, deemed_tests, form_refusal}
use Rattle.spec.specs.Refusals.{deemed_refusal, sheet_refusal, new_refusal, present_refusal, short_refusal, no_user_refusal, unused_refusal, group_refusal, room_refusal, added_sheet}
use Rattle.spec.specs.Refusals.{replaced_sheet, empty_refusal, named_refusal, few_lines_refusal, judge_refusal, add_refusal, replace_refusal, withdraw_refusal, query_refusal}
use Rattle.spec.specs.Refusals.{few_places_refusal, no_name_refusal, index_refusal, lookup_refusal, index_numbers, lookup_numbers}
use Rattle.spec.specs.Refusals.{record_numbers, plain_numbers, present_numbers, judge_numbers, add_numbers, replace_numbers, withdraw_numbers, query_numbers}
use Rattle.theory.specs.Claims.{sheet_of, Begins, Blames, size, torn, at, no_class, plain, BlamesEdit, present, made, Refuses, RefusalsHold}
use Rattle.laws.proofs.All.{All, all_append, all_if, weaken, all_true}
use Rattle.laws.proofs.Members.{all_elem}
use Rattle.theory.proofs.Answers.{Gives, gives_first, gives_map}

-- ---- answers

gives_weaken : {A : Type 0} (P Q : A → Type 0) → ((a : A) → P a → Q a) → (o : Option A) → Gives P o → Gives Q o
gives_weaken P Q f none h = tt
gives_weaken P Q f (some a) h = f a h

module _ (P : Refusal → Type 0) where
  pub gives_if : (b : Bool) (n s byte : ℕ) → (T b → P (record { number = n; sheet = s; byte = byte })) → Gives P (refuse_if b n s byte)
  unfolding refuse_if
  gives_if true n s byte h = h tt
  gives_if false n s byte h = tt

  -- a record is refused with the number of one of the tests that it meets, at its own place
  pub gives_record : (l : Located) (tests : List (ℕ × Bool)) → All (λ t. T t.1 → P (record { number = t.0; sheet = l.sheet; byte = l.byte })) tests
      → Gives P (refuse_record l tests)
  unfolding refuse_record
  gives_record l tests h =
      gives_first P _ (gives_map P (λ t. refuse_if t.1 t.0 l.sheet l.byte) tests
      (weaken (λ t. T t.1 → P (record { number = t.0; sheet = l.sheet; byte = l.byte })) (λ t. Gives P (refuse_if t.1 t.0 l.sheet l.byte))
      (λ t k. gives_if t.1 t.0 l.sheet l.byte k) tests h))

-- ---- where located records begin

-- l is in sheet s, and begins where one of the records does that stand from a byte on
pub record Among (s from : ℕ) (rs : List (List ℕ)) (l : Located) : Type 0 where
  pub number : ℕ
  pub sheet : l.sheet ≡ s
  pub there : number < length rs
  pub sum : l.byte ≡ from + length (concat (take number rs))

among_cons : (s from : ℕ) (r : List ℕ) (rs : List (List ℕ)) (l : Located) (ls : List Located) → l.sheet ≡ s → l.byte ≡ from
    → All (Among s (from + length r) rs) ls → All (Among s from (r ∷ rs)) (l ∷ ls)
unfolding concat
among_cons s from r rs l ls e e' h = (
  record { number = 0; sheet = e; there = omega arith; sum = e' ∙ sym (add-zero from) },
  weaken (Among s (from + length r) rs) (Among s from (r ∷ rs))
      (λ m a. record
      { number = suc a.number; sheet = a.sheet; there = omega (arith, a.there); sum = omega (arith, a.sum, length-append r (concat (take a.number rs))) })
      ls h,
)

pub locate_among : (s from n k b : ℕ) (rs : List (List ℕ)) → All (Among s from rs) (locate s from n k b rs)
unfolding locate
locate_among s from n k b [] = tt
locate_among s from n k b (r ∷ rs) =
    all_if (Among s from (r ∷ rs)) (is_class r) _ _
    (among_cons s from r rs _ (locate s (from + length r) (suc n) 1 (kind r) rs) refl refl (locate_among s (from + length r) (suc n) 1 (kind r) rs))
    (among_cons s from r rs _ (locate s (from + length r) n (suc k) (kind r) rs) refl refl (locate_among s (from + length r) n (suc k) (kind r) rs))

module _ (library user : List ℕ) where
  -- l is in one of the two sheets, and begins where a record of it does
  record Stands (l : Located) : Type 0 where
    number : ℕ
    sheet : l.sheet < 2
    begins : Begins (sheet_of library user l.sheet) number l.byte

  all_stand : (s n : ℕ) → s < 2 → All Stands (located_in s n (sheet_of library user s))
  unfolding located_in
  all_stand s n h =
      let rs : List (List ℕ) = records_of (sheet_of library user s) in
      weaken (Among s 0 rs) Stands
      (λ l a. record {
        number = a.number;
        sheet = subst (λ (k : ℕ). k < 2) (sym a.sheet) h;
        begins = subst (λ (k : ℕ). Begins (sheet_of library user k) a.number l.byte) (sym a.sheet) (record { there = a.there; sum = a.sum ∙ zero-add _ });
      })
      (locate s 0 n 0 0 rs) (locate_among s 0 n 0 0 rs)

  both_stand : All Stands (located library user)
  unfolding located
  both_stand = all_append Stands (located_in 0 0 library) (located_in 1 (class_count library) user) (all_stand 0 0 (lit< tt)) (all_stand 1 (class_count library) (lit< tt))

-- ---- numbers

-- a test computed over a list of numbers passes at each of them
at_number : (p : ℕ → Bool) (numbers : List ℕ) → T (all p numbers) → (n : ℕ) → T (elem n numbers) → T (p n)
at_number p numbers t n h = all_elem (λ k. T (p k)) numbers n (all_true p numbers t) h

-- a refusal has one of the numbers and blames what it may
abbrev Says : List ℕ → (Refusal → Type 0) → Refusal → Type 0
Says numbers blames r = T (elem r.number numbers) × blames r

-- ---- the parts of the refusals, of two sheets

module _ (library user : List ℕ) where
  abbrev Present : Refusal → Type 0
  Present = Says present_numbers (Blames library user)

  abbrev Recorded : Refusal → Type 0
  Recorded = Says record_numbers (Blames library user)

  -- neither 1 nor 2
  abbrev Later : Refusal → Type 0
  Later r = (3 ≤ r.number) × Blames library user r

  recorded : (o : Option Refusal) → Gives Recorded o → Gives Present o
  unfolding elem any all record_numbers present_numbers
  recorded o h = gives_weaken Recorded Present (λ r q. (at_number (λ m. elem m present_numbers) record_numbers tt r.number q.0, q.1)) o h

  -- 1
  size_says : (buffer : List ℕ) (used : ℕ) → Gives Present (size_refusal library buffer used)
  unfolding size_refusal elem any present_numbers record_numbers
  size_says buffer used =
      gives_first Present _ (gives_if Present _ 1 0 0 (λ t. (tt, size (lit< tt))), (gives_if Present _ 1 1 0 (λ t. (tt, size (lit< tt))), tt))

  -- 2
  torn_says : (s : ℕ) → s < 2 → Gives Present (torn_refusal s (sheet_of library user s))
  unfolding torn_refusal elem any present_numbers record_numbers
  torn_says s h = gives_if Present _ 2 s (whole_end (sheet_of library user s)) (λ t. (tt, torn h refl))

  -- a number that blames a record: along located records, by tests with those numbers
  along_says : (tests : Located → List (ℕ × Bool)) → ((l : Located) → T (all (λ t. elem t.0 record_numbers) (tests l)))
      → (ls : List Located) → All (Stands library user) ls → Gives Recorded (first_of (map (λ l. refuse_record l (tests l)) ls))
  unfolding elem any all
  along_says tests h ls k =
      gives_first Recorded _ (gives_map Recorded (λ l. refuse_record l (tests l)) ls
      (weaken (Stands library user) (λ l. Gives Recorded (refuse_record l (tests l)))
      (λ l a. gives_record Recorded l (tests l)
      (weaken (λ t. T (elem t.0 record_numbers)) (λ t. T t.1 → Recorded (record { number = t.0; sheet = l.sheet; byte = l.byte }))
      (λ t q u. (q, at q a.sheet a.begins))
      (tests l) (all_true (λ t. elem t.0 record_numbers) (tests l) (h l))))
      ls k))

  record_says : (s n : ℕ) → s < 2 → Gives Recorded (record_refusal s n (sheet_of library user s))
  unfolding record_refusal record_tests elem any all record_numbers
  record_says s n h = along_says record_tests (λ l. tt) (located_in s n (sheet_of library user s)) (all_stand library user s n h)

  form_says : Gives Recorded (form_refusal library user)
  unfolding form_refusal form_tests elem any all record_numbers
  form_says = along_says (form_tests (group library user) (class_count library) (total library user)) (λ l. tt) (located library user) (both_stand library user)

  deemed_says : Gives Recorded (deemed_refusal library user)
  unfolding deemed_refusal deemed_tests elem any all record_numbers
  deemed_says = along_says (deemed_tests (group library user) (class_count library)) (λ l. tt) (located library user) (both_stand library user)

  -- 7, of a library without classes
  no_class_says : Gives Present (no_class_refusal library)
  unfolding no_class_refusal elem any present_numbers record_numbers
  no_class_says = gives_if Present _ 7 0 (length library) (λ t. (tt, no_class (eqb→eq (class_count library) 0 t) refl))

  -- a number that blames no record
  plain_says : (numbers : List ℕ) (b : Bool) (n : ℕ) → T (elem n plain_numbers) → T (elem n numbers) → Gives (Says numbers Later) (refuse_plain b n)
  unfolding refuse_plain elem any all plain_numbers
  plain_says numbers b n q h =
      gives_if (Says numbers Later) b n 0 0
      (λ t. (h, (leb→le 3 n (at_number (leb 3) plain_numbers tt n q), plain q)))

  sheet_says : Gives Present (sheet_refusal library user)
  unfolding sheet_refusal
  sheet_says =
      gives_first Present _ (
        recorded (record_refusal 0 0 library) (record_says 0 0 (lit< tt)),
        (
          torn_says 0 (lit< tt),
          (
            no_class_says,
            (
              recorded (record_refusal 1 (class_count library) user) (record_says 1 (class_count library) (lit< tt)),
              (torn_says 1 (lit< tt), (recorded (form_refusal library user) form_says, (recorded (deemed_refusal library user) deemed_says, tt))),
            ),
          ),
        ),
      )

  new_says : Gives Recorded (new_refusal library user)
  unfolding new_refusal
  new_says = gives_first Recorded _ (record_says 1 (class_count library) (lit< tt), (form_says, (deemed_says, tt)))

present_says : (library user : List ℕ) (used : ℕ) → Gives (Present library (take used user)) (present_refusal library user used)
unfolding present_refusal
present_says library user used =
    let now : List ℕ = take used user in
    gives_first (Present library now) _ (size_says library now user used, (sheet_says library now, tt))

-- ---- the operations

-- the numbers of an operation, with those of the present sheets among them
module _ (numbers : List ℕ) (among : T (all (λ n. elem n numbers) present_numbers)) where
  number_among : {library user : List ℕ} (r : Refusal) → Present library user r → T (elem r.number numbers)
  number_among r h = at_number (λ n. elem n numbers) present_numbers among r.number h.0

  later_new : (library new : List ℕ) → Gives (Says numbers (Later library new)) (new_refusal library new)
  unfolding elem any all record_numbers present_numbers
  later_new library new =
      gives_weaken (Recorded library new) (Says numbers (Later library new))
      (λ r h. (
        at_number (λ n. elem n numbers) present_numbers among r.number (at_number (λ m. elem m present_numbers) record_numbers tt r.number h.0),
        (leb→le 3 r.number (at_number (leb 3) record_numbers tt r.number h.0), h.1),
      ))
      (new_refusal library new) (new_says library new)

  -- an operation first refuses the present sheets, and then speaks of a user sheet that may be new
  refuses : (library user : List ℕ) (used : ℕ) (new : List ℕ) (blames : Refusal → Type 0)
      → ((r : Refusal) → present_refusal library user used ≡ some r → Blames library (take used user) r → blames r)
      → ((r : Refusal) → present_refusal library user used ≡ none → Later library new r → blames r)
      → (os : List (Option Refusal)) → All (Gives (Says numbers (Later library new))) os
      → Refuses numbers blames (first_of (present_refusal library user used ∷ os))
  unfolding first_of
  refuses library user used new blames first later os k =
      let h = go (present_refusal library user used) refl (present_says library user used) in
      record { number = λ r e. (subst (Gives (Says numbers blames)) e h).0; place = λ r e. (subst (Gives (Says numbers blames)) e h).1 }
    where
      go : (o : Option Refusal) → present_refusal library user used ≡ o → Gives (Present library (take used user)) o → Gives (Says numbers blames) (first_of (o ∷ os))
      go none e h = gives_weaken (Says numbers (Later library new)) (Says numbers blames) (λ r q. (q.0, later r e q.1)) (first_of os) (gives_first _ os k)
      go (some r) e h = (number_among r h, first r e h.1)

pub refusals_hold : RefusalsHold
unfolding judge_refusal add_refusal replace_refusal withdraw_refusal query_refusal short_refusal no_user_refusal unused_refusal group_refusal room_refusal empty_refusal named_refusal
    few_lines_refusal record_numbers plain_numbers present_numbers judge_numbers add_numbers replace_numbers withdraw_numbers query_numbers index_refusal lookup_refusal
    few_places_refusal no_name_refusal index_numbers lookup_numbers elem any all
refusals_hold library user used =
    let now : List ℕ = take used user in
    record {
      judge = λ lines scratch.
          refuses judge_numbers tt library user used now (Blames library now) (λ r e h. h) (λ r e h. h.1) _ (plain_says library now judge_numbers _ 12 tt tt, tt);
      add = λ g lines scratch.
          let new : List ℕ = added_sheet now g in
          refuses add_numbers tt library user used new (BlamesEdit library user used new) (λ r. present) (λ r e h. made e h.0 h.1) _ (
            plain_says library new add_numbers _ 14 tt tt,
            (plain_says library new add_numbers _ 15 tt tt, (later_new add_numbers tt library new, (plain_says library new add_numbers _ 12 tt tt, tt))),
          );
      replace = λ c g lines scratch.
          let new : List ℕ = replaced_sheet library now c g in
          refuses replace_numbers tt library user used new (BlamesEdit library user used new) (λ r. present) (λ r e h. made e h.0 h.1) _ (
            plain_says library new replace_numbers _ 13 tt tt,
            (
              plain_says library new replace_numbers _ 14 tt tt,
              (plain_says library new replace_numbers _ 15 tt tt, (later_new replace_numbers tt library new, (plain_says library new replace_numbers _ 12 tt tt, tt))),
            ),
          );
      withdraw = λ lines.
          refuses withdraw_numbers tt library user used now (Blames library now) (λ r e h. h) (λ r e h. h.1) _
          (plain_says library now withdraw_numbers _ 13 tt tt, (plain_says library now withdraw_numbers _ 17 tt tt, (plain_says library now withdraw_numbers _ 12 tt tt, tt)));
      query = λ c.
          refuses query_numbers tt library user used now (Blames library now) (λ r e h. h) (λ r e h. h.1) _ (plain_says library now query_numbers _ 13 tt tt, tt);
      index = λ places.
          refuses index_numbers tt library user used now (Blames library now) (λ r e h. h) (λ r e h. h.1) _ (plain_says library now index_numbers _ 12 tt tt, tt);
      lookup = λ name places.
          refuses lookup_numbers tt library user used now (Blames library now) (λ r e h. h) (λ r e h. h.1) _
          (plain_says library now lookup_numbers _ 12 tt tt, (plain_says library now lookup_numbers _ 13 tt tt, tt));
    }
