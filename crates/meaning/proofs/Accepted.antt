-- The canonical form of an accepted sheet is accepted beside the same library: its records are those of the old sheet, and the second pass asks nothing that changed.
-- Its groups rise by kind as they are made (16). And the refusals of the operation that writes it have its numbers.
-- Assumes nothing.
use mathlib.Core.Path.{◌≡◌, refl, sym, ap, ◌∙◌, subst}
use mathlib.Core.Bool.{not}
use mathlib.Core.List.{List, [], ◌∷◌, ◌++◌, map}
use mathlib.Core.Option.{Option, none, some}
use Prim.Native.Nat.{ℕ, zero, suc, ◌+◌, ◌≤◌, zero-le}
use native.Mathlib.Nat.{le_refl}
use native.Mathlib.Omega.{arith}
use lib.Dec.{T, eqb, ltb, eqb→eq}
use lib.ListN.{length, get_or, take, length-map}
use lib.Seq.{take-length}
use Rattle.spec.specs.Lists.{any, all, concat, gather, elem, span}
use Rattle.spec.specs.Record.{Bytes, kind, is_kind, CLASS, LOCAL, MEMBER}
use Rattle.spec.specs.Sheet.{Group, whole_end, groups_of, class_count, total, group, class_record, of_kind}
use Rattle.spec.specs.Markers.{implies}
use Rattle.spec.specs.Refusals.{Refusal, Accepted, record_refusal, torn_refusal, no_class_refusal, one_class, form_refusal, deemed_refusal, sheet_refusal, present_refusal}
use Rattle.spec.specs.Refusals.{refuse_plain, judge_refusal, query_refusal, record_numbers, plain_numbers, present_numbers, judge_numbers, query_numbers}
use Rattle.theory.specs.Claims.{Blames, plain}
use Rattle.spec.proofs.Also.{◌also◌}
use Rattle.laws.proofs.Bools.{not_not, eq→eqb, T-implies}
use Rattle.laws.proofs.All.{All, all_concat, weaken, weaken₂, all_map, all_true}
use Rattle.laws.proofs.Members.{all_elem}
use Rattle.theory.proofs.Answers.{Gives, gives_first, first_none, first_some, none_first, none_if}
use Rattle.theory.proofs.Accept.{RecordFits, Sound, sound}
use Rattle.theory.proofs.Fitting.{fits_form}
use Rattle.theory.proofs.Unrefused.{present_facts, facts_present}
use Rattle.theory.proofs.Form.{sound_falls, Byte}
use Rattle.theory.proofs.Refused.{gives_if, refusals_hold}
use Rattle.meaning.specs.Canonical.{is_set, arranged, canonical_group, canonical, output_refusal, canonical_numbers, canonical_refusal}
use Rattle.meaning.specs.Claims.{CanonicalRefuses}
use Rattle.meaning.proofs.Shaped.{Shaped, shaped_groups, one_class_lem}
use Rattle.meaning.proofs.Grouped.{others_stay, arranged_kind, of_canonical, canonical_all, canonical_front, canonical_count, forms_shaped, end_of_canonical, loose_of_canonical, groups_of_canonical}
use Rattle.meaning.proofs.Same.{canonical_short}
use Rattle.theory.proofs.Few.{groups_few}
use Rattle.theory.proofs.Deemed.{deemed_stays}
use Rattle.theory.proofs.Order.{Ascends}
use Rattle.meaning.proofs.Kept.{Keeps, fits_kept}
use Rattle.meaning.proofs.Passing.{Good, good_passes}

-- ---- one group: its canonical form rises by kind, has no more records, and keeps what the second pass asks

climbs_lower : (a b : ℕ) → a ≤ b → (rs : Group) → Ascends b rs → Ascends a rs
climbs_lower a b h [] k = tt
climbs_lower a b h (r ∷ rs) k = (omega (arith, h, k.0), k.1)

climbs_append : (k : ℕ) (xs rs : Group) → All (λ r. T (is_kind k r)) xs → Ascends k rs → Ascends k (xs ++ rs)
climbs_append k [] rs h c = c
climbs_append k (x ∷ xs) rs h c =
    let e : kind x ≡ k = eqb→eq (kind x) k h.0 in
    (omega arith, subst (λ (j : ℕ). Ascends j (xs ++ rs)) (sym e) (climbs_append k xs rs h.1 c))

climbs_span : (f : ℕ → Group) → ((k : ℕ) → All (λ r. T (is_kind k r)) (f k)) → (i n : ℕ) → Ascends i (gather f (span i n))
unfolding gather span
climbs_span f h i zero = tt
climbs_span f h i (suc n) =
    climbs_append i (f i) (gather f (span (suc i) n)) (h i) (climbs_lower i (suc i) (omega arith) (gather f (span (suc i) n)) (climbs_span f h (suc i) n))

canonical_climbs : (g : Group) → Ascends 0 (canonical_group g)
unfolding canonical_group
canonical_climbs g = climbs_lower 0 1 zero-le (gather (λ k. arranged k g) (span 1 8)) (climbs_span (λ k. arranged k g) (arranged_kind g) 1 8)

canonical_keeps : (g : Group) → T (one_class g) → All Shaped g → Keeps g (canonical_group g)
unfolding class_record is_set elem any
canonical_keeps g o h = record {
  first = ap (λ (l : Group). get_or l 0 []) (sym (canonical_front g o));
  classes = kept CLASS tt (omega arith) (omega arith);
  locals = kept LOCAL tt (omega arith) (omega arith);
  members = kept MEMBER tt (omega arith) (omega arith);
}
  where
    kept : (k : ℕ) → T (not (is_set k)) → 1 ≤ k → k ≤ 8 → of_kind k g ≡ of_kind k (canonical_group g)
    kept k t a b = sym (of_canonical g h k a b ∙ others_stay g k t)

same_keeps : (g : Group) → Keeps g g
same_keeps g = record { first = refl; classes = refl; locals = refl; members = refl }

-- ---- the sheet

all_bytes : (s : List ℕ) → All Byte s → Bytes s
all_bytes [] h = tt
all_bytes (b ∷ s) h = (h.0, all_bytes s h.1)

-- the groups at each number, where those of the user sheet are in their canonical form
row_keeps : (ls gs : List Group) → All (λ g. T (one_class g)) gs → All (All Shaped) gs → (c : ℕ)
    → Keeps (get_or (ls ++ gs) c []) (get_or (ls ++ map canonical_group gs) c [])
row_keeps [] [] o h c = same_keeps []
row_keeps [] (g ∷ gs) o h zero = canonical_keeps g o.0 h.0
row_keeps [] (g ∷ gs) o h (suc c) = row_keeps [] gs o.1 h.1 c
row_keeps (l ∷ ls) gs o h zero = same_keeps l
row_keeps (l ∷ ls) gs o h (suc c) = row_keeps ls gs o h c

row_all : (P : List ℕ → Type 0) (ls gs : List Group) (c : ℕ) → All P (get_or (ls ++ gs) c []) → All P (get_or (ls ++ map canonical_group gs) c [])
row_all P [] [] c h = h
row_all P [] (g ∷ gs) zero h = canonical_all g P h
row_all P [] (g ∷ gs) (suc c) h = row_all P [] gs c h
row_all P (l ∷ ls) gs zero h = h
row_all P (l ∷ ls) gs (suc c) h = row_all P ls gs c h

module _ (library now : List ℕ) (e : sheet_refusal library now ≡ none) (shaped : All (All Shaped) (groups_of now)) where
  abbrev new : List ℕ
  new = canonical now

  old : Sound library now
  old = sound library now e

  groups_are : groups_of new ≡ map canonical_group (groups_of now)
  groups_are = groups_of_canonical now shaped

  count_same : class_count new ≡ class_count now
  unfolding class_count
  count_same = ap length groups_are ∙ length-map (groups_of now) canonical_group

  total_same : total library now ≡ total library new
  unfolding total
  total_same = ap (λ (k : ℕ). class_count library + k) (sym count_same)

  new_group : (c : ℕ) → get_or (groups_of library ++ map canonical_group (groups_of now)) c [] ≡ group library new c
  unfolding group
  new_group c = ap (λ (gs : List Group). get_or (groups_of library ++ gs) c []) (sym groups_are)

  group_keeps : (c : ℕ) → Keeps (group library now c) (group library new c)
  unfolding group
  group_keeps c = subst (Keeps (group library now c)) (new_group c) (row_keeps (groups_of library) (groups_of now) (one_class_lem now) shaped c)

  group_all : (P : List ℕ → Type 0) (c : ℕ) → All P (group library now c) → All P (group library new c)
  unfolding group
  group_all P c h = subst (All P) (new_group c) (row_all P (groups_of library) (groups_of now) c h)

  forms_good : All Good (map canonical_group (groups_of now))
  forms_good =
      all_map (λ g. All Shaped g × (length g ≤ 255)) Good canonical_group
      (λ g h. record { shaped = canonical_all g Shaped h.0; climbs = canonical_climbs g; short = omega (arith, canonical_count g, h.1) }) (groups_of now)
      (weaken₂ (All Shaped) (λ g. length g ≤ 255) (λ g. All Shaped g × (length g ≤ 255)) (λ g h k. (h, k)) (groups_of now) shaped
      (groups_few 1 (class_count library) now old.user_sheet.passed))

  few_classes : class_count library + class_count new ≤ 256
  unfolding total
  few_classes = subst (λ (n : ℕ). n ≤ 256) total_same old.few

  records_fine : record_refusal 1 (class_count library) new ≡ none
  records_fine = good_passes (class_count library) new (loose_of_canonical now shaped) (subst (All Good) (sym groups_are) forms_good) few_classes

  torn_fine : torn_refusal 1 new ≡ none
  unfolding torn_refusal
  torn_fine = none_if (not (eqb (whole_end new) (length new))) 2 1 (whole_end new) (not_not (eqb (whole_end new) (length new)) (eq→eqb (end_of_canonical now shaped)))

  form_fine : form_refusal library new ≡ none
  form_fine = fits_form library new old.library_sheet.loose (loose_of_canonical now shaped) each
    where
      each : (c : ℕ) → All (RecordFits (class_count library) (total library new) (group library new) c) (group library new c)
      each c =
          subst (λ (n : ℕ). All (RecordFits (class_count library) n (group library new) c) (group library new c)) total_same
          (weaken (RecordFits (class_count library) (total library now) (group library now) c) (RecordFits (class_count library) (total library now) (group library new) c)
          (λ r f. fits_kept (group library now) (group library new) group_keeps c r (class_count library) (total library now) f) (group library new c)
          (group_all (RecordFits (class_count library) (total library now) (group library now) c) c (old.fits c)))

  deemed_fine : deemed_refusal library new ≡ none
  unfolding sheet_refusal
  deemed_fine = deemed_stays library now new (sound_falls library now old) old.library_sheet.loose (loose_of_canonical now shaped) (first_none _ e).1.1.1.1.1.1.0

  canonical_unrefused : sheet_refusal library new ≡ none
  unfolding sheet_refusal
  canonical_unrefused =
      let q = first_none _ e in
      none_first
      (record_refusal 0 0 library ∷ torn_refusal 0 library ∷ no_class_refusal library ∷ record_refusal 1 (class_count library) new ∷ torn_refusal 1 new ∷ form_refusal library new
      ∷ deemed_refusal library new ∷ [])
      (q.0 also q.1.0 also q.1.1.0 also records_fine also torn_fine also form_fine also deemed_fine also tt)

  canonical_bytes : Bytes new
  unfolding canonical
  canonical_bytes =
      let rs : Group = concat (map canonical_group (groups_of now)) in
      all_bytes (concat rs) (all_concat Byte rs
      (weaken Shaped (All Byte) (λ r s. s.bytes) rs (all_concat Shaped (map canonical_group (groups_of now)) (forms_shaped now shaped))))

pub canonical_accepted : (library user : List ℕ) (used : ℕ) → Accepted library user used → Accepted library (canonical (take used user)) (length (canonical (take used user)))
canonical_accepted library user used a =
    let now : List ℕ = take used user in
    let new : List ℕ = canonical now in
    let p = present_facts library user used a.unrefused in
    let shaped = shaped_groups library user used a in
    record {
      library_bytes = a.library_bytes;
      user_bytes = canonical_bytes library now p.sheets shaped;
      unrefused = facts_present library new (length new)
          (record {
            library_size = p.library_size;
            user_size = omega (arith, canonical_short library user used a, p.user_size);
            in_buffer = le_refl (length new);
            sheets = subst (λ (s : List ℕ). sheet_refusal library s ≡ none) (sym (take-length new)) (canonical_unrefused library now p.sheets shaped);
          });
    }

-- ---- the refusals of the operation

-- a number that judging and asking both may give is one of the present sheets'
of_both : (n : ℕ) → T (elem n judge_numbers) → T (elem n query_numbers) → T (elem n canonical_numbers)
unfolding elem any all implies judge_numbers query_numbers canonical_numbers present_numbers record_numbers
of_both n h =
    T-implies (elem n query_numbers) (elem n canonical_numbers)
    (all_elem (λ m. T (implies (elem m query_numbers) (elem m canonical_numbers))) judge_numbers n
    (all_true (λ m. implies (elem m query_numbers) (elem m canonical_numbers)) judge_numbers tt) h)

gives_each : {A : Type 0} (P : A → Type 0) (o : Option A) → ((a : A) → o ≡ some a → P a) → Gives P o
gives_each P none f = tt
gives_each P (some a) f = f a refl

module _ (library user : List ℕ) (used : ℕ) where
  abbrev Says : Refusal → Type 0
  Says r = T (elem r.number canonical_numbers) × Blames library (take used user) r

  present_says : (r : Refusal) → present_refusal library user used ≡ some r → Says r
  unfolding judge_refusal query_refusal
  present_says r e =
      let h = refusals_hold library user used in
      let j = h.judge 0 0 in
      (of_both r.number (j.number r (first_some _ e)) ((h.query 0).number r (first_some _ e)), j.place r (first_some _ e))

  output_says : (new out : List ℕ) → Gives Says (output_refusal new out)
  unfolding output_refusal refuse_plain elem any canonical_numbers present_numbers record_numbers plain_numbers
  output_says new out = gives_if Says (ltb (length out) (length new)) 15 0 0 (λ t. (tt, plain tt))

  canonical_says : (out : List ℕ) → Gives Says (canonical_refusal library user used out)
  unfolding canonical_refusal
  canonical_says out = gives_first Says _ (gives_each Says (present_refusal library user used) present_says also output_says (canonical (take used user)) out also tt)

pub canonical_refuses : CanonicalRefuses
canonical_refuses library user used out =
    let h = canonical_says library user used out in
    record { number = λ r e. (subst (Gives (Says library user used)) e h).0; place = λ r e. (subst (Gives (Says library user used)) e h).1 }
