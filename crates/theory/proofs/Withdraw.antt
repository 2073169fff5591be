-- A withdrawal leaves sheets that are accepted: the records that stay were passed already, and nothing that they name is gone.
-- Assumes nothing.
use mathlib.Core.Path.{◌≡◌, sym, ap, ◌∙◌, subst}
use mathlib.Core.Logic.{◌⊎◌, inl, inr, ◌≢◌}
use mathlib.Core.Bool.{Bool, true, false, not, ◌||◌}
use mathlib.Core.List.Memᴰ
use mathlib.Core.List.{List, [], ◌∷◌, ◌++◌, map, map-append, append_assoc, Memᴰ}
use mathlib.Core.Option.{none}
use Prim.Native.Nat.{ℕ, suc, ◌+◌, ◌-◌, ◌≤◌, ◌<◌}
use native.Mathlib.Nat.{zero-add}
use native.Mathlib.Omega.{arith}
use lib.Dec.{T, T_not, not_T, eqb, ltb, ltb→lt, nltb→le}
use lib.ListN.{length, get_or, take, drop, length-append, take-append-drop, get_or-append}
use lib.Seq.{length-take-le}
use Rattle.spec.specs.Lists.{any, concat, elem, span, same_list}
use Rattle.spec.specs.Record.{kind, is_class, bit, none16, flags, superclass, target, index, class_name, references, LOCAL, MEMBER}
use Rattle.spec.specs.Sheet.{Group, Located, locate, located_in, split_groups, records_of, whole_end, groups_of, class_count, total, group, class_record, group_references, of_kind}
use Rattle.spec.specs.Sheet.{is_interface}
use Rattle.spec.specs.Relations.{References}
use Rattle.spec.specs.Refusals.{no_class_refusal, record_tests, record_refusal, torn_refusal, superclass_fits, implements_fits, uses_fits, name_met, one_class, form_refusal}
use Rattle.spec.specs.Refusals.{deemed_refusal, sheet_refusal, last_class, empty_refusal, named_refusal, withdrawn_sheet}
use Rattle.theory.specs.Claims.{WithdrawnSheets, NamedRight}
use Rattle.spec.proofs.Also.{◌also◌}
use Rattle.laws.proofs.Bools.{and_cong, not_not, eq→eqb, positive, decide}
use Rattle.laws.proofs.All.{All, all_take, weaken, weaken₂, any_cong, all_parts, not_any, none_any, at_span, below_span}
use Rattle.laws.proofs.Members.{elem_mem, mem_elem}
use Rattle.theory.proofs.Answers.{Fails, first_none, none_first, none_if, plain_none, none_plain, passing, unrefused}
use Rattle.theory.proofs.Cut.{IsGroup, concat_append, map_take, split_join, split_parts, records_of_groups, groups_of_join, sheet_grouped, sheet_groups, whole_join}
use Rattle.theory.proofs.Accept.{locate_if, RecordFits, Sound, sound, references_below}
use Rattle.theory.proofs.Local.{enclosers_same}
use Rattle.theory.proofs.References.{references_uses, references_refers}
use Rattle.theory.proofs.Groups.{reference_is}
use Rattle.theory.proofs.Form.{group_past, sound_falls}
use Rattle.theory.proofs.Fitting.{fits_form}
use Rattle.theory.proofs.Deemed.{deemed_stays}

-- there is a class where 13 is not due
pub some_class : (user : List ℕ) → empty_refusal user ≡ none → 1 ≤ class_count user
unfolding empty_refusal
some_class user e = positive (class_count user) (plain_none (eqb (class_count user) 0) 13 e)

-- where 17 is not due, no class below the last names it
unnamed : (library user : List ℕ) → named_refusal library user ≡ none → (c : ℕ) → c < last_class library user
    → T (not (elem (last_class library user) (group_references (group library user c))))
unfolding named_refusal
unnamed library user e c h =
    let last = last_class library user in
    let names : ℕ → Bool = λ d. elem last (group_references (group library user d)) in
    subst (λ (d : ℕ). T (not (names d))) (zero-add c) (at_span (λ d. T (not (names d))) 0 last (not_any names (span 0 last) (plain_none (any names (span 0 last)) 17 e)) c h)

-- ---- fewer classes

-- a record that fits among n classes fits among the first n' of them, where it and they name no other
module _ (nlib n n' : ℕ) (g g' : ℕ → Group) (closed : (d : ℕ) → d < n' → All (λ e. e < n') (group_references (g d))) (same : (d : ℕ) → d < n' → g d ≡ g' d) where
  fits_fewer : (c : ℕ) → c < n' → (r : List ℕ) → All (λ d. d < n') (references r) → RecordFits nlib n g c r → RecordFits nlib n' g' c r
  unfolding superclass_fits implements_fits uses_fits name_met
  fits_fewer c h r refs f = record {
    there = refs;
    local = λ t. subst (λ (x : Group). index r < length (of_kind LOCAL x)) (same (target r) (subst (All (λ d. d < n')) (references_uses r t) refs).0) (f.local t);
    member = λ t. subst (λ (x : Group). index r < length (of_kind MEMBER x)) (same (target r) (subst (All (λ d. d < n')) (references_refers r t) refs).0) (f.member t);
    zero_fits = f.zero_fits;
    superclass_fits = λ t. subst T super_same (f.superclass_fits t);
    encloser_fits = f.encloser_fits;
    implements_fits = λ t. subst T implements_same (f.implements_fits t);
    field_fits = λ t. subst (λ (x : Group). T (not (is_interface x))) (same c h) (f.field_fits t);
    uses_fits = λ t. subst (λ (es : List ℕ). T (elem (target r) (c ∷ es))) (enclosers_same nlib g g' (λ d. d < n') closed same c h) (f.uses_fits t);
    name_fits = λ t. subst (λ (b : Bool). T (not b)) met_same (f.name_fits t);
  }
    where
      super_same : superclass_fits g c r ≡ superclass_fits g' c r
      super_same =
          ap (λ (x : Bool). elim (eqb c 0 || bit 0 (flags r)) as (λ (b : Bool). Bool) [ true ↦ eqb (superclass r) none16 | false ↦ x ])
          (and_cong (ltb (superclass r) c) (λ t. let k = ltb→lt (superclass r) c t in ap (λ (x : Group). not (is_interface x)) (same (superclass r) (omega arith))))

      implements_same : implements_fits g c r ≡ implements_fits g' c r
      implements_same = and_cong (ltb (target r) c) (λ t. let k = ltb→lt (target r) c t in ap is_interface (same (target r) (omega arith)))

      met_same : name_met g c r ≡ name_met g' c r
      met_same =
          any_cong (λ d. d < c) (λ d. same_list (class_name (class_record (g d))) (class_name r)) (λ d. same_list (class_name (class_record (g' d))) (class_name r))
          (λ d k. ap (λ (x : Group). same_list (class_name (class_record x)) (class_name r)) (same d (omega arith))) (span 0 c)
          (subst (λ (m : ℕ). All (λ d. d < m) (span 0 c)) (zero-add c) (below_span 0 c))

-- ---- a part of the located records

locate_left : (P : Located → Type 0) (s at n k p : ℕ) (rs rs' : List (List ℕ)) → All P (locate s at n k p (rs ++ rs')) → All P (locate s at n k p rs)
unfolding locate locate_if
locate_left P s at n k p [] rs' h = tt
locate_left P s at n k p (r ∷ rs) rs' h = go (is_class r) h (locate_left P s (at + length r) (suc n) 1 (kind r) rs rs') (locate_left P s (at + length r) n (suc k) (kind r) rs rs')
  where
    go : (b : Bool) → All P (locate_if s at n k p r (rs ++ rs') b) → (All P (locate s (at + length r) (suc n) 1 (kind r) (rs ++ rs')) → All P (locate s (at + length r) (suc n) 1 (kind r) rs))
        → (All P (locate s (at + length r) n (suc k) (kind r) (rs ++ rs')) → All P (locate s (at + length r) n (suc k) (kind r) rs)) → All P (locate_if s at n k p r rs b)
    go true h f f' = (h.0, f h.1)
    go false h f f' = (h.0, f' h.1)

-- ---- the sheets without the last group

module _ (library user : List ℕ) (e : sheet_refusal library user ≡ none) (filled : 1 ≤ class_count user) where
  old : Sound library user
  old = sound library user e

  abbrev k : ℕ
  k = class_count user - 1

  abbrev left : List ℕ
  left = withdrawn_sheet user

  all_whole : All IsGroup (map concat (groups_of user))
  all_whole = sheet_groups user old.user_sheet.end old.user_sheet.loose

  left_whole : All IsGroup (map concat (take k (groups_of user)))
  left_whole = subst (All IsGroup) (sym (map_take concat k (groups_of user))) (all_take IsGroup k (map concat (groups_of user)) all_whole)

  regrouped : map records_of (map concat (groups_of user)) ≡ groups_of user
  regrouped = sym (groups_of_join (map concat (groups_of user)) all_whole) ∙ ap groups_of (sheet_grouped user old.user_sheet.end old.user_sheet.loose)

  left_regrouped : map records_of (map concat (take k (groups_of user))) ≡ take k (groups_of user)
  left_regrouped = ap (map records_of) (map_take concat k (groups_of user)) ∙ map_take records_of k (map concat (groups_of user)) ∙ ap (take k) regrouped

  pub withdrawn_groups : groups_of left ≡ take k (groups_of user)
  unfolding withdrawn_sheet
  withdrawn_groups = groups_of_join (map concat (take k (groups_of user))) left_whole ∙ left_regrouped

  records_left : records_of left ≡ concat (take k (groups_of user))
  unfolding withdrawn_sheet
  records_left = records_of_groups (map concat (take k (groups_of user))) left_whole ∙ ap concat left_regrouped

  records_all : records_of user ≡ records_of left ++ concat (drop k (groups_of user))
  records_all =
      ap records_of (sym (sheet_grouped user old.user_sheet.end old.user_sheet.loose))
      ∙ records_of_groups (map concat (groups_of user)) all_whole ∙ ap concat regrouped
      ∙ ap concat (sym (take-append-drop k (groups_of user))) ∙ concat_append (take k (groups_of user)) (drop k (groups_of user))
      ∙ ap (λ (rs : List (List ℕ)). rs ++ concat (drop k (groups_of user))) (sym records_left)

  -- the sheet is what is left and then the last group
  pub withdrawn_front : user ≡ left ++ concat (map concat (drop k (groups_of user)))
  unfolding withdrawn_sheet
  withdrawn_front =
      sym (sheet_grouped user old.user_sheet.end old.user_sheet.loose)
      ∙ ap (λ (gs : List Group). concat (map concat gs)) (sym (take-append-drop k (groups_of user)))
      ∙ ap concat (map-append concat (take k (groups_of user)) (drop k (groups_of user)))
      ∙ concat_append (map concat (take k (groups_of user))) (map concat (drop k (groups_of user)))

  pub withdrawn_count : class_count left + 1 ≡ class_count user
  unfolding class_count
  withdrawn_count = omega (arith, ap length withdrawn_groups, length-take-le k (groups_of user) (let z : k ≤ length (groups_of user) = omega arith in z))

  pub withdrawn_group : (d : ℕ) → d < total library left → group library user d ≡ group library left d
  unfolding group total class_count
  withdrawn_group d h =
      let m : length (groups_of left) ≡ k = ap length withdrawn_groups ∙ length-take-le k (groups_of user) (let z : k ≤ length (groups_of user) = omega arith in z) in
      let l : d < length (groups_of library ++ take k (groups_of user)) = omega (arith, length-append (groups_of library) (take k (groups_of user)), ap length withdrawn_groups) in
      ap (λ (xs : List Group). get_or (groups_of library ++ xs) d []) (sym (take-append-drop k (groups_of user)))
      ∙ ap (λ (xs : List Group). get_or xs d []) (sym (append_assoc (groups_of library) (take k (groups_of user)) (drop k (groups_of user))))
      ∙ get_or-append (groups_of library ++ take k (groups_of user)) (drop k (groups_of user)) [] d l
      ∙ ap (λ (xs : List Group). get_or (groups_of library ++ xs) d []) (sym withdrawn_groups)

  -- ---- nothing names the last class

  module _ (named : named_refusal library user ≡ none) where
    abbrev g : ℕ → Group
    g = group library user

    abbrev n' : ℕ
    n' = total library left

    one_less : n' + 1 ≡ total library user
    unfolding total
    one_less = omega (arith, withdrawn_count)

    last_is : last_class library user ≡ n'
    unfolding last_class
    last_is = omega (arith, one_less)

    closed : (d : ℕ) → d < n' → All (λ e. e < n') (group_references (g d))
    unfolding elem
    closed d h =
        let last = last_class library user in
        weaken₂ (λ e. e < total library user) (λ e. T (not (eqb last e))) (λ e. e < n')
        (λ e p q. let ne : last ≢ e = (λ z. T_not (eqb last e) q (eq→eqb z)) in omega (arith, one_less, last_is, ne))
        (group_references (g d)) (references_below library user old d)
        (not_any (eqb last) (group_references (g d)) (unnamed library user named d (omega (arith, last_is))))

    fewer : (c : ℕ) → All (RecordFits (class_count library) n' (group library left) c) (group library left c)
    unfolding group_references
    fewer c = go (decide (ltb c n'))
      where
        go : T (ltb c n') ⊎ T (not (ltb c n')) → All (RecordFits (class_count library) n' (group library left) c) (group library left c)
        go (inl t) =
            let h = ltb→lt c n' t in
            subst (All (RecordFits (class_count library) n' (group library left) c)) (withdrawn_group c h)
            (weaken₂ (RecordFits (class_count library) (total library user) g c) (λ r. All (λ e. e < n') (references r)) (RecordFits (class_count library) n' (group library left) c)
            (λ r f q. fits_fewer (class_count library) (total library user) n' g (group library left) closed withdrawn_group c h r q f)
            (g c) (old.fits c) (all_parts (λ e. e < n') references (g c) (closed c h)))
        go (inr t) = subst (All (RecordFits (class_count library) n' (group library left) c)) (sym (group_past library left c (nltb→le c n' t))) tt

    -- ---- each part of the refusals

    left_loose : (split_groups (records_of left)).loose ≡ []
    unfolding groups_of
    left_loose =
        ap (λ (rs : List (List ℕ)). (split_groups rs).loose) records_left
        ∙ (split_join (take k (groups_of user)) (all_take (λ h. T (one_class h)) k (groups_of user) (split_parts (records_of user)).one)).0

    records_fine : record_refusal 1 (class_count library) left ≡ none
    unfolding sheet_refusal record_refusal located_in
    records_fine =
        let P : Located → Type 0 = λ l. All Fails (record_tests l) in
        let was : All P (locate 1 0 (class_count library) 0 0 (records_of user)) =
        passing record_tests P (λ l h. h) (locate 1 0 (class_count library) 0 0 (records_of user)) (first_none _ e).1.1.1.0 in
        unrefused record_tests P (λ l h. h) (locate 1 0 (class_count library) 0 0 (records_of left))
        (locate_left P 1 0 (class_count library) 0 0 (records_of left) (concat (drop k (groups_of user)))
        (subst (λ (rs : List (List ℕ)). All P (locate 1 0 (class_count library) 0 0 rs)) records_all was))

    torn_fine : torn_refusal 1 left ≡ none
    unfolding torn_refusal withdrawn_sheet
    torn_fine =
        none_if (not (eqb (whole_end left) (length left))) 2 1 (whole_end left)
        (not_not (eqb (whole_end left) (length left)) (eq→eqb (whole_join (map concat (take k (groups_of user))) left_whole)))

    deemed_fine : deemed_refusal library left ≡ none
    unfolding sheet_refusal
    deemed_fine = deemed_stays library user left (sound_falls library user old) old.library_sheet.loose left_loose (first_none _ e).1.1.1.1.1.1.0

pub withdrawn_sheets : WithdrawnSheets
unfolding sheet_refusal
withdrawn_sheets library user e some named =
    let q = first_none _ e in
    let f = some_class user some in
    let s = sound library user e in
    none_first
    (record_refusal 0 0 library ∷ torn_refusal 0 library ∷ no_class_refusal library ∷ record_refusal 1 (class_count library) (withdrawn_sheet user) ∷ torn_refusal 1 (withdrawn_sheet user)
    ∷ form_refusal library (withdrawn_sheet user) ∷ deemed_refusal library (withdrawn_sheet user) ∷ [])
    (q.0
    also q.1.0
    also q.1.1.0
    also records_fine library user e f named
    also torn_fine library user e f named
    also fits_form library (withdrawn_sheet user) s.library_sheet.loose (left_loose library user e f named) (fewer library user e f named)
    also deemed_fine library user e f named
    also tt)

-- ---- the test for 17

module _ (library user : List ℕ) (some : 1 ≤ total library user) where
  abbrev last : ℕ
  last = last_class library user

  abbrev names : ℕ → Bool
  names c = elem last (group_references (group library user c))

  only_last : named_refusal library user ≡ none → (c : ℕ) → References (group library user c) last → c ≡ last
  unfolding last_class
  only_last e c h = go (decide (ltb c last)) (decide (ltb c (total library user)))
    where
      go : T (ltb c last) ⊎ T (not (ltb c last)) → T (ltb c (total library user)) ⊎ T (not (ltb c (total library user))) → c ≡ last
      go (inl t) u = absurd (T_not (names c) (unnamed library user e c (ltb→lt c last t)) (elem_mem ((reference_is (group library user c) last).1 h)))
      go (inr t) (inl u) = omega (arith, nltb→le c last t, ltb→lt c (total library user) u, some)
      go (inr t) (inr u) =
          absurd (Memᴰ.not-nil (subst (λ (x : Group). Memᴰ h.bytes x) (group_past library user c (nltb→le c (total library user) u)) h.member))

  last_only : ((c : ℕ) → References (group library user c) last → c ≡ last) → named_refusal library user ≡ none
  unfolding named_refusal
  last_only f =
      none_plain (any names (span 0 last)) 17 (none_any names (span 0 last)
      (weaken (λ c. c < 0 + last) (λ c. T (not (names c)))
      (λ c l. not_T (names c) (λ t. let z = f c ((reference_is (group library user c) last).0 (mem_elem last (group_references (group library user c)) t)) in omega arith))
      (span 0 last) (below_span 0 last)))

pub named_right : NamedRight
named_right library user some = (only_last library user some, last_only library user some)
