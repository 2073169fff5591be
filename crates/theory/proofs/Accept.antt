-- What holds of two sheets that are not refused.
-- Assumes nothing.
use mathlib.Core.Path.{◌≡◌, refl, sym, ap, ◌∙◌, subst}
use mathlib.Core.Bool.{Bool, true, false, not, ◌&&◌, ◌||◌}
use mathlib.Core.List.{List, [], ◌∷◌, ◌++◌}
use mathlib.Core.Option.{none}
use Prim.Native.Nat.{ℕ, zero, suc, ◌+◌, ◌-◌, ◌≤◌, ◌<◌, zero-le}
use native.Mathlib.Nat.{zero-add, add-zero, suc-add, add-suc}
use native.Mathlib.Omega.{arith}
use lib.Dec.{T, eqb, leb, ltb, eqb→eq, nleb→lt, nltb→le, lt→ltb}
use lib.ListN.{length, get_or}
use Rattle.spec.specs.Record.{kind, is_kind, is_class, bit, flags, index, target, references, kind_fits, length_fits, body_fits, IMPLEMENTS, LOCAL, USES, MEMBER, REFERS}
use Rattle.spec.specs.Sheet.{Group, Located, locate, located_in, located, Split, split_groups, records_of, whole_end, groups_of, class_count, total, group, group_references, of_kind}
use Rattle.spec.specs.Sheet.{is_interface, is_instance_field}
use Rattle.spec.specs.Markers.{clash}
use Rattle.spec.specs.Classes.{overlay}
use Rattle.spec.specs.Refusals.{record_tests, record_refusal, torn_refusal, no_class_refusal, no_such_class, no_such_index, superclass_fits}
use Rattle.spec.specs.Refusals.{encloser_fits, implements_fits, uses_fits, name_met, form_tests, deemed_tests, form_refusal, deemed_refusal, sheet_refusal}
use Rattle.laws.proofs.Bools.{t_and, not_or_l, not_or_r, un_not, imply, not_and_r}
use Rattle.laws.proofs.All.{All, all_left, all_right, weaken, all_gather, not_any}
use Rattle.theory.proofs.Cut.{split_class, split_other}
use Rattle.theory.proofs.Answers.{first_none, if_none, Fails, passing}

-- ---- located records

-- what a located record is, by cases
unfoldable pub locate_if : ℕ → ℕ → ℕ → ℕ → ℕ → List ℕ → List (List ℕ) → Bool → List Located
locate_if s at n k p r rs b = elim b [
  | true ↦ record { sheet = s; byte = at; class = n; record_number = 0; before = 0; grouped = true; bytes = r } ∷ locate s (at + length r) (suc n) 1 (kind r) rs
  | false ↦ record { sheet = s; byte = at; class = n - 1; record_number = k; before = p; grouped = ltb 0 k; bytes = r } ∷ locate s (at + length r) n (suc k) (kind r) rs
]

-- a located record passes the first pass
pub record Passed (l : Located) : Type 0 where
  pub kind_fits : T (kind_fits l.sheet l.bytes)
  pub length_fits : T (length_fits l.bytes)
  pub grouped : T l.grouped
  pub body_fits : T (body_fits l.sheet l.bytes)
  pub class : l.class < 256
  pub record_number : l.record_number < 255
  pub ordered : l.before ≤ kind l.bytes

passed : (l : Located) → All Fails (record_tests l) → Passed l
unfolding record_tests
passed l f = record {
  kind_fits = un_not (kind_fits l.sheet l.bytes) f.0;
  length_fits = un_not (length_fits l.bytes) f.1.0;
  grouped = un_not l.grouped f.1.1.0;
  body_fits = un_not (body_fits l.sheet l.bytes) f.1.1.1.0;
  class = nleb→lt 256 l.class (not_or_l (leb 256 l.class) (leb 255 l.record_number) f.1.1.1.1.0);
  record_number = nleb→lt 255 l.record_number (not_or_r (leb 256 l.class) (leb 255 l.record_number) f.1.1.1.1.0);
  ordered = nltb→le (kind l.bytes) l.before f.1.1.1.1.1.0;
}

-- no record stands before the first CLASS record
no_loose : (s at n p : ℕ) (rs : List (List ℕ)) → All Passed (locate s at n 0 p rs) → (split_groups rs).loose ≡ []
unfolding locate locate_if
no_loose s at n p [] h = unfold split_groups in refl
no_loose s at n p (r ∷ rs) h = go (is_class r) refl h
  where
    go : (b : Bool) → is_class r ≡ b → All Passed (locate_if s at n 0 p r rs b) → (split_groups (r ∷ rs)).loose ≡ []
    go true e h = ap (λ (t : Split). t.loose) (split_class r rs e)
    go false e h = absurd h.0.grouped

-- the classes are counted
count_low : (s at n k p : ℕ) (rs : List (List ℕ)) → n ≤ 256 → All Passed (locate s at n k p rs) → n + length (split_groups rs).groups ≤ 256
unfolding locate locate_if
count_low s at n k p [] b h = unfold split_groups in omega (arith, add-zero n)
count_low s at n k p (r ∷ rs) b h = go (is_class r) refl h (count_low s (at + length r) (suc n) 1 (kind r) rs) (count_low s (at + length r) n (suc k) (kind r) rs)
  where
    go : (b : Bool) → is_class r ≡ b → All Passed (locate_if s at n k p r rs b)
        → (suc n ≤ 256 → All Passed (locate s (at + length r) (suc n) 1 (kind r) rs) → suc n + length (split_groups rs).groups ≤ 256)
        → (n ≤ 256 → All Passed (locate s (at + length r) n (suc k) (kind r) rs) → n + length (split_groups rs).groups ≤ 256)
        → n + length (split_groups (r ∷ rs)).groups ≤ 256
    go true e h f f' = omega (arith, ap (λ (t : Split). length t.groups) (split_class r rs e), f h.0.class h.1)
    go false e h f f' = omega (arith, ap (λ (t : Split). length t.groups) (split_other r rs e), f' b h.1)

-- what each record of a sheet has that passes
pub each_record : (Q : List ℕ → Type 0) (s : ℕ) → ((l : Located) → l.sheet ≡ s → Passed l → Q l.bytes)
    → (at n k p : ℕ) (rs : List (List ℕ)) → All Passed (locate s at n k p rs) → All Q rs
unfolding locate locate_if
each_record Q s q at n k p [] h = tt
each_record Q s q at n k p (r ∷ rs) h = go (is_class r) h (each_record Q s q (at + length r) (suc n) 1 (kind r) rs) (each_record Q s q (at + length r) n (suc k) (kind r) rs)
  where
    go : (b : Bool) → All Passed (locate_if s at n k p r rs b) → (All Passed (locate s (at + length r) (suc n) 1 (kind r) rs) → All Q rs)
        → (All Passed (locate s (at + length r) n (suc k) (kind r) rs) → All Q rs) → All Q (r ∷ rs)
    go true h f f' = (q _ refl h.0, f h.1)
    go false h f f' = (q _ refl h.0, f' h.1)

-- ---- from located records to classes

module _ (P : ℕ → List ℕ → Type 0) where
  -- P holds of each record with its class's number, counted from n
  abbrev pub Each : ℕ → List Group → Type 0
  Each n [] = Unit {0}
  Each n (h ∷ hs) = All (P n) h × Each (suc n) hs

  record Grouped (n : ℕ) (t : Split) : Type 0 where
    loose : All (P (n - 1)) t.loose
    groups : Each n t.groups

  grouped : (s at n k p : ℕ) (rs : List (List ℕ)) → All (λ l. P l.class l.bytes) (locate s at n k p rs) → Grouped n (split_groups rs)
  unfolding locate locate_if
  grouped s at n k p [] h = unfold split_groups in record { loose = tt; groups = tt }
  grouped s at n k p (r ∷ rs) h = go (is_class r) refl h (grouped s (at + length r) (suc n) 1 (kind r) rs) (grouped s (at + length r) n (suc k) (kind r) rs)
    where
      go : (b : Bool) → is_class r ≡ b → All (λ l. P l.class l.bytes) (locate_if s at n k p r rs b)
          → (All (λ l. P l.class l.bytes) (locate s (at + length r) (suc n) 1 (kind r) rs) → Grouped (suc n) (split_groups rs))
          → (All (λ l. P l.class l.bytes) (locate s (at + length r) n (suc k) (kind r) rs) → Grouped n (split_groups rs)) → Grouped n (split_groups (r ∷ rs))
      go true e h f f' =
          let c = f h.1 in
          subst (Grouped n) (sym (split_class r rs e))
          (record { loose = tt; groups = ((h.0, subst (λ (m : ℕ). All (P m) (split_groups rs).loose) (let q : suc n - 1 ≡ n = omega arith in q) c.loose), c.groups) })
      go false e h f f' =
          let c = f' h.1 in
          subst (Grouped n) (sym (split_other r rs e)) (record { loose = (h.0, c.loose); groups = c.groups })

  each_append : (n : ℕ) (xs ys : List Group) → Each n xs → Each (n + length xs) ys → Each n (xs ++ ys)
  each_append n [] ys h k = subst (λ (m : ℕ). Each m ys) (add-zero n) k
  each_append n (x ∷ xs) ys h k = (h.0, each_append (suc n) xs ys h.1 (subst (λ (m : ℕ). Each m ys) (add-suc n (length xs) ∙ sym (suc-add n (length xs))) k))

  each_get : (n : ℕ) (xs : List Group) → Each n xs → (i : ℕ) → All (P (n + i)) (get_or xs i [])
  each_get n [] h i = tt
  each_get n (x ∷ xs) h zero = subst (λ (m : ℕ). All (P m) x) (sym (add-zero n)) h.0
  each_get n (x ∷ xs) h (suc i) = subst (λ (m : ℕ). All (P m) (get_or xs i [])) (suc-add n i ∙ sym (add-suc n i)) (each_get (suc n) xs h.1 i)

  -- what holds of the located records holds of each class's records with its number
  pub by_class : (lib user : List ℕ) → All (λ l. P l.class l.bytes) (located lib user) → (c : ℕ) → All (P c) (group lib user c)
  unfolding located located_in group class_count groups_of
  by_class lib user h c =
      let a = grouped 0 0 0 0 0 (records_of lib) (all_left (λ l. P l.class l.bytes) (located_in 0 0 lib) (located_in 1 (class_count lib) user) h) in
      let b = grouped 1 0 (class_count lib) 0 0 (records_of user) (all_right (λ l. P l.class l.bytes) (located_in 0 0 lib) (located_in 1 (class_count lib) user) h) in
      subst (λ (m : ℕ). All (P m) (get_or (groups_of lib ++ groups_of user) c [])) (zero-add c)
      (each_get 0 (groups_of lib ++ groups_of user)
      (each_append 0 (groups_of lib) (groups_of user) a.groups (subst (λ (m : ℕ). Each m (groups_of user)) (sym (zero-add (length (groups_of lib)))) b.groups)) c)

-- ---- the second pass

-- record r of class c fits the form
pub record RecordFits (nlib n : ℕ) (g : ℕ → Group) (c : ℕ) (r : List ℕ) : Type 0 where
  pub there : All (λ d. d < n) (references r)
  pub local : T (is_kind USES r) → index r < length (of_kind LOCAL (g (target r)))
  pub member : T (is_kind REFERS r) → index r < length (of_kind MEMBER (g (target r)))
  pub zero_fits : T (is_class r) → T (eqb c 0) → T (not (bit 0 (flags r)))
  pub superclass_fits : T (is_class r) → T (superclass_fits g c r)
  pub encloser_fits : T (is_class r) → T (encloser_fits nlib c r)
  pub implements_fits : T (is_kind IMPLEMENTS r) → T (implements_fits g c r)
  pub field_fits : T (is_instance_field r) → T (not (is_interface (g c)))
  pub uses_fits : T (is_kind USES r) → T (uses_fits g c r)
  pub name_fits : T (is_class r) → T (not (name_met g c r))

fits : (nlib n : ℕ) (g : ℕ → Group) (l : Located) → All Fails (form_tests g nlib n l) → RecordFits nlib n g l.class l.bytes
unfolding form_tests no_such_class no_such_index
fits nlib n g l f =
    let r = l.bytes in
    let c = l.class in
    record {
      there = weaken (λ d. T (not (leb n d))) (λ d. d < n) (λ d t. nleb→lt n d t) (references r) (not_any (leb n) (references r) f.0);
      local = λ t. nleb→lt (length (of_kind LOCAL (g (target r)))) (index r) (not_and_r (is_kind USES r) (leb (length (of_kind LOCAL (g (target r)))) (index r)) f.1.0 t);
      member = λ t. nleb→lt (length (of_kind MEMBER (g (target r)))) (index r) (not_and_r (is_kind REFERS r) (leb (length (of_kind MEMBER (g (target r)))) (index r)) f.1.1.0 t);
      zero_fits = λ t u. not_and_r (eqb c 0) (bit 0 (flags r)) (not_and_r (is_class r) (eqb c 0 && bit 0 (flags r)) f.1.1.1.0 t) u;
      superclass_fits = λ t. imply (is_class r) (superclass_fits g c r) f.1.1.1.1.0 t;
      encloser_fits = λ t. imply (is_class r) (encloser_fits nlib c r) f.1.1.1.1.1.0 t;
      implements_fits = λ t. imply (is_kind IMPLEMENTS r) (implements_fits g c r) f.1.1.1.1.1.1.0 t;
      field_fits = λ t. not_and_r (is_instance_field r) (is_interface (g c)) f.1.1.1.1.1.1.1.0 t;
      uses_fits = λ t. imply (is_kind USES r) (uses_fits g c r) f.1.1.1.1.1.1.1.1.0 t;
      name_fits = λ t. not_and_r (is_class r) (name_met g c r) f.1.1.1.1.1.1.1.1.1.0 t;
    }

-- ---- two sheets

-- a sheet passes the first pass
pub record Clear (sheet n : ℕ) (s : List ℕ) : Type 0 where
  pub end : whole_end s ≡ length s
  pub passed : All Passed (located_in sheet n s)
  pub loose : (split_groups (records_of s)).loose ≡ []
  pub few : n ≤ 256 → n + class_count s ≤ 256

pub clear : (sheet n : ℕ) (s : List ℕ) → record_refusal sheet n s ≡ none → torn_refusal sheet s ≡ none → Clear sheet n s
unfolding record_refusal torn_refusal located_in class_count groups_of
clear sheet n s e e' =
    let p : All Passed (located_in sheet n s) = passing record_tests Passed passed (located_in sheet n s) e in
    record {
      end = eqb→eq (whole_end s) (length s) (un_not (eqb (whole_end s) (length s)) (if_none (not (eqb (whole_end s) (length s))) 2 sheet (whole_end s) e'));
      passed = p;
      loose = no_loose sheet 0 n 0 (records_of s) p;
      few = λ h. count_low sheet 0 n 0 0 (records_of s) h p;
    }

-- what the second pass gives
pub form_fits : (lib user : List ℕ) → form_refusal lib user ≡ none → (c : ℕ) → All (RecordFits (class_count lib) (total lib user) (group lib user) c) (group lib user c)
unfolding form_refusal
form_fits lib user e =
    by_class (RecordFits (class_count lib) (total lib user) (group lib user)) lib user
    (passing (form_tests (group lib user) (class_count lib) (total lib user)) (λ l. RecordFits (class_count lib) (total lib user) (group lib user) l.class l.bytes)
    (fits (class_count lib) (total lib user) (group lib user)) (located lib user) e)

-- the overlay markers of a library class do not clash, as record r of class c has it
abbrev pub Deemed : ℕ → (ℕ → Group) → ℕ → List ℕ → Type 0
Deemed nlib g c r = T (is_class r) → c < nlib → T (not (clash (overlay g c)))

deemed : (nlib : ℕ) (g : ℕ → Group) (l : Located) → All Fails (deemed_tests g nlib l) → Deemed nlib g l.class l.bytes
unfolding deemed_tests
deemed nlib g l f t h =
    let c : ℕ = l.class in
    let m : ℕ = overlay g c in
    let odd : Bool = eqb c 0 && not (eqb m 0) in
    not_or_l (clash m) odd (not_and_r (is_class l.bytes && ltb c nlib) (clash m || odd) f.0 (t_and (is_class l.bytes) (ltb c nlib) t (lt→ltb c nlib h)))

-- what 11 gives
pub deemed_fits : (lib user : List ℕ) → deemed_refusal lib user ≡ none → (c : ℕ) → All (Deemed (class_count lib) (group lib user) c) (group lib user c)
unfolding deemed_refusal
deemed_fits lib user e =
    by_class (Deemed (class_count lib) (group lib user)) lib user
    (passing (deemed_tests (group lib user) (class_count lib)) (λ l. Deemed (class_count lib) (group lib user) l.class l.bytes)
    (deemed (class_count lib) (group lib user)) (located lib user) e)

-- what acceptance gives
pub record Sound (lib user : List ℕ) : Type 0 where
  pub library_sheet : Clear 0 0 lib
  pub user_sheet : Clear 1 (class_count lib) user
  pub some : T (not (eqb (class_count lib) 0))
  pub fits : (c : ℕ) → All (RecordFits (class_count lib) (total lib user) (group lib user) c) (group lib user c)
  pub few : total lib user ≤ 256

pub sound : (lib user : List ℕ) → sheet_refusal lib user ≡ none → Sound lib user
unfolding sheet_refusal total no_class_refusal
sound lib user e =
    let q = first_none _ e in
    let a = clear 0 0 lib q.0 q.1.0 in
    let b = clear 1 (class_count lib) user q.1.1.1.0 q.1.1.1.1.0 in
    record {
      library_sheet = a;
      user_sheet = b;
      some = if_none (eqb (class_count lib) 0) 7 0 (length lib) q.1.1.0;
      fits = form_fits lib user q.1.1.1.1.1.0;
      few = b.few (omega (arith, a.few zero-le, zero-add (class_count lib)));
    }

-- no class names one that is not there
pub references_below : (lib user : List ℕ) → Sound lib user → (d : ℕ) → All (λ e. e < total lib user) (group_references (group lib user d))
unfolding group_references
references_below lib user s d =
    all_gather (RecordFits (class_count lib) (total lib user) (group lib user) d) (λ e. e < total lib user) references (λ r f. f.there) (group lib user d) (s.fits d)
