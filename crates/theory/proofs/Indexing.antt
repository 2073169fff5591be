-- The index of class names: each class stands at one place, and what is found through it is what the walk finds.
-- Assumes nothing.
use mathlib.Core.Path.{◌≡◌, refl, sym, ap, ap₂, ◌∙◌, subst}
use mathlib.Core.Bool.{Bool, true, false, not}
use mathlib.Core.Logic.{◌⊎◌, inl, inr, ◌↔◌}
use mathlib.Core.List.{List, [], ◌∷◌}
use Prim.Native.Nat.{ℕ, zero, suc, ◌+◌, ◌-◌, ◌%◌, ◌<◌, ◌≤◌, zero-le}
use native.Mathlib.Nat.{zero-add, mul-zero}
use native.Mathlib.Omega.{arith}
use lib.Dec.{T, eqb, eqb→eq, eqb_refl}
use lib.ListN.{length, get_or, set, replicate, take, length-set, length-replicate}
use lib.Seq.{get_or-set_same, get_or-set_other}
use Rattle.std.specs.Prelude.{Option, Some, None, find, sum_by}
use Rattle.std.specs.Option.{is_some}
use Rattle.std.proofs.Math.Facts.{no_eqb}
use Rattle.std.proofs.lemmas.Bool.{cases_eq}
use Rattle.std.proofs.lemmas.List.Folds.{sum_by-replicate}
use Rattle.std.proofs.lemmas.List.Sums.{sum_by-set, sum_by-cons}
use Rattle.spec.specs.Lists.{any, same_list, span}
use Rattle.spec.specs.Record.{none16}
use Rattle.spec.specs.Sheet.{Group, class_count, total, group, class_record}
use Rattle.spec.specs.Refusals.{name_met}
use Rattle.spec.specs.Index.{index_places, home, is_free, next_place, free_from, entered, name_of, has_name, index_of, found_from, found_in, lowest_named, met_through, names_index, class_named}
use Rattle.laws.proofs.All.{not_any, at_span}
use Rattle.theory.proofs.Accept.{clear, RecordFits}
use Rattle.theory.proofs.Form.{accepted_sound, group_one_class, class_first}
use Rattle.theory.specs.Claims.{at_step, Stands, Placed, NamesAgree, IndexAgrees, LookupFinds}
use Rattle.laws.proofs.Bools.{t_true, t_false, false_t, t_and, and_l, and_r, eq→eqb}
use Rattle.laws.proofs.Rows.{same_all}
use Rattle.laws.proofs.Below.{any_none, from_next, Lowest, lowest, no_lowest, find_lowest, find_any}

-- ---- places

pub home_low : (name : List ℕ) → home name < index_places
unfolding home
home_low name = omega arith

-- the place so many steps from another, and the next
place_more : (h i : ℕ) → next_place ((h + i) % index_places) ≡ (h + (i + 1)) % index_places
unfolding next_place
place_more h i = omega arith

place_none : (h : ℕ) → h < index_places → (h + 0) % index_places ≡ h
place_none h l = omega arith

-- the steps to a place
place_steps : (h p : ℕ) → h < index_places → p < index_places → (h + (p + index_places - h) % index_places) % index_places ≡ p
place_steps h p l k = omega arith

is_none : (row : List ℕ) (p : ℕ) → is_free row p ≡ true → get_or row p none16 ≡ none16
unfolding is_free
is_none row p e = eqb→eq _ _ (subst T (sym e) tt)

not_none : (row : List ℕ) (p : ℕ) → is_free row p ≡ false → (get_or row p none16 ≡ none16 → ⊥)
unfolding is_free
not_none row p e q = subst T e (eq→eqb q)

-- ---- how many places are taken

abbrev taken : ℕ → ℕ
taken v = elim (eqb v none16) [ true ↦ 0 | false ↦ 1 ]

one : (v : ℕ) → eqb v none16 ≡ false → taken v ≡ 1
one v e = rw (e, taken) refl

all_taken : (row : List ℕ) → ((p : ℕ) → p < length row → is_free row p ≡ false) → sum_by taken row ≡ length row
unfolding is_free
all_taken [] h = refl
all_taken (v ∷ row) h = omega (arith, sum_by-cons taken v row, one v (h 0 (omega arith)), all_taken row (λ p l. h (suc p) (omega arith)))

none_taken : (n : ℕ) → sum_by taken (replicate n none16) ≡ 0
none_taken n = sum_by-replicate taken n none16 ∙ mul-zero n

-- ---- the first free place

-- j steps from h a place is free, and from i steps on none before it
record Free (row : List ℕ) (h i j : ℕ) : Type 0 where
  from : i ≤ j
  free : is_free row ((h + j) % index_places) ≡ true
  before : (x : ℕ) → i ≤ x → x < j → is_free row ((h + x) % index_places) ≡ false

-- among k places from i steps on
data Search (row : List ℕ) (h i k p : ℕ) : Type 0 where
  free_at : (j : ℕ) → j < i + k → Free row h i j → p ≡ (h + j) % index_places → Search row h i k p
  none_free : ((x : ℕ) → i ≤ x → x < i + k → is_free row ((h + x) % index_places) ≡ false) → Search row h i k p

module _ (row : List ℕ) (k p : ℕ) where
  pub free_here : is_free row p ≡ true → free_from row (suc k) p ≡ p
  unfolding free_from
  free_here e = rw (e, free_from) refl

  pub free_next : is_free row p ≡ false → free_from row (suc k) p ≡ free_from row k (next_place p)
  unfolding free_from
  free_next e = rw (e, free_from) refl

search_free : (row : List ℕ) (h i k : ℕ) → Search row h i k (free_from row k ((h + i) % index_places))
search_free row h i zero = none_free (λ x l m. absurd (omega arith))
search_free row h i (suc k) = go (is_free row ((h + i) % index_places)) refl (search_free row h (i + 1) k)
  where
    go : (b : Bool) → is_free row ((h + i) % index_places) ≡ b → Search row h (i + 1) k (free_from row k ((h + (i + 1)) % index_places))
        → Search row h i (suc k) (free_from row (suc k) ((h + i) % index_places))
    go true e s = free_at i (omega arith) (record { from = omega arith; free = e; before = λ x l m. absurd (omega arith) }) (free_here row k _ e)
    go false e (free_at j l f q) =
        free_at j (omega arith)
        (record { from = omega (arith, f.from); free = f.free; before = from_next (λ x. x < j → is_free row ((h + x) % index_places) ≡ false) i (λ m. e) f.before })
        (free_next row k _ e ∙ ap (free_from row k) (place_more h i) ∙ q)
    go false e (none_free f) = none_free (from_next (λ x. x < i + suc k → is_free row ((h + x) % index_places) ≡ false) i (λ m. e) (λ x l m. f x l (omega arith)))

-- p is the first free place after h, going round
record Gets (row : List ℕ) (h p : ℕ) : Type 0 where
  steps : ℕ
  few : steps < index_places
  is : p ≡ (h + steps) % index_places
  free : get_or row p none16 ≡ none16
  before : (i : ℕ) → i < steps → get_or row ((h + i) % index_places) none16 ≡ none16 → ⊥

-- ---- the row, class by class

-- a row, and the same with c at a place
module _ (row : List ℕ) (p c : ℕ) (long : p < length row) where
  set_here : get_or (set row p c) p none16 ≡ c
  set_here = get_or-set_same row p c none16 long

  set_there : (q : ℕ) → (q ≡ p → ⊥) → get_or (set row p c) q none16 ≡ get_or row q none16
  set_there q n = get_or-set_other row p q c none16 n

module _ (g : ℕ → Group) where
  pub record Filled (n : ℕ) (row : List ℕ) : Type 0 where
    pub placed : Placed g n row
    pub taken_are : sum_by taken row ≡ n

  filled_none : Filled 0 (replicate index_places none16)
  filled_none = record {
    placed = record {
      held = record { long = length-replicate index_places none16; holds = λ p. inl (same_all none16 index_places p) };
      each = λ c h. absurd (omega arith);
    };
    taken_are = none_taken index_places;
  }

  module _ {n : ℕ} {row : List ℕ} (f : Filled n row) (few : n < index_places) where
    -- not all places are taken
    some_free : (h : ℕ) → h < index_places → ((x : ℕ) → x < index_places → is_free row ((h + x) % index_places) ≡ false) → ⊥
    some_free h l a =
        let all : (p : ℕ) → p < length row → is_free row p ≡ false =
        λ p k. subst (λ (q : ℕ). is_free row q ≡ false) (place_steps h p l (omega (arith, f.placed.held.long))) (a _ (omega arith)) in
        omega (arith, all_taken row all, f.taken_are, f.placed.held.long)

    -- the place that the next class gets
    gets : (h : ℕ) → h < index_places → Gets row h (free_from row index_places h)
    gets h l = go (subst (λ (p : ℕ). Search row h 0 index_places (free_from row index_places p)) (place_none h l) (search_free row h 0 index_places))
      where
        go : Search row h 0 index_places (free_from row index_places h) → Gets row h (free_from row index_places h)
        go (free_at j k w e) = record {
          steps = j;
          few = omega arith;
          is = e;
          free = subst (λ (p : ℕ). get_or row p none16 ≡ none16) (sym e) (is_none row _ w.free);
          before = λ i m. not_none row _ (w.before i zero-le m);
        }
        go (none_free a) = absurd (some_free h l (λ x k. a x zero-le (omega arith)))

    -- class n takes it, and nothing else moves
    module _ {p : ℕ} (w : Gets row (home (name_of g n)) p) where
      within : p < length row
      within = omega (arith, w.is, f.placed.held.long)

      stay : (q : ℕ) → (get_or row q none16 ≡ none16 → ⊥) → get_or (set row p n) q none16 ≡ get_or row q none16
      stay q t = set_there row p n within q (λ e. t (ap (λ (x : ℕ). get_or row x none16) e ∙ w.free))

      hold : (q : ℕ) → get_or row q none16 < n → get_or (set row p n) q none16 ≡ get_or row q none16
      hold q l = stay q (λ e. omega (arith, e, l))

      at_place : (q : ℕ) → (q ≡ p) ⊎ ((q ≡ p → ⊥) × (get_or (set row p n) q none16 ≡ get_or row q none16))
      at_place q = elim (cases_eq q p) [ inl e ↦ inl e | inr o ↦ inr (o, set_there row p n within q o) ]

      holds : (q : ℕ) → (get_or (set row p n) q none16 ≡ none16) ⊎ (get_or (set row p n) q none16 < suc n)
      holds q = elim (at_place q) [
        | inl e ↦ inr (omega (arith, ap (λ (x : ℕ). get_or (set row p n) x none16) e, set_here row p n within))
        | inr o ↦ elim (f.placed.held.holds q) [ inl e ↦ inl (o.1 ∙ e) | inr l ↦ inr (omega (arith, l, o.1)) ]
      ]

      -- those that stand there stand as they did
      old : (c : ℕ) → c < n → Stands g row c → Stands g (set row p n) c
      old c l s =
          record {
            steps = s.steps;
            few = s.few;
            holds = hold (at_step g c s.steps) (omega (arith, s.holds)) ∙ s.holds;
            only = λ q e. elim (at_place q) [
              | inl d ↦ absurd (omega (arith, e, ap (λ (x : ℕ). get_or (set row p n) x none16) d, set_here row p n within))
              | inr o ↦ s.only q (sym o.1 ∙ e)
            ];
            lower = λ i m. let k = s.lower i m in omega (arith, hold (at_step g c i) (omega (arith, k)), k);
          }

      new : Stands g (set row p n) n
      new =
          record {
            steps = w.steps;
            few = w.few;
            holds = ap (λ (x : ℕ). get_or (set row p n) x none16) (sym w.is) ∙ set_here row p n within;
            only = λ q e. elim (at_place q) [
              | inl d ↦ d ∙ w.is
              | inr o ↦ elim (f.placed.held.holds q) [ inl z ↦ absurd (omega (arith, z, e, o.1)) | inr l ↦ absurd (omega (arith, l, e, o.1)) ]
            ];
            lower = λ i m. elim (f.placed.held.holds (at_step g n i)) [
              | inl z ↦ absurd (w.before i m z)
              | inr l ↦ omega (arith, l, hold (at_step g n i) l)
            ];
          }

      each : (c : ℕ) → c < suc n → Stands g (set row p n) c
      each c l = elim (cases_eq c n) [ inl e ↦ subst (Stands g (set row p n)) (sym e) new | inr o ↦ (let k : c < n = omega arith in old c k (f.placed.each c k)) ]

      taken_more : sum_by taken (set row p n) ≡ suc n
      taken_more =
          let z : taken (get_or row p none16) ≡ 0 = ap taken w.free in
          omega (arith, sum_by-set taken row p n none16 within, z, one n (t_false (eqb n none16) (no_eqb (omega arith))), f.taken_are)

      filled_next : Filled (suc n) (set row p n)
      filled_next = record { placed = record { held = record { long = length-set row p n ∙ f.placed.held.long; holds = holds }; each = each }; taken_are = taken_more }

  pub filled : (n : ℕ) → n ≤ index_places → Filled n (index_of g n)
  unfolding index_of entered
  filled zero l = filled_none
  filled (suc n) l =
      let f = filled n (omega arith) in
      filled_next f (omega arith) (gets f (omega arith) (home (name_of g n)) (home_low (name_of g n)))

-- ---- a name that is looked for

same_list_refl : (xs : List ℕ) → T (same_list xs xs)
unfolding same_list
same_list_refl [] = tt
same_list_refl (x ∷ xs) = t_and (eqb x x) (same_list xs xs) (eqb_refl x) (same_list_refl xs)

same_list_is : (xs ys : List ℕ) → T (same_list xs ys) → xs ≡ ys
unfolding same_list
same_list_is [] [] t = refl
same_list_is [] (y ∷ ys) t = absurd t
same_list_is (x ∷ xs) [] t = absurd t
same_list_is (x ∷ xs) (y ∷ ys) t =
    ap₂ (λ (z : ℕ) (zs : List ℕ). z ∷ zs) (eqb→eq x y (and_l (eqb x y) (same_list xs ys) t)) (same_list_is xs ys (and_r (eqb x y) (same_list xs ys) t))

module _ (g : ℕ → Group) (row name : List ℕ) (k p : ℕ) where
  pub found_none : is_free row p ≡ true → found_from g row name (suc k) p ≡ None
  unfolding found_from
  found_none e = rw (e, found_from) refl

  module _ (e : is_free row p ≡ false) where
    pub found_here : has_name g name (get_or row p none16) ≡ true → found_from g row name (suc k) p ≡ Some (get_or row p none16)
    unfolding found_from
    found_here t = rw (e, t, found_from) refl

    pub found_next : has_name g name (get_or row p none16) ≡ false → found_from g row name (suc k) p ≡ found_from g row name k (next_place p)
    unfolding found_from
    found_next t = rw (e, t, found_from) refl

module _ (g : ℕ → Group) {n : ℕ} {row : List ℕ} (f : Placed g n row) (low : n ≤ none16) (name : List ℕ) where
  not_free : (p : ℕ) → get_or row p none16 < n → is_free row p ≡ false
  unfolding is_free
  not_free p l = t_false (is_free row p) (no_eqb (omega (arith, l)))

  -- no class has it
  found_absent : ((c : ℕ) → c < n → has_name g name c ≡ false) → (k p : ℕ) → found_from g row name k p ≡ None
  unfolding found_from
  found_absent a zero p = refl
  found_absent a (suc k) p = go (is_free row p) refl (found_absent a k (next_place p))
    where
      go : (b : Bool) → is_free row p ≡ b → found_from g row name k (next_place p) ≡ None → found_from g row name (suc k) p ≡ None
      go true e h = found_none g row name k p e
      go false e h = elim (f.held.holds p) [ inl z ↦ absurd (not_none row p e z) | inr l ↦ found_next g row name k p e (a _ l) ∙ h ]

  -- class d is the lowest that has it
  module _ {d : ℕ} (l : d < n) (has : has_name g name d ≡ true) (before : (x : ℕ) → x < d → has_name g name x ≡ false) where
    home_is : home (name_of g d) ≡ home name
    unfolding has_name
    home_is = ap home (same_list_is (name_of g d) name (subst T (sym has) tt))

    -- from i steps on, m steps before it stands
    found_there : (s : Stands g row d) (m i k : ℕ) → i + m ≡ s.steps → m < k → found_from g row name k ((home name + i) % index_places) ≡ Some d
    found_there s m i zero e b = absurd (omega arith)
    found_there s zero i (suc k) e b =
        let p : ℕ = (home name + i) % index_places in
        let at : get_or row p none16 ≡ d = (let q : i ≡ s.steps = omega arith in rw (home_is, ← q) at s.holds) in
        found_here g row name k p (not_free p (omega (arith, at))) (ap (has_name g name) at ∙ has) ∙ ap Some at
    found_there s (suc m) i (suc k) e b =
        let p : ℕ = (home name + i) % index_places in
        let v : get_or row p none16 < d = rw home_is at (s.lower i (omega arith)) in
        found_next g row name k p (not_free p (omega (arith, v))) (before _ v)
        ∙ ap (found_from g row name k) (place_more (home name) i) ∙ found_there s m (i + 1) k (omega arith) (omega arith)

  pub found_is : found_in g row name ≡ lowest_named g n name
  unfolding found_in lowest_named
  found_is = go (find (has_name g name) (span 0 n)) (find_lowest (has_name g name) 0 n)
    where
      go : (o : Option ℕ) → Lowest (has_name g name) 0 n o → found_from g row name index_places (home name) ≡ o
      go o (no_lowest a) = found_absent (λ c l. a c zero-le (omega arith)) index_places (home name)
      go o (lowest {d} i l h b) =
          let m : d < n = omega (arith, l) in
          let s = f.each d m in
          ap (found_from g row name index_places) (sym (place_none (home name) (home_low name)))
          ∙ found_there m h (λ x q. b x zero-le q) s s.steps 0 index_places (zero-add s.steps) s.few

-- ---- two sheets

-- the test for 10 through the index is the walk's
pub met_is : (g : ℕ → Group) (c : ℕ) → c ≤ 256 → met_through g c ≡ name_met g c (class_record (g c))
unfolding met_through name_met lowest_named has_name name_of
met_is g c l =
    ap is_some (found_is g (filled g c (omega arith)).placed (omega arith) (name_of g c))
    ∙ find_any (has_name g (name_of g c)) 0 c

-- a class is found by its own name, by the walk, exactly if the name was not met before it
module _ (g : ℕ → Group) (n c : ℕ) (l : c < n) where
  abbrev own_name : ℕ → Bool
  own_name = has_name g (name_of g c)

  itself : own_name c ≡ true
  unfolding has_name
  itself = t_true _ (same_list_refl (name_of g c))

  true-no : true ≡ false → ⊥
  true-no e = subst T e tt

  found_new : lowest_named g n (name_of g c) ≡ Some c → any own_name (span 0 c) ≡ false
  unfolding lowest_named
  found_new = go (find own_name (span 0 n)) (find_lowest own_name 0 n)
    where
      go : (o : Option ℕ) → Lowest own_name 0 n o → o ≡ Some c → any own_name (span 0 c) ≡ false
      go o (no_lowest a) e = absurd (true-no (sym itself ∙ a c zero-le (omega arith)))
      go o (lowest {d} i m h b) e = let q : d ≡ c = cc in any_none own_name 0 c (λ x j k. b x j (omega (arith, q)))

  new_found : any own_name (span 0 c) ≡ false → lowest_named g n (name_of g c) ≡ Some c
  unfolding lowest_named
  new_found e = go (find own_name (span 0 n)) (find_lowest own_name 0 n)
    where
      other : (d : ℕ) → d < c → own_name d ≡ false
      other d k =
          let no : T (not (own_name (0 + d))) = at_span (λ x. T (not (own_name x))) 0 c (not_any own_name (span 0 c) (false_t e)) d k in
          t_false (own_name d) (rw zero-add at no)

      go : (o : Option ℕ) → Lowest own_name 0 n o → o ≡ Some c
      go o (no_lowest a) = absurd (true-no (sym itself ∙ a c zero-le (omega arith)))
      go o (lowest {d} i m h b) =
          let up : d < c → ⊥ = λ k. true-no (sym h ∙ other d k) in
          let down : c < d → ⊥ = λ k. true-no (sym itself ∙ b c zero-le k) in
          ap Some (let q : d ≡ c = omega (arith, up, down) in q)

  own_is : (lowest_named g n (name_of g c) ≡ Some c) ↔ (name_met g c (class_record (g c)) ≡ false)
  unfolding name_met has_name name_of
  own_is = (found_new, new_found)

pub names_agree : (library user : List ℕ) → total library user ≤ 256 → NamesAgree library user
unfolding names_index class_named
names_agree library user few =
    let g : ℕ → Group = group library user in
    let n : ℕ = total library user in
    let placed = (filled g n (omega (arith, few))).placed in
    let found = found_is g placed (omega (arith, few)) in
    record {
      placed = placed;
      found = found;
      duplicates = λ c l. met_is g c (omega (arith, few));
      own = λ c l. (λ e. (own_is g n c l).0 (sym (found (name_of g c)) ∙ e), λ e. found (name_of g c) ∙ (own_is g n c l).1 e);
    }

pub index_agrees : IndexAgrees
unfolding total
index_agrees library user w =
    let a = clear 0 0 library w.library_records w.library_whole in
    let b = clear 1 (class_count library) user w.user_records w.user_whole in
    names_agree library user (b.few (omega (arith, a.few zero-le, zero-add (class_count library))))

pub lookup_finds : LookupFinds
lookup_finds library user used w c l =
    let now : List ℕ = take used user in
    let g : ℕ → Group = group library now in
    let s = accepted_sound library user used w.unrefused in
    let first = class_first (RecordFits (class_count library) (total library now) g c) (g c) (group_one_class library now c l) (s.fits c) in
    ((names_agree library now s.few).own c l).1 (t_false _ (first.0.name_fits first.1))
