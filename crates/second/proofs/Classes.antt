-- The first refusal along the records of a sheet, and of both, is the first along the classes: located records are those of the groups one after the other.
-- Assumes nothing.
use mathlib.Core.Path.{◌≡◌, refl, sym, ap, ap₂, ◌∙◌}
use mathlib.Core.Bool.{Bool, true, false, not}
use mathlib.Core.List.{List, [], ◌∷◌, ◌++◌, map, map-append}
use mathlib.Core.Option.{Option, none, some}
use Prim.Native.Nat.{ℕ, zero, suc, ◌+◌, ◌-◌, ◌≤◌, ◌<◌}
use native.Mathlib.Nat.{add-zero}
use native.Mathlib.Omega.{arith}
use lib.Dec.{T, ltb}
use lib.ListN.{length, get_or, take, length-append}
use Rattle.spec.specs.Lists.{any, concat, first_of, span}
use Rattle.spec.specs.Record.{kind, is_class}
use Rattle.spec.specs.Sheet.{Group, Split, records_of, split_groups, groups_of, class_count, group_start, total, group, Located, locate, located_in, located}
use Rattle.spec.specs.Refusals.{Refusal, refuse_if, refuse_record, one_class}
use Rattle.laws.proofs.Bools.{t_true, t_false, and_l, and_r, not_or_l, not_or_r}
use Rattle.laws.proofs.All.{All}
use Rattle.laws.proofs.Rows.{length_values, get_or_values}
use Rattle.theory.proofs.Answers.{skip_none, first_some, first_only, first_past, first_append, keep_head}
use Rattle.theory.proofs.Accept.{Clear}
use Rattle.theory.proofs.Cut.{split_other, split_parts, split_join, records_grouped, concat_append}
use Rattle.groups.specs.Groups.{sheet_number, start_of, Indexed}
use Rattle.groups.proofs.Held.{in_library, in_user, library_number, user_number}
use Rattle.second.specs.Second.{first_met, form_of}

-- ---- the first along a list, by places

module _ {A : Type 0} where
  pub first_at : (os : List (Option A)) (c : ℕ) {a : A} → ((d : ℕ) → d < c → get_or os d none ≡ none) → get_or os c none ≡ some a → first_of os ≡ some a
  first_at [] c f e = absurd (let z : ◌≡◌ {A = ℕ} 0 1 = cc in omega arith)
  first_at (o ∷ os) zero f e = first_some os e
  first_at (o ∷ os) (suc c) f e = skip_none o os (f 0 (omega arith)) ∙ first_at os c (λ d h. f (suc d) (omega arith)) e

  pub none_at : (os : List (Option A)) → ((d : ℕ) → d < length os → get_or os d none ≡ none) → first_of os ≡ none
  none_at [] f = unfold first_of in refl
  none_at (o ∷ os) f = skip_none o os (f 0 (omega arith)) ∙ none_at os (λ d h. f (suc d) (omega arith))

-- ---- answers by the numbers of classes

-- the answers of the k classes from c on
listed : {A : Type 0} (f : ℕ → Option A) (os : List (Option A)) (c : ℕ) {k : ℕ} → length os ≡ k → ((i : ℕ) → i < k → get_or os i none ≡ f (c + i)) → os ≡ map f (span c k)
unfolding span
listed f [] c e h = rw (sym e) refl
listed f (o ∷ os) c e h =
    let here : o ≡ f c = h 0 (omega arith) ∙ ap f (add-zero c) in
    let later : os ≡ map f (span (suc c) (length os)) =
    listed f os (suc c) refl (λ i l. let z : c + suc i ≡ suc c + i = omega arith in h (suc i) (omega arith) ∙ ap f z) in
    rw (sym e) (ap₂ (λ (x : Option _) (xs : List (Option _)). x ∷ xs) here later)

-- so many numbers, then others
span_split : (i m k : ℕ) {n j : ℕ} → n ≡ m + k → j ≡ i + m → span i n ≡ span i m ++ span j k
unfolding span
span_split i zero k {n} {j} en ej = let a : n ≡ k = omega arith in let b : j ≡ i = omega arith in rw (a, b) refl
span_split i (suc m) k {n} en ej = let a : n ≡ suc (m + k) = omega arith in rw a (ap (λ (l : List ℕ). i ∷ l) (span_split (suc i) m k refl (omega arith)))

-- ---- records that are located

module _ (sheet at n k b : ℕ) (r : List ℕ) (rs : List (List ℕ)) where
  locate_class : is_class r ≡ true
      → locate sheet at n k b (r ∷ rs) ≡ record { sheet = sheet; byte = at; class = n; record_number = 0; before = 0; grouped = true; bytes = r } ∷ locate sheet (at + length r) (suc n) 1 (kind r) rs
  unfolding locate
  locate_class e = rw (e, locate)

  locate_other : is_class r ≡ false
      → locate sheet at n k b (r ∷ rs)
      ≡ record { sheet = sheet; byte = at; class = n - 1; record_number = k; before = b; grouped = ltb 0 k; bytes = r } ∷ locate sheet (at + length r) n (suc k) (kind r) rs
  unfolding locate
  locate_other e = rw (e, locate)

-- a CLASS record comes first, or none
abbrev Opens : List (List ℕ) → Type 0
Opens rs = (split_groups rs).loose ≡ []

open_anywhere : (sheet at n k b : ℕ) (rs : List (List ℕ)) → Opens rs → locate sheet at n k b rs ≡ locate sheet at n 0 0 rs
open_anywhere sheet at n k b [] o = unfold locate in refl
open_anywhere sheet at n k b (r ∷ rs) o = go (is_class r) refl
  where
    go : (c : Bool) → is_class r ≡ c → locate sheet at n k b (r ∷ rs) ≡ locate sheet at n 0 0 (r ∷ rs)
    go true e = locate_class sheet at n k b r rs e ∙ sym (locate_class sheet at n 0 0 r rs e)
    go false e = let q = sym (ap (λ (t : Split). t.loose) (split_other r rs e)) ∙ o in absurd (let z : ◌≡◌ {A = ℕ} 0 1 = cc in omega arith)

-- records that are no CLASS records
pub others : (rs : Group) → T (not (any is_class rs)) → All (λ r. is_class r ≡ false) rs
unfolding any
others [] t = tt
others (r ∷ rs) t = (t_false (is_class r) (not_or_l (is_class r) (any is_class rs) t), others rs (not_or_r (is_class r) (any is_class rs) t))

long_cons : (at : ℕ) (r : List ℕ) (rs : List (List ℕ)) → at + length r + length (concat rs) ≡ at + length (concat (r ∷ rs))
unfolding concat
long_cons at r rs = omega (arith, length-append r (concat rs))

-- ---- tests that ask only for the class and the bytes of a record

refuse_with : Option ℕ → ℕ → ℕ → Option Refusal
refuse_with none sheet at = none
refuse_with (some k) sheet at = some (record { number = k; sheet = sheet; byte = at })

record_refuses : (l : Located) (ts : List (ℕ × Bool)) → refuse_record l ts ≡ refuse_with (first_met ts) l.sheet l.byte
unfolding refuse_record refuse_if first_of refuse_with
record_refuses l [] = refl
record_refuses l ((n, true) ∷ ts) = refl
record_refuses l ((n, false) ∷ ts) = record_refuses l ts

module _ (tests : Located → List (ℕ × Bool)) (number : ℕ → List ℕ → Option ℕ) (same : (l : Located) → first_met (tests l) ≡ number l.class l.bytes) where
  abbrev pub along : List Located → Option Refusal
  along ls = first_of (map (λ l. refuse_record l (tests l)) ls)

  answer : (l : Located) → refuse_record l (tests l) ≡ refuse_with (number l.class l.bytes) l.sheet l.byte
  answer l = record_refuses l (tests l) ∙ ap (λ (o : Option ℕ). refuse_with o l.sheet l.byte) (same l)

  -- one record more, where `rest` follows
  one_more : (sheet at c : ℕ) (r : List ℕ) (rs : Group) (l : Located) → refuse_record l (tests l) ≡ refuse_with (number c r) sheet at → (ls : List Located) (rest : Option Refusal)
      → along ls ≡ first_of (form_of (number c) sheet (at + length r) rs ∷ rest ∷ []) → along (l ∷ ls) ≡ first_of (form_of (number c) sheet at (r ∷ rs) ∷ rest ∷ [])
  unfolding form_of refuse_with
  one_more sheet at c r rs l e ls rest ih = go (number c r) e
    where
      go : (o : Option ℕ) → refuse_record l (tests l) ≡ refuse_with o sheet at
          → along (l ∷ ls)
          ≡ first_of
          ((elim o as (λ (_ : Option ℕ). Option Refusal) [ some k ↦ some (record { number = k; sheet = sheet; byte = at }) | none ↦ form_of (number c) sheet (at + length r) rs ]) ∷ rest ∷ [])
      go none e = skip_none _ _ e ∙ ih
      go (some k) e = first_some _ e ∙ sym (first_some (rest ∷ []) refl)

  -- ---- the records of one class, where those of other classes follow

  module _ (sheet c : ℕ) (rest : List (List ℕ)) (free : Opens rest) where
    others_along : (rs : Group) → All (λ r. is_class r ≡ false) rs → (at k b : ℕ)
        → along (locate sheet at (suc c) k b (rs ++ rest)) ≡ first_of (form_of (number c) sheet at rs ∷ along (locate sheet (at + length (concat rs)) (suc c) 0 0 rest) ∷ [])
    others_along [] h at k b =
        unfold concat form_of in
        ap along (open_anywhere sheet at (suc c) k b rest free ∙ ap (λ (i : ℕ). locate sheet i (suc c) 0 0 rest) (sym (add-zero at))) ∙ sym (first_past none _ refl)
    others_along (r ∷ rs) h at k b =
        let ih = others_along rs h.1 (at + length r) (suc k) (kind r) in
        let z : suc c - 1 ≡ c = omega arith in
        rw (locate_other sheet at (suc c) k b r (rs ++ rest) h.0, ← long_cons at r rs)
        (one_more sheet at c r rs _ (answer _ ∙ ap (λ (d : ℕ). refuse_with (number d r) sheet at) z) _ _ ih)

    class_along : (h : Group) → T (one_class h) → (at : ℕ)
        → along (locate sheet at c 0 0 (h ++ rest)) ≡ first_of (form_of (number c) sheet at h ∷ along (locate sheet (at + length (concat h)) (suc c) 0 0 rest) ∷ [])
    unfolding one_class
    class_along [] w at = absurd w
    class_along (r ∷ rs) w at =
        let e = t_true (is_class r) (and_l (is_class r) (not (any is_class rs)) w) in
        let ih = others_along rs (others rs (and_r (is_class r) (not (any is_class rs)) w)) (at + length r) 1 (kind r) in
        rw (locate_class sheet at c 0 0 r (rs ++ rest) e, ← long_cons at r rs) (one_more sheet at c r rs _ (answer _) _ _ ih)

  -- ---- the classes of a sheet

  -- what refuses each of some groups, of which the first is class c and begins at `at`
  forms : ℕ → ℕ → ℕ → List Group → List (Option Refusal)
  forms sheet at c [] = []
  forms sheet at c (h ∷ hs) = form_of (number c) sheet at h ∷ forms sheet (at + length (concat h)) (suc c) hs

  groups_along : (sheet at c : ℕ) (hs : List Group) → All (λ h. T (one_class h)) hs → along (locate sheet at c 0 0 (concat hs)) ≡ first_of (forms sheet at c hs)
  unfolding concat locate forms
  groups_along sheet at c [] w = refl
  groups_along sheet at c (h ∷ hs) w =
      let ih = groups_along sheet (at + length (concat h)) (suc c) hs w.1 in
      class_along sheet c (concat hs) (split_join hs w.1).0 h w.0 at ∙ keep_head _ _ _ (first_only _ ∙ ih)

  forms_long : (sheet at c : ℕ) (hs : List Group) → length (forms sheet at c hs) ≡ length hs
  unfolding forms
  forms_long sheet at c [] = refl
  forms_long sheet at c (h ∷ hs) = ap suc (forms_long sheet (at + length (concat h)) (suc c) hs)

  forms_at : (sheet at c : ℕ) (hs : List Group) (i : ℕ) → i < length hs
      → get_or (forms sheet at c hs) i none ≡ form_of (number (c + i)) sheet (at + length (concat (concat (take i hs)))) (get_or hs i [])
  unfolding forms concat
  forms_at sheet at c [] i l = absurd (omega arith)
  forms_at sheet at c (h ∷ hs) zero l = rw (add-zero at, add-zero c)
  forms_at sheet at c (h ∷ hs) (suc i) l =
      let e : suc c + i ≡ c + suc i = omega arith in
      let k : at + length (concat h) + length (concat (concat (take i hs))) ≡ at + length (concat (h ++ concat (take i hs))) =
      omega (arith, ap length (concat_append h (concat (take i hs))), length-append (concat h) (concat (concat (take i hs)))) in
      forms_at sheet (at + length (concat h)) (suc c) hs i (omega arith) ∙ ap₂ (λ (x y : ℕ). form_of (number x) sheet y (get_or hs i [])) e k

  -- with other names for its number, its byte and its records
  forms_there : (sheet at c : ℕ) (hs : List Group) (i : ℕ) → i < length hs → {k j : ℕ} {g : Group} → k ≡ c + i → j ≡ at + length (concat (concat (take i hs))) → g ≡ get_or hs i []
      → get_or (forms sheet at c hs) i none ≡ form_of (number k) sheet j g
  forms_there sheet at c hs i l ek ej eg = rw (ek, ej, eg) (forms_at sheet at c hs i l)

  -- ---- both sheets

  module _ {library user : List ℕ} {nlib n : ℕ} {row : List ℕ} (x : Indexed library user nlib n row) where
    -- what refuses class c
    abbrev refusal : ℕ → Option Refusal
    refusal c = form_of (number c) (sheet_number nlib c) (start_of library user c) (group library user c)

    sheet_along : {sheet m : ℕ} {s : List ℕ} → Clear sheet m s → along (located_in sheet m s) ≡ first_of (forms sheet 0 m (groups_of s))
    unfolding located_in groups_of
    sheet_along {sheet} {m} {s} clear =
        ap (λ (rs : List (List ℕ)). along (locate sheet 0 m 0 0 rs)) (records_grouped s clear.end clear.loose)
        ∙ groups_along sheet 0 m (groups_of s) (split_parts (records_of s)).one

    library_at : (c : ℕ) → c < nlib → get_or (forms 0 0 0 (groups_of library)) c none ≡ refusal c
    unfolding group_start class_count
    library_at c h =
        let w = in_library x h in rw (library_number nlib c h) (forms_there 0 0 0 (groups_of library) c w.there (omega arith) (omega (arith, w.start)) w.its)

    user_at : (i : ℕ) → i < class_count user → get_or (forms 1 0 nlib (groups_of user)) i none ≡ refusal (nlib + i)
    unfolding group_start class_count total
    user_at i h =
        let low : nlib ≤ nlib + i = omega arith in
        let high : nlib + i < n = omega (arith, x.nlib_is, x.n_is) in
        let w = in_user x {c = nlib + i} low high in
        let e : nlib + i - nlib ≡ i = omega arith in
        let there : i < length (groups_of user) = rw e at w.there in
        rw (user_number nlib (nlib + i) low) (forms_there 1 0 nlib (groups_of user) i there refl (omega (arith, rw e at w.start)) (rw e at w.its))

    -- each sheet by its classes, and both
    pub library_along : along (located_in 0 0 library) ≡ first_of (map refusal (span 0 nlib))
    unfolding class_count
    library_along =
        let long : length (forms 0 0 0 (groups_of library)) ≡ nlib = forms_long 0 0 0 (groups_of library) ∙ sym x.nlib_is in
        sheet_along x.library_clear
        ∙ ap first_of (listed refusal (forms 0 0 0 (groups_of library)) 0 long (λ i h. let z : i ≡ 0 + i = omega arith in library_at i h ∙ ap refusal z))

    pub user_along : along (located_in 1 nlib user) ≡ first_of (map refusal (span nlib (n - nlib)))
    unfolding class_count total
    user_along =
        let long : length (forms 1 0 nlib (groups_of user)) ≡ n - nlib = omega (arith, forms_long 1 0 nlib (groups_of user), x.nlib_is, x.n_is) in
        let clear : Clear 1 nlib user = rw x.nlib_is x.user_clear in
        sheet_along clear
        ∙ ap first_of (listed refusal (forms 1 0 nlib (groups_of user)) nlib long (λ i h. user_at i (omega (arith, x.nlib_is, x.n_is))))

    pub both_along : along (located library user) ≡ first_of (map refusal (span 0 n))
    unfolding located total
    both_along =
        let f : Located → Option Refusal = λ l. refuse_record l (tests l) in
        let front = located_in 0 0 library in
        let back = located_in 1 nlib user in
        let low = map refusal (span 0 nlib) in
        let high = map refusal (span nlib (n - nlib)) in
        let e : span 0 n ≡ span 0 nlib ++ span nlib (n - nlib) = span_split 0 nlib (n - nlib) (omega (arith, x.nlib_is, x.n_is)) (omega arith) in
        ap (λ (k : ℕ). first_of (map f (front ++ located_in 1 k user))) (sym x.nlib_is)
        ∙ ap first_of (map-append f front back)
        ∙ first_append (map f front) (map f back)
        ∙ ap (λ (o : Option Refusal). first_of (o ∷ map f back)) library_along
        ∙ keep_head _ _ _ user_along
        ∙ sym (first_append low high)
        ∙ ap first_of (sym (map-append refusal (span 0 nlib) (span nlib (n - nlib))) ∙ ap (map refusal) (sym e))

    -- the first class that is refused
    pub first_class : (c : ℕ) → c < n → ((d : ℕ) → d < c → form_of (number d) (sheet_number nlib d) (start_of library user d) (group library user d) ≡ none)
        → {a : Refusal} → form_of (number c) (sheet_number nlib c) (start_of library user c) (group library user c) ≡ some a → along (located library user) ≡ some a
    first_class c h f e =
        both_along ∙ first_at (map refusal (span 0 n)) c (λ d l. get_or_values refusal n none d (omega arith) ∙ f d l) (get_or_values refusal n none c h ∙ e)

    pub no_class : ((d : ℕ) → d < n → form_of (number d) (sheet_number nlib d) (start_of library user d) (group library user d) ≡ none) → along (located library user) ≡ none
    no_class f =
        both_along
        ∙ none_at (map refusal (span 0 n)) (λ d l. let h : d < n = omega (arith, length_values refusal n) in get_or_values refusal n none d h ∙ f d h)
