-- 16 compares each record with the one before it in its group. So where all records pass it the kinds of each group never fall, and where they never fall none is refused by it.
-- Assumes nothing.
use mathlib.Core.Path.{◌≡◌, refl, subst, sym}
use mathlib.Core.Logic.{inl, inr}
use mathlib.Core.Bool.{Bool, true, false, not}
use mathlib.Core.List.{List, [], ◌∷◌, ◌++◌, map}
use mathlib.Core.Option.{Option, none, some}
use Prim.Native.Nat.{ℕ, zero, suc, ◌+◌, ◌≤◌, zero-le}
use native.Mathlib.Omega.{arith}
use lib.Dec.{T, eqb, ltb→lt, T_not}
use lib.ListN.{length, get_or, take}
use Rattle.spec.specs.Lists.{all, first_of}
use Rattle.spec.specs.Record.{kind, is_class}
use Rattle.spec.specs.Sheet.{Group, Split, split_groups, records_of, groups_of, class_count, total, group, Located, locate, located_in, located}
use Rattle.spec.specs.Relations.{At, here, next, Rising}
use Rattle.spec.specs.Refusals.{Refusal, refuse_record, record_tests, record_refusal, torn_refusal, no_class_refusal, form_tests, deemed_tests, form_refusal, deemed_refusal, sheet_refusal}
use Rattle.spec.specs.Refusals.{new_refusal, present_refusal}
use Rattle.spec.proofs.Also.{◌also◌}
use Rattle.laws.proofs.Bools.{eq→eqb}
use Rattle.laws.proofs.All.{All, all_append, all_left, all_right, all_get, weaken, of_members, all_true}
use Rattle.theory.specs.Claims.{InOrder, OrderHolds, OrderPasses}
use Rattle.theory.proofs.Answers.{first_none, record_none, Gives, gives_first, gives_map}
use Rattle.theory.proofs.Refused.{gives_if, gives_record}
use Rattle.theory.proofs.Cut.{split_class, split_other}
use Rattle.theory.proofs.Accept.{Passed, locate_if, sound}

-- the kinds never fall, from kind b on
abbrev pub Ascends : ℕ → Group → Type 0
Ascends b [] = Unit {0}
Ascends b (r ∷ rs) = (b ≤ kind r) × Ascends (kind r) rs

first_at : (b : ℕ) (g : Group) (s : List ℕ) → Ascends b g → At g 0 s → b ≤ kind s
first_at b [] s h q = elim q [ ]
first_at b (x ∷ g) s h here = h.0

rising : (b : ℕ) (g : Group) → Ascends b g → Rising g
rising b [] h k r s p q = elim p [ ]
rising b (x ∷ g) h zero r s here (next q) = first_at (kind x) g s h.1 q
rising b (x ∷ g) h (suc k) r s (next p) (next q) = rising (kind x) g h.1 k r s p q

-- a located record has no lower kind than the one before it
abbrev Keeps : Located → Type 0
Keeps l = l.before ≤ kind l.bytes

-- of the records that stand after some of the open group, of which the last has kind p
record Orderly (p : ℕ) (t : Split) : Type 0 where
  loose : Ascends p t.loose
  groups : All (Ascends 0) t.groups

orderly : (s at n k p : ℕ) (rs : List (List ℕ)) → All Keeps (locate s at n k p rs) → Orderly p (split_groups rs)
unfolding locate locate_if
orderly s at n k p [] h = unfold split_groups in record { loose = tt; groups = tt }
orderly s at n k p (r ∷ rs) h = go (is_class r) refl h (orderly s (at + length r) (suc n) 1 (kind r) rs) (orderly s (at + length r) n (suc k) (kind r) rs)
  where
    go : (b : Bool) → is_class r ≡ b → All Keeps (locate_if s at n k p r rs b)
        → (All Keeps (locate s (at + length r) (suc n) 1 (kind r) rs) → Orderly (kind r) (split_groups rs))
        → (All Keeps (locate s (at + length r) n (suc k) (kind r) rs) → Orderly (kind r) (split_groups rs)) → Orderly p (split_groups (r ∷ rs))
    go true e h f f' = let t = f h.1 in subst (Orderly p) (sym (split_class r rs e)) (record { loose = tt; groups = ((omega arith, t.loose), t.groups) })
    go false e h f f' = let t = f' h.1 in subst (Orderly p) (sym (split_other r rs e)) (record { loose = (h.0, t.loose); groups = t.groups })

pub sheets_in_order : (library user : List ℕ) → sheet_refusal library user ≡ none → InOrder library user
unfolding group groups_of located_in
sheets_in_order library user e c =
    let s = sound library user e in
    let a = orderly 0 0 0 0 0 (records_of library) (weaken Passed Keeps (λ l p. p.ordered) (located_in 0 0 library) s.library_sheet.passed) in
    let b = orderly 1 0 (class_count library) 0 0 (records_of user) (weaken Passed Keeps (λ l p. p.ordered) (located_in 1 (class_count library) user) s.user_sheet.passed) in
    rising 0 (group library user c)
    (all_get {A = Group} (Ascends 0) [] (groups_of library ++ groups_of user) (all_append (Ascends 0) (groups_of library) (groups_of user) a.groups b.groups) tt c)

pub order_holds : OrderHolds
unfolding present_refusal
order_holds library user used e = sheets_in_order library (take used user) (first_none _ e).1.0

-- ---- the other way

ascends : (g : Group) → Rising g → (b : ℕ) → ((r : List ℕ) → At g 0 r → b ≤ kind r) → Ascends b g
ascends [] h b f = tt
ascends (x ∷ g) h b f = (f x here, ascends g (λ k r s p q. h (suc k) r s (next p) (next q)) (kind x) (λ s q. h 0 x s here (next q)))

all_ascend : (gs : List Group) → ((i : ℕ) → Rising (get_or gs i [])) → All (Ascends 0) gs
all_ascend [] h = tt
all_ascend (g ∷ gs) h = (ascends g (h 0) 0 (λ r a. zero-le), all_ascend gs (λ i. h (suc i)))

kept : (s at n k p : ℕ) (rs : List (List ℕ)) → Orderly p (split_groups rs) → All Keeps (locate s at n k p rs)
unfolding locate locate_if
kept s at n k p [] o = tt
kept s at n k p (r ∷ rs) o = go (is_class r) refl (kept s (at + length r) (suc n) 1 (kind r) rs) (kept s (at + length r) n (suc k) (kind r) rs)
  where
    go : (b : Bool) → is_class r ≡ b → (Orderly (kind r) (split_groups rs) → All Keeps (locate s (at + length r) (suc n) 1 (kind r) rs))
        → (Orderly (kind r) (split_groups rs) → All Keeps (locate s (at + length r) n (suc k) (kind r) rs)) → All Keeps (locate_if s at n k p r rs b)
    go true e f f' = let t = subst (Orderly p) (split_class r rs e) o in (zero-le, f (record { loose = t.groups.0.1; groups = t.groups.1 }))
    go false e f f' = let t = subst (Orderly p) (split_other r rs e) o in (t.loose.0, f' (record { loose = t.loose.1; groups = t.groups }))

-- a refusal with another number
abbrev Other : Refusal → Type 0
Other r = r.number ≡ 16 → ⊥

kept_other : (l : Located) → Keeps l → Gives Other (refuse_record l (record_tests l))
unfolding record_tests
kept_other l h =
    gives_record Other l (record_tests l)
    ((λ t e. omega (arith, e)) also (λ t e. omega (arith, e)) also (λ t e. omega (arith, e)) also (λ t e. omega (arith, e)) also (λ t e. omega (arith, e))
    also (λ t e. omega (arith, ltb→lt (kind l.bytes) l.before t, h)) also tt)

-- a sheet's first record that is no CLASS record is refused, by another number: no later one is looked at
stop : (o : Option Refusal) → (o ≡ none → ⊥) → Gives Other o → (os : List (Option Refusal)) → Gives Other (first_of (o ∷ os))
unfolding first_of
stop none n g os = absurd (n refl)
stop (some r) n g os = g

loose_other : (l : Located) → T (not l.grouped) → Keeps l → (os : List (Option Refusal)) → Gives Other (first_of (refuse_record l (record_tests l) ∷ os))
unfolding record_tests
loose_other l h k os = stop (refuse_record l (record_tests l)) (λ z. T_not (not l.grouped) (record_none l (record_tests l) z).1.1.0 h) (kept_other l k) os

records_other : (sheet n : ℕ) (s : List ℕ) → All (Ascends 0) (groups_of s) → Gives Other (record_refusal sheet n s)
unfolding record_refusal located_in groups_of locate locate_if
records_other sheet n s h = go (records_of s) h
  where
    go : (rs : List (List ℕ)) → All (Ascends 0) (split_groups rs).groups → Gives Other (first_of (map (λ l. refuse_record l (record_tests l)) (locate sheet 0 n 0 0 rs)))
    go [] h = unfold first_of in tt
    go (r ∷ rs) h = first (is_class r) refl
      where
        first : (b : Bool) → is_class r ≡ b → Gives Other (first_of (map (λ l. refuse_record l (record_tests l)) (locate_if sheet 0 n 0 0 r rs b)))
        first true e =
            let t = subst (λ (x : Split). All (Ascends 0) x.groups) (split_class r rs e) h in
            let ls : List Located = locate_if sheet 0 n 0 0 r rs true in
            gives_first Other _ (gives_map Other (λ l. refuse_record l (record_tests l)) ls
            (weaken Keeps (λ l. Gives Other (refuse_record l (record_tests l))) kept_other ls
            (zero-le, kept sheet (0 + length r) (suc n) 1 (kind r) rs (record { loose = t.0.1; groups = t.1 }))))
        first false e = loose_other _ tt zero-le _

-- tests without that number
never : (tests : Located → List (ℕ × Bool)) → ((l : Located) → T (all (λ t. not (eqb t.0 16)) (tests l))) → (ls : List Located)
    → Gives Other (first_of (map (λ l. refuse_record l (tests l)) ls))
never tests h ls =
    gives_first Other _ (gives_map Other (λ l. refuse_record l (tests l)) ls
    (of_members (λ l. Gives Other (refuse_record l (tests l))) ls
    (λ l m. gives_record Other l (tests l)
    (weaken (λ t. T (not (eqb t.0 16))) (λ t. T t.1 → Other (record { number = t.0; sheet = l.sheet; byte = l.byte }))
    (λ t q u e. T_not (eqb t.0 16) q (eq→eqb e)) (tests l) (all_true (λ t. not (eqb t.0 16)) (tests l) (h l))))))

module _ (library user : List ℕ) (o : InOrder library user) where
  both_ascend : All (Ascends 0) (groups_of library ++ groups_of user)
  unfolding group
  both_ascend = all_ascend (groups_of library ++ groups_of user) o

  form_other : Gives Other (form_refusal library user)
  unfolding form_refusal form_tests all
  form_other = never (form_tests (group library user) (class_count library) (total library user)) (λ l. tt) (located library user)

  deemed_other : Gives Other (deemed_refusal library user)
  unfolding deemed_refusal deemed_tests all
  deemed_other = never (deemed_tests (group library user) (class_count library)) (λ l. tt) (located library user)

  user_other : Gives Other (record_refusal 1 (class_count library) user)
  user_other = records_other 1 (class_count library) user (all_right (Ascends 0) (groups_of library) (groups_of user) both_ascend)

  sheet_other : Gives Other (sheet_refusal library user)
  unfolding sheet_refusal torn_refusal no_class_refusal
  sheet_other =
      gives_first Other _
      (records_other 0 0 library (all_left (Ascends 0) (groups_of library) (groups_of user) both_ascend)
      also gives_if Other _ 2 0 _ (λ t e. omega (arith, e))
      also gives_if Other _ 7 0 _ (λ t e. omega (arith, e))
      also user_other
      also gives_if Other _ 2 1 _ (λ t e. omega (arith, e))
      also form_other
      also deemed_other
      also tt)

  new_other : Gives Other (new_refusal library user)
  unfolding new_refusal
  new_other = gives_first Other _ (user_other also form_other also deemed_other also tt)

pub order_passes : OrderPasses
order_passes library user o r (inl e) = subst (Gives Other) e (sheet_other library user o)
order_passes library user o r (inr e) = subst (Gives Other) e (new_other library user o)
