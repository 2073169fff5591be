-- The numbers of an answer are small: no refusal blames a byte past 32768, and no accepted answer is past its code's room.
-- Assumes nothing.
use mathlib.Core.Path.{◌≡◌, refl, sym, ap, ◌∙◌, subst}
use mathlib.Core.Bool.{Bool, true, false, ◌||◌}
use mathlib.Core.List.{List, [], ◌∷◌, ◌++◌}
use mathlib.Core.Option.{Option, none, some}
use Prim.Native.Nat.{ℕ, zero, suc, ◌≤◌, zero-le}
use native.Mathlib.Omega.{arith}
use lib.Dec.{eqb, ltb, nltb→le}
use lib.ListN.{length, take, length-take}
use Rattle.spec.specs.Lists.{count, span, first_of}
use Rattle.spec.specs.Sheet.{records_of, whole_end, class_count, total}
use Rattle.spec.specs.Verdicts.{faulted, faulted_count, flat}
use Rattle.spec.specs.Refusals.{Refusal, refuse_plain, size_refusal, sheet_refusal, present_refusal, no_user_refusal, group_refusal, room_refusal, added_sheet, replaced_sheet, judge_refusal}
use Rattle.spec.specs.Refusals.{add_refusal, replace_refusal, withdraw_refusal, query_refusal, index_refusal, lookup_refusal}
use Rattle.spec.specs.Promises.{Answer, refused, accepted, answer_of, Counts, counts_of, Judges, State, addition, replacement, withdrawal, Adds, Replaces, Withdraws, Indexes, Finds}
use Rattle.theory.specs.Claims.{sheet_of, Blames, size, torn, at, no_class, plain, BlamesEdit, present, made}
use Rattle.laws.proofs.Bools.{not_or_l, not_or_r}
use Rattle.laws.proofs.All.{All}
use Rattle.theory.proofs.Cut.{end_low, front_low}
use Rattle.laws.proofs.Count.{step, count_none, count_more}
use Rattle.theory.proofs.Answers.{first_none, first_some, first_append, skip_none, Gives, gives_first, if_none, plain_none}
use Rattle.theory.proofs.Accept.{sound}
use Rattle.theory.proofs.Refused.{gives_if, refusals_hold}
use Rattle.theory.proofs.Promised.{told_fine, told_refused}
use Rattle.meaning.specs.Canonical.{canonical_refusal, WritesCanonical}
use Rattle.meaning.proofs.Accepted.{canonical_refuses}
use Rattle.theory.proofs.Unrefused.{present_facts}

-- ---- the blamed byte lies in its sheet

module _ (library user : List ℕ) (hl : length library ≤ 32768) (hu : length user ≤ 32768) where
  sheet_low : (s : ℕ) → length (sheet_of library user s) ≤ 32768
  sheet_low s = go (eqb s 0)
    where
      go : (b : Bool) → length {A = ℕ} (elim b as (λ (c : Bool). List ℕ) [ true ↦ library | false ↦ user ]) ≤ 32768
      go true = hl
      go false = hu

  blamed_low : (r : Refusal) → Blames library user r → r.byte ≤ 32768
  unfolding whole_end
  blamed_low _ (size h) = zero-le
  blamed_low _ (torn {s} h e) = omega (arith, e, end_low (sheet_of library user s), sheet_low s)
  blamed_low _ (at {n} {s} {k} h h' b) = omega (arith, b.sum, front_low k (records_of (sheet_of library user s)), end_low (sheet_of library user s), sheet_low s)
  blamed_low _ (no_class z e) = omega (arith, e, hl)
  blamed_low _ (plain h) = zero-le

-- ---- refusals

abbrev Low : Refusal → Type 0
Low r = r.byte ≤ 32768

-- where the first refusals are low, the first of all is, if it is so past them
past_low : (os rest : List (Option Refusal)) → All (Gives Low) os → {r : Refusal} → first_of (os ++ rest) ≡ some r → (All (λ o. o ≡ none) os → Low r) → Low r
unfolding first_of
past_low [] rest h e k = k tt
past_low (none ∷ os) rest h e k = past_low os rest h.1 e (λ q. k (refl, q))
past_low (some x ∷ os) rest h e k = subst (Gives Low) e h.0

plain_low : (b : Bool) (n : ℕ) → Gives Low (refuse_plain b n)
unfolding refuse_plain
plain_low b n = gives_if Low b n 0 0 (λ t. zero-le)

module _ (user new : List ℕ) where
  room_says : Gives Low (room_refusal user new)
  unfolding room_refusal
  room_says = plain_low _ 15

  room_low : room_refusal user new ≡ none → length new ≤ 32768
  unfolding room_refusal
  room_low e =
      let t = plain_none (ltb (length user) (length new) || ltb 32768 (length new)) 15 e in
      nltb→le 32768 (length new) (not_or_r (ltb (length user) (length new)) (ltb 32768 (length new)) t)

module _ (library user : List ℕ) (used : ℕ) where
  size_low : Gives Low (size_refusal library user used)
  unfolding size_refusal
  size_low = gives_first Low _ (gives_if Low _ 1 0 0 (λ t. zero-le), (gives_if Low _ 1 1 0 (λ t. zero-le), tt))

  sizes : size_refusal library user used ≡ none → (length library ≤ 32768) × (length (take used user) ≤ 32768)
  unfolding size_refusal
  sizes e =
      let q = first_none _ e in
      let u = nltb→le 32768 used (not_or_l (ltb 32768 used) (ltb (length user) used) (if_none (ltb 32768 used || ltb (length user) used) 1 1 0 q.1.0)) in
      (nltb→le 32768 (length library) (if_none (ltb 32768 (length library)) 1 0 0 q.0), omega (arith, length-take used user, u))

  -- a refusal that blames the present sheets
  present_low : (os : List (Option Refusal)) {r : Refusal} → first_of (present_refusal library user used ∷ os) ≡ some r → Blames library (take used user) r → Low r
  unfolding present_refusal
  present_low os {r} e b =
      past_low (size_refusal library user used ∷ []) (sheet_refusal library (take used user) ∷ os) (size_low, tt)
      (first_append (size_refusal library user used ∷ sheet_refusal library (take used user) ∷ []) os ∙ e)
      (λ q. let l = sizes q.0 in blamed_low library (take used user) l.0 l.1 r b)

  -- so of an answer
  told_low : {A : Type 0} (os : List (Option Refusal)) (x : A) {a : Answer A} → a ≡ answer_of (first_of (present_refusal library user used ∷ os)) x
      → ((r : Refusal) → first_of (present_refusal library user used ∷ os) ≡ some r → Blames library (take used user) r) → {r : Refusal} → a ≡ refused r → Low r
  told_low os x q blames {r} f = let e = told_refused _ x (sym f ∙ q) in present_low os e (blames r e)

  -- a refusal of an edit: some low ones, and where none of them is met the new sheet is small
  edit_low : (new : List ℕ) (os rest : List (Option Refusal)) → All (Gives Low) os → (All (λ o. o ≡ none) os → length new ≤ 32768) → {r : Refusal}
      → first_of (present_refusal library user used ∷ (os ++ rest)) ≡ some r → BlamesEdit library user used new r → Low r
  edit_low new os rest h small e (present f b) = present_low [] (first_some [] f) b
  edit_low new os rest h small {r} e (made f n b) =
      past_low os rest h (sym (skip_none _ (os ++ rest) f) ∙ e)
      (λ q. blamed_low library new (sizes (unfold present_refusal in (first_none _ f).0)).0 (small q) r b)

-- ---- what an answer tells of its refusal

pub judges_low : {library user : List ℕ} {used : ℕ} {v s v' s' : List ℕ} {a : Answer Counts} → Judges flat library user used v s a v' s' → {r : Refusal} → a ≡ refused r → r.byte ≤ 32768
unfolding judge_refusal
judges_low p f = told_low _ _ _ _ _ p.answered ((refusals_hold _ _ _).judge _ _).place f

-- Name and Marks
pub query_low : {A : Type 0} (library user : List ℕ) (used c : ℕ) (x : A) {a : Answer A} → a ≡ answer_of (query_refusal library user used c) x → {r : Refusal} → a ≡ refused r → r.byte ≤ 32768
unfolding query_refusal
query_low library user used c x q f = told_low library user used _ x q ((refusals_hold library user used).query c).place f

pub withdraws_low : (library : List ℕ) {before : State flat} {a : Answer ℕ} {after : State flat} → Withdraws flat library before a after → {r : Refusal} → a ≡ refused r → r.byte ≤ 32768
unfolding withdrawal withdraw_refusal
withdraws_low library p f = told_low _ _ _ _ _ p.answered ((refusals_hold _ _ _).withdraw _).place f

pub canonical_low : {library user : List ℕ} {used : ℕ} {out : List ℕ} {a : Answer ℕ} {out' : List ℕ} → WritesCanonical library user used out a out' → {r : Refusal}
    → a ≡ refused r → r.byte ≤ 32768
unfolding canonical_refusal
canonical_low p f = told_low _ _ _ _ _ p.answered (canonical_refuses _ _ _ _).place f

module _ {library user : List ℕ} {used : ℕ} {row row' : List ℕ} {a : Answer ℕ} {r : Refusal} where
  pub index_low : Indexes library user used row a row' → a ≡ refused r → r.byte ≤ 32768
  unfolding index_refusal
  index_low p f = told_low _ _ _ _ _ p.answered ((refusals_hold _ _ _).index _).place f

  pub lookup_low : {name : List ℕ} → Finds library user used name row a row' → a ≡ refused r → r.byte ≤ 32768
  unfolding lookup_refusal
  lookup_low p f = told_low _ _ _ _ _ p.answered ((refusals_hold _ _ _).lookup _ _).place f

module _ (library g : List ℕ) {before : State flat} {scratch : List ℕ} {a : Answer ℕ} {after : State flat} {scratch' : List ℕ} {r : Refusal} where
  pub adds_low : Adds flat library g before scratch a after scratch' → a ≡ refused r → r.byte ≤ 32768
  unfolding addition add_refusal group_refusal
  adds_low p f =
      let user : List ℕ = before.user in
      let used : ℕ = before.used in
      let new : List ℕ = added_sheet (take used user) g in
      let e = told_refused _ _ (sym f ∙ p.changes.answered) in
      edit_low library user used new (group_refusal g ∷ room_refusal user new ∷ []) _ (plain_low _ 14, (room_says user new, tt)) (λ q. room_low user new q.1.0) e
      (((refusals_hold library user used).add g _ _).place r e)

  pub replaces_low : (c : ℕ) → Replaces flat library c g before scratch a after scratch' → a ≡ refused r → r.byte ≤ 32768
  unfolding replacement replace_refusal no_user_refusal group_refusal
  replaces_low c p f =
      let user : List ℕ = before.user in
      let used : ℕ = before.used in
      let new : List ℕ = replaced_sheet library (take used user) c g in
      let e = told_refused _ _ (sym f ∙ p.changes.answered) in
      edit_low library user used new (no_user_refusal library (take used user) c ∷ group_refusal g ∷ room_refusal user new ∷ []) _
      (plain_low _ 13, (plain_low _ 14, (room_says user new, tt))) (λ q. room_low user new q.1.1.0) e
      (((refusals_hold library user used).replace c g _ _).place r e)

-- ---- accepted counts

count_low : (p : ℕ → Bool) (n : ℕ) → count p (span 0 n) ≤ n
count_low p zero = omega (arith, count_none p)
count_low p (suc n) = go (p n) (count_more p n) (count_low p n)
  where
    go : (b : Bool) → count p (span 0 (suc n)) ≡ step b (count p (span 0 n)) → count p (span 0 n) ≤ n → count p (span 0 (suc n)) ≤ suc n
    go true e h = omega arith
    go false e h = omega arith

pub judges_few : {library user : List ℕ} {used : ℕ} {v s v' s' : List ℕ} {a : Answer Counts} → Judges flat library user used v s a v' s' → {c : Counts} → a ≡ accepted c
    → (c.classes ≤ 256) × (c.faulted ≤ c.classes)
unfolding judge_refusal counts_of faulted_count total
judges_few {library} {user} {used} p {c} f =
    let sheet : List ℕ = take used user in
    let t = told_fine _ _ (sym f ∙ p.answered) in
    let few = (sound library sheet (present_facts library user used (first_none _ t.0).0).sheets).few in (
      omega (arith, ap (λ (c : Counts). c.classes) t.1, few),
      omega
          (arith, ap (λ (c : Counts). c.classes) t.1, ap (λ (c : Counts). c.faulted) t.1, count_low (faulted library sheet) (class_count sheet)),
    )
