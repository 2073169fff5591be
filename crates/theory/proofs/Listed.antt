-- Lists that hold just what a relation tells, each thing at its place, in the order of the places.
-- Assumes nothing.
use mathlib.Core.Path.{◌≡◌, refl, sym, ap, ap₂, ◌∙◌, subst, subst₂}
use mathlib.Core.Logic.{◌⊎◌, inl, inr, ◌↔◌}
use mathlib.Core.Bool.{Bool, true, false}
use mathlib.Core.List.Memᴰ
use mathlib.Core.List.{List, [], ◌∷◌, ◌++◌, map, map-map, map-id, map-append, Memᴰ}
use Prim.Native.Nat.{ℕ, ◌<◌}
use native.Mathlib.Nat.{zero-add}
use native.Mathlib.Omega.{arith}
use lib.Dec.{T}
use lib.ListN.{length, get_or}
use Rattle.spec.specs.Lists.{keep, gather, numbered, only_if}
use Rattle.spec.specs.Relations.{At, Before, ends, lower, same}
use Rattle.spec.specs.Breaks.{Not}
use Rattle.laws.proofs.All.{at_member}
use Rattle.laws.proofs.Lists.{map_numbered}
use Rattle.laws.proofs.Members.{gather_mem, mem_gather, keep_mem, mem_keep, numbered_at, at_numbered}
use Rattle.laws.proofs.Sorted.{Sorted, sorted_map, sorted_keep, sorted_append, sorted_gather, sorted_weaken, sorted_numbered, sorted_two}

-- ---- places

before_cons : {x y : ℕ} {v w : List ℕ} → Before (x ∷ v) (y ∷ w) → (x < y) ⊎ ((x ≡ y) × Before v w)
before_cons (lower h) = inl h
before_cons (same b) = inr (refl, b)

pub before_turn : {v w : List ℕ} → Before v w → Not (Before w v)
before_turn ends b = elim b [ ]
before_turn (lower {x} {y} {xs} {ys} h) b = go (before_cons b)
  where
    go : (y < x) ⊎ ((y ≡ x) × Before ys xs) → ⊥
    go (inl k) = omega arith
    go (inr q) = let e : y ≡ x = q.0 in omega arith
before_turn (same {x} {xs} {ys} a) b = go (before_cons b) (before_turn a)
  where
    go : (x < x) ⊎ ((x ≡ x) × Before ys xs) → Not (Before ys xs) → ⊥
    go (inl k) f = omega arith
    go (inr q) f = f q.1

-- by their first numbers
pub before_by : {x y : ℕ} {v w v' w' : List ℕ} → x < y → v ≡ x ∷ v' → w ≡ y ∷ w' → Before v w
before_by h e f = subst₂ Before (sym e) (sym f) (lower h)

-- behind the same place
before_behind : (u : List ℕ) {v w : List ℕ} → Before v w → Before (u ++ v) (u ++ w)
before_behind [] b = b
before_behind (x ∷ u) b = same (before_behind u b)

-- behind places of one length
before_along : {v w : List ℕ} → Before v w → length v ≡ length w → (t u : List ℕ) → Before (v ++ t) (w ++ u)
before_along ends e t u = absurd (omega (arith, e))
before_along (lower h) e t u = lower h
before_along (same b) e t u = same (before_along b (omega arith) t u)

-- ---- what a relation tells

-- things with their places, in order
abbrev pub Walk : Type 0 → Type 0
Walk A = List (List ℕ × A)

abbrev pub Earlier : {A : Type 0} → List ℕ × A → List ℕ × A → Type 0
Earlier m n = Before m.0 n.0

abbrev pub things : {A : Type 0} → Walk A → List A
things {A} walk = map (λ (n : List ℕ × A). n.1) walk

pub record Listed {A : Type 0} (tells : List ℕ → A → Type 0) (xs : List A) : Type 0 where
  pub walk : Walk A
  pub is : things walk ≡ xs
  pub order : Sorted Earlier walk
  pub sound : (n : List ℕ × A) → Memᴰ n walk → tells n.0 n.1
  pub complete : (n : List ℕ × A) → tells n.0 n.1 → Memᴰ n walk

-- ---- how lists are made

module _ {A : Type 0} where
  pub listed_same : {p q : List ℕ → A → Type 0} {xs : List A} → ((w : List ℕ) (x : A) → p w x ↔ q w x) → Listed p xs → Listed q xs
  listed_same e h = record { walk = h.walk; is = h.is; order = h.order; sound = λ n m. (e n.0 n.1).0 (h.sound n m); complete = λ n t. h.complete n ((e n.0 n.1).1 t) }

  -- each element has its place
  pub listed_by : (place : A → List ℕ) (xs : List A) → Sorted (λ x y. Before (place x) (place y)) xs → Listed (λ w x. (w ≡ place x) × Memᴰ x xs) xs
  listed_by place xs s = record {
    walk = map at xs;
    is = map-map (λ (n : List ℕ × A). n.1) at xs ∙ map-id xs;
    order = sorted_map (λ x y. Before (place x) (place y)) Earlier at (λ x y b. b) xs s;
    sound = λ n m. let a = Memᴰ.of_map at xs m in subst (λ (n : List ℕ × A). (n.0 ≡ place n.1) × Memᴰ n.1 xs) a.2 (refl, a.1);
    complete = λ n t. subst (λ (k : List ℕ × A). Memᴰ k (map at xs)) (ap (λ (w : List ℕ). (w, n.1)) (sym t.0)) (Memᴰ.map at t.1);
  }
    where
      at : A → List ℕ × A
      at x = (place x, x)

  pub listed_keep : {p : List ℕ → A → Type 0} {xs : List A} (ok : A → Bool) → Listed p xs → Listed (λ w x. p w x × T (ok x)) (keep ok xs)
  unfolding keep
  listed_keep ok h = record {
    walk = keep (λ n. ok n.1) h.walk;
    is = go h.walk ∙ ap (keep ok) h.is;
    order = sorted_keep Earlier (λ n. ok n.1) h.walk h.order;
    sound = λ n m. let k = keep_mem (λ n. ok n.1) h.walk n m in (h.sound n k.0, k.1);
    complete = λ n t. mem_keep (λ n. ok n.1) (h.complete n t.0) t.1;
  }
    where
      go : (ns : Walk A) → things (keep (λ n. ok n.1) ns) ≡ keep ok (things ns)
      go [] = refl
      go (n ∷ ns) = at (ok n.1) (go ns)
        where
          at : (b : Bool) → things (keep (λ n. ok n.1) ns) ≡ keep ok (things ns)
              → things (elim b as (λ (c : Bool). Walk A) [ true ↦ n ∷ keep (λ n. ok n.1) ns | false ↦ keep (λ n. ok n.1) ns ])
              ≡ elim b as (λ (c : Bool). List A) [ true ↦ n.1 ∷ keep ok (things ns) | false ↦ keep ok (things ns) ]
          at true e = ap (λ (ys : List A). n.1 ∷ ys) e
          at false e = e

  pub listed_append : {p q : List ℕ → A → Type 0} {xs ys : List A} → ((w v : List ℕ) (x y : A) → p w x → q v y → Before w v) → Listed p xs → Listed q ys
      → Listed (λ w x. p w x ⊎ q w x) (xs ++ ys)
  listed_append {p} {q} across h k = record {
    walk = h.walk ++ k.walk;
    is = map-append (λ (n : List ℕ × A). n.1) h.walk k.walk ∙ ap₂ (λ (xs ys : List A). xs ++ ys) h.is k.is;
    order = sorted_append Earlier h.walk k.walk h.order k.order (λ m n a b. across m.0 n.0 m.1 n.1 (h.sound m a) (k.sound n b));
    sound = λ n m. there n (Memᴰ.append_cases h.walk m);
    complete = back;
  }
    where
      there : (n : List ℕ × A) → Memᴰ n h.walk ⊎ Memᴰ n k.walk → p n.0 n.1 ⊎ q n.0 n.1
      there n (inl m) = inl (h.sound n m)
      there n (inr m) = inr (k.sound n m)

      back : (n : List ℕ × A) → p n.0 n.1 ⊎ q n.0 n.1 → Memᴰ n (h.walk ++ k.walk)
      back n (inl t) = Memᴰ.append_left k.walk (h.complete n t)
      back n (inr t) = Memᴰ.append_right h.walk (k.complete n t)

  pub listed_if : {p : List ℕ → A → Type 0} {xs : List A} (b : Bool) → Listed p xs → Listed (λ w x. T b × p w x) (only_if b xs)
  unfolding only_if
  listed_if true h = record { walk = h.walk; is = h.is; order = h.order; sound = λ n m. (tt, h.sound n m); complete = λ n t. h.complete n t.1 }
  listed_if false h = record { walk = []; is = refl; order = tt; sound = λ n m. absurd (Memᴰ.not-nil m); complete = λ n t. absurd t.0 }

-- told of y at u: it is f of something told at a place, and u is that place behind ps
pub record Moved {A B : Type 0} (p : List ℕ → A → Type 0) (ps : List ℕ) (f : A → B) (u : List ℕ) (y : B) : Type 0 where
  pub place : List ℕ
  pub thing : A
  pub told : p place thing
  pub at : u ≡ ps ++ place
  pub is : y ≡ f thing

-- told of y at u: something is told at a place, and gives y behind that place
pub record Given {A B : Type 0} (p : List ℕ → A → Type 0) (part : A → List ℕ → B → Type 0) (u : List ℕ) (y : B) : Type 0 where
  pub place : List ℕ
  pub thing : A
  pub told : p place thing
  pub behind : List ℕ
  pub gives : part thing behind y
  pub at : u ≡ place ++ behind

module _ {A B : Type 0} where
  -- things are changed, and places put behind ps
  abbrev move : List ℕ → (A → B) → List ℕ × A → List ℕ × B
  move ps f n = (ps ++ n.0, f n.1)

  move_order : (ps : List ℕ) (f : A → B) (ns : Walk A) → Sorted Earlier ns → Sorted Earlier (map (move ps f) ns)
  move_order ps f = sorted_map Earlier Earlier (move ps f) (λ m n b. before_behind ps b)

  pub listed_map : {p : List ℕ → A → Type 0} {xs : List A} (ps : List ℕ) (f : A → B) → Listed p xs → Listed (Moved p ps f) (map f xs)
  listed_map {p} ps f h = record {
    walk = map (move ps f) h.walk;
    is = map-map (λ (n : List ℕ × B). n.1) (move ps f) h.walk ∙ sym (map-map f (λ (n : List ℕ × A). n.1) h.walk) ∙ ap (map f) h.is;
    order = move_order ps f h.walk h.order;
    sound = λ n m.
        let a = Memᴰ.of_map (move ps f) h.walk m in
        subst (λ (n : List ℕ × B). Moved p ps f n.0 n.1) a.2 (record { place = a.0.0; thing = a.0.1; told = h.sound a.0 a.1; at = refl; is = refl });
    complete = λ n t.
        subst (λ (k : List ℕ × B). Memᴰ k (map (move ps f) h.walk)) (ap₂ (λ (w : List ℕ) (y : B). (w, y)) (sym t.at) (sym t.is))
        (Memᴰ.map (move ps f) (h.complete (t.place, t.thing) t.told));
  }

module _ {A B : Type 0} {p : List ℕ → A → Type 0} {part : A → List ℕ → B → Type 0} (f : A → List B) (k : ℕ) (long : (w : List ℕ) (x : A) → p w x → length w ≡ k)
    (each : (x : A) → Listed (part x) (f x)) where
  parts : List ℕ × A → Walk B
  parts n = map (move n.0 (λ y. y)) (each n.1).walk

  parts_things : (ns : Walk A) → things (gather parts ns) ≡ gather f (things ns)
  unfolding gather parts
  parts_things [] = refl
  parts_things (n ∷ ns) =
      map-append (λ (n : List ℕ × B). n.1) (parts n) (gather parts ns)
      ∙ ap₂ (λ (xs ys : List B). xs ++ ys) (map-map (λ (n : List ℕ × B). n.1) (move n.0 (λ (y : B). y)) (each n.1).walk ∙ (each n.1).is) (parts_things ns)

  -- where all places of the one have the same length
  pub listed_gather : {xs : List A} → Listed p xs → Listed (Given p part) (gather f xs)
  unfolding parts
  listed_gather h = record {
    walk = gather parts h.walk;
    is = parts_things h.walk ∙ ap (gather f) h.is;
    order = sorted_gather Earlier Earlier parts (λ n. move_order n.0 (λ y. y) (each n.1).walk (each n.1).order) h.walk across h.order;
    sound = λ n m.
        let q = gather_mem parts h.walk n m in
        let a = Memᴰ.of_map (move q.source.0 (λ y. y)) (each q.source.1).walk q.part in
        subst (λ (n : List ℕ × B). Given p part n.0 n.1) a.2
        (record { place = q.source.0; thing = q.source.1; told = h.sound q.source q.member; behind = a.0.0; gives = (each q.source.1).sound a.0 a.1; at = refl });
    complete = λ n t.
        subst (λ (m : List ℕ × B). Memᴰ m (gather parts h.walk)) (ap (λ (w : List ℕ). (w, n.1)) (sym t.at))
        (mem_gather parts (h.complete (t.place, t.thing) t.told) (Memᴰ.map (move t.place (λ y. y)) ((each t.thing).complete (t.behind, n.1) t.gives)));
  }
    where
      across : (m n : List ℕ × A) (a b : List ℕ × B) → Memᴰ m h.walk → Memᴰ n h.walk → Before m.0 n.0 → Memᴰ a (parts m) → Memᴰ b (parts n) → Before a.0 b.0
      across m n a b i j q c d =
          let u = Memᴰ.of_map (move m.0 (λ y. y)) (each m.1).walk c in
          let v = Memᴰ.of_map (move n.0 (λ y. y)) (each n.1).walk d in
          subst₂ (λ (a b : List ℕ × B). Before a.0 b.0) u.2 v.2 (before_along q (long m.0 m.1 (h.sound m i) ∙ sym (long n.0 n.1 (h.sound n j))) u.0.0 v.0.0)

-- ---- the elements of a list and their numbers

module _ {A : Type 0} where
  pub listed_numbered : (xs : List A) → Listed (λ w n. (w ≡ n.0 ∷ []) × At xs n.0 n.1) (numbered 0 xs)
  listed_numbered xs =
      listed_same (λ w n. ((λ t. (t.0, there n t.1)), (λ t. (t.0, back n t.1))))
      (listed_by (λ n. n.0 ∷ []) (numbered 0 xs) (sorted_weaken (λ m n. m.0 < n.0) (λ m n. Before (m.0 ∷ []) (n.0 ∷ [])) (λ m n h. lower h) (numbered 0 xs) (sorted_numbered 0 xs)))
    where
      there : (n : ℕ × A) → Memᴰ n (numbered 0 xs) → At xs n.0 n.1
      there n m = let p = numbered_at 0 xs n m in subst (λ (i : ℕ). At xs i n.1) (sym (zero-add p.number) ∙ sym p.is) p.at

      back : (n : ℕ × A) → At xs n.0 n.1 → Memᴰ n (numbered 0 xs)
      back n a = subst (λ (i : ℕ). Memᴰ (i, n.1) (numbered 0 xs)) (zero-add n.0) (at_numbered a 0)

  pub listed_at : (xs : List A) → Listed (λ w x. (k : ℕ) × (w ≡ k ∷ []) × At xs k x) xs
  listed_at xs =
      listed_same (λ w x. (there w x, back w x)) (subst (Listed told) (map_numbered 0 xs) (listed_map [] (λ n. n.1) (listed_numbered xs)))
    where
      told : List ℕ → A → Type 0
      told w x = Moved (λ (w : List ℕ) (n : ℕ × A). (w ≡ n.0 ∷ []) × At xs n.0 n.1) [] (λ n. n.1) w x

      there : (w : List ℕ) (x : A) → told w x → (k : ℕ) × (w ≡ k ∷ []) × At xs k x
      there w x t = (t.thing.0, t.at ∙ t.told.0, subst (λ (y : A). At xs t.thing.0 y) (sym t.is) t.told.1)

      back : (w : List ℕ) (x : A) → ((k : ℕ) × (w ≡ k ∷ []) × At xs k x) → told w x
      back w x t = record { place = t.0 ∷ []; thing = (t.0, x); told = (refl, t.2); at = t.1; is = refl }

-- ---- what comes of it

-- x is told first
pub record Head {A : Type 0} (p : List ℕ → A → Type 0) (x : A) : Type 0 where
  pub place : List ℕ
  pub told : p place x
  pub first : (w : List ℕ) (y : A) → p w y → (w ≡ place) ⊎ Before place w

module _ {A : Type 0} {p : List ℕ → A → Type 0} where
  pub listed_none : Listed p [] → (w : List ℕ) (x : A) → Not (p w x)
  listed_none h w x t = Memᴰ.not-nil (subst (Memᴰ x) h.is (Memᴰ.map (λ (n : List ℕ × A). n.1) (h.complete (w, x) t)))

  pub listed_first : {x : A} {xs : List A} → Listed p (x ∷ xs) → Head p x
  listed_first {x} {xs} h = go h.walk h.is h.order h.sound h.complete
    where
      go : (ns : Walk A) → things ns ≡ x ∷ xs → Sorted Earlier ns → ((n : List ℕ × A) → Memᴰ n ns → p n.0 n.1) → ((n : List ℕ × A) → p n.0 n.1 → Memᴰ n ns) → Head p x
      go [] e s f k = absurd (Memᴰ.not-nil (subst (Memᴰ x) (sym e) (Memᴰ.head refl)))
      go (n ∷ ns) e s f k = record {
        place = n.0;
        told = subst (p n.0) (ap (λ (ys : List A). get_or ys 0 x) e) (f n (Memᴰ.head refl));
        first = λ w y t. at w y (Memᴰ.cases_cons (k (w, y) t));
      }
        where
          at : (w : List ℕ) (y : A) → ((w, y) ≡ n) ⊎ Memᴰ (w, y) ns → (w ≡ n.0) ⊎ Before n.0 w
          at w y (inl q) = inl (ap (λ (m : List ℕ × A). m.0) q)
          at w y (inr m) = inr (at_member (Earlier n) ns s.0 m)

  -- one thing stands at a place
  pub listed_one : {xs : List A} → Listed p xs → (w : List ℕ) (x y : A) → p w x → p w y → x ≡ y
  listed_one h w x y t u = go (sorted_two Earlier h.walk h.order (h.complete (w, x) t) (h.complete (w, y) u))
    where
      go : ◌≡◌ {A = List ℕ × A} (w, x) (w, y) ⊎ (Before w w ⊎ Before w w) → x ≡ y
      go (inl e) = ap (λ (n : List ℕ × A). n.1) e
      go (inr (inl b)) = absurd (before_turn b b)
      go (inr (inr b)) = absurd (before_turn b b)
