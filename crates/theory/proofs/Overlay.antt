-- Overlay markers: the closure of the own markers of a class and of all its supertypes.
-- Assumes nothing.
use mathlib.Core.Path.{◌≡◌, sym, ap, subst}
use mathlib.Core.Logic.{◌⊎◌, inl, inr}
use mathlib.Core.Bool.{◌||◌}
use mathlib.Core.List.Memᴰ
use mathlib.Core.List.{List, [], ◌∷◌, map, Memᴰ}
use Prim.Native.Nat.{ℕ, zero, suc, ◌<◌}
use native.Mathlib.Nat.{le_refl, not-suc-le-zero}
use native.Mathlib.Omega.{arith}
use lib.Dec.{T, T_not, eqb, eqb→eq, lit<}
use lib.Bits.{or_lt}
use Rattle.spec.specs.Lists.{keep}
use Rattle.spec.specs.Record.{bit, IMPLEMENTS, own_markers}
use Rattle.spec.specs.Sheet.{Group, class_record}
use Rattle.spec.specs.Markers.{gives, union, union_all}
use Rattle.spec.specs.Classes.{superclasses, targets, supertypes, gathered, overlay, has_marker}
use Rattle.spec.specs.Relations.{Superclass, Implements, self, Supertype, above, beside, Marked, own, given}
use Rattle.laws.proofs.Bools.{or_cases, or_l, or_r}
use Rattle.laws.proofs.All.{All, Any, all_map, at_member, of_members, map_cong}
use Rattle.theory.proofs.Reach.{Steps, onward as further, here as start_here}
use Rattle.theory.proofs.Closure.{bit_union, bit_zero, union_in, in_union, union_all_low, closure_holds, closure_closed, closure_given, given_by}
use Rattle.laws.proofs.Members.{keep_mem}
use Rattle.theory.proofs.Groups.{superclass_is, target_is, first_record, first_own}
use Rattle.theory.proofs.Falls.{Falls}

pair_eq : (p : ℕ × ℕ) (a b : ℕ) → p.0 ≡ a → p.1 ≡ b → p ≡ (a, b)
pair_eq p a b e q = λ i. (e i, q i)

given_low : (j k : ℕ) → Memᴰ (j, k) gives → k < 8
unfolding gives
given_low j k m = at_member (λ (p : ℕ × ℕ). p.1 < 8) gives (lit< tt, (lit< tt, (lit< tt, (lit< tt, (lit< tt, (lit< tt, tt)))))) m

module _ (g : ℕ → Group) (f : Falls g) where
  super_of : (c e : ℕ) → Memᴰ e (supertypes (g c)) → Superclass (g c) e ⊎ Implements (g c) e
  unfolding supertypes
  super_of c e m = go (Memᴰ.append_cases (superclasses (g c)) m)
    where
      go : Memᴰ e (superclasses (g c)) ⊎ Memᴰ e (targets IMPLEMENTS (g c)) → Superclass (g c) e ⊎ Implements (g c) e
      go (inl k) = inl ((superclass_is (g c) e).0 k)
      go (inr k) = inr ((target_is IMPLEMENTS (g c) e).0 k)

  of_super : (c e : ℕ) → Superclass (g c) e ⊎ Implements (g c) e → Memᴰ e (supertypes (g c))
  unfolding supertypes
  of_super c e (inl h) = Memᴰ.append_left (targets IMPLEMENTS (g c)) ((superclass_is (g c) e).1 h)
  of_super c e (inr h) = Memᴰ.append_right (superclasses (g c)) ((target_is IMPLEMENTS (g c) e).1 h)

  super_lt : (c e : ℕ) → Superclass (g c) e ⊎ Implements (g c) e → e < c
  super_lt c e (inl h) = f.superclass c e h
  super_lt c e (inr h) = f.implements c e h

  pub supertypes_lower : (c : ℕ) → All (λ e. e < c) (supertypes (g c))
  supertypes_lower c = of_members (λ e. e < c) (supertypes (g c)) (λ e m. super_lt c e (super_of c e m))

  -- one step more at the lower end of a chain of supertypes
  prepend : {c d e : ℕ} → Superclass (g c) d ⊎ Implements (g c) d → Supertype g d e → Supertype g c e
  prepend (inl h) self = above self h
  prepend (inr h) self = beside self h
  prepend h (above p q) = above (prepend h p) q
  prepend h (beside p q) = beside (prepend h p) q

  -- an own marker of c or a supertype
  record Held (c k : ℕ) : Type 0 where
    holder : ℕ
    line : Supertype g c holder
    held : T (bit k (own_markers (class_record (g holder))))

  in_map : (n k : ℕ) (es : List ℕ) → Any (λ m. T (bit k m)) (map (gathered g n) es) → Any (λ e. T (bit k (gathered g n e))) es
  in_map n k [] a = a
  in_map n k (e ∷ es) (inl t) = inl t
  in_map n k (e ∷ es) (inr a) = inr (in_map n k es a)

  map_in : (n k : ℕ) {e : ℕ} {es : List ℕ} → Memᴰ e es → T (bit k (gathered g n e)) → Any (λ m. T (bit k m)) (map (gathered g n) es)
  map_in n k (Memᴰ.head q) t = inl (subst (λ (x : ℕ). T (bit k (gathered g n x))) q t)
  map_in n k (Memᴰ.tail m) t = inr (map_in n k m t)

  from_any : (n k c : ℕ) → ((e : ℕ) → T (bit k (gathered g n e)) → Held e k) → (es : List ℕ)
      → All (λ e. Superclass (g c) e ⊎ Implements (g c) e) es → Any (λ e. T (bit k (gathered g n e))) es → Held c k
  from_any n k c ih [] h a = absurd a
  from_any n k c ih (e ∷ es) h (inl t) = let r = ih e t in record { holder = r.holder; line = prepend h.0 r.line; held = r.held }
  from_any n k c ih (e ∷ es) h (inr a) = from_any n k c ih es h.1 a

  gathered_held : (n c k : ℕ) → T (bit k (gathered g n c)) → Held c k
  unfolding gathered
  gathered_held zero c k t = absurd (T_not (bit k 0) (bit_zero k) t)
  gathered_held (suc n) c k t =
      go (or_cases (bit k own_set) (bit k rest) (subst T (bit_union k own_set rest) t)) (λ e. gathered_held n e k)
    where
      own_set : ℕ
      own_set = own_markers (class_record (g c))

      rest : ℕ
      rest = union_all (map (gathered g n) (supertypes (g c)))

      go : T (bit k own_set) ⊎ T (bit k rest) → ((e : ℕ) → T (bit k (gathered g n e)) → Held e k) → Held c k
      go (inl u) ih = record { holder = c; line = self; held = u }
      go (inr u) ih =
          from_any n k c ih (supertypes (g c)) (of_members (λ e. Superclass (g c) e ⊎ Implements (g c) e) (supertypes (g c)) (λ e m. super_of c e m))
          (in_map n k (supertypes (g c)) (union_in k (map (gathered g n) (supertypes (g c))) u))

  pub gathered_enough : (n m c : ℕ) → c < n → c < m → gathered g n c ≡ gathered g m c
  unfolding gathered
  gathered_enough zero m c h k = absurd (not-suc-le-zero h)
  gathered_enough (suc n) zero c h k = absurd (not-suc-le-zero k)
  gathered_enough (suc n) (suc m) c h k =
      ap (λ (ms : List ℕ). union (own_markers (class_record (g c))) (union_all ms))
      (map_cong (λ e. e < c) (gathered g n) (gathered g m) (λ e q. gathered_enough n m e (omega arith) (omega arith)) (supertypes (g c)) (supertypes_lower c))

  -- the markers of a class are its own and those of its supertypes
  abbrev own_set : ℕ → ℕ
  own_set d = own_markers (class_record (g d))

  abbrev rest : ℕ → ℕ
  rest d = union_all (map (gathered g d) (supertypes (g d)))

  either : (d k : ℕ) → T (bit k (own_set d) || bit k (rest d)) → T (bit k (gathered g (suc d) d))
  unfolding gathered
  either d k t = subst T (sym (bit_union k (own_set d) (rest d))) t

  -- the markers of a supertype reach the class
  step_down : (d e k : ℕ) → Superclass (g d) e ⊎ Implements (g d) e → T (bit k (gathered g (suc e) e)) → T (bit k (gathered g (suc d) d))
  step_down d e k h t =
      let q : e < d = super_lt d e h in
      either d k (or_r (bit k (own_set d)) (bit k (rest d))
      (in_union k (map (gathered g d) (supertypes (g d)))
      (map_in d k (of_super d e h) (subst (λ (m : ℕ). T (bit k m)) (gathered_enough (suc e) d e (le_refl (suc e)) q) t))))

  down : {c d : ℕ} (k : ℕ) → Supertype g c d → T (bit k (gathered g (suc d) d)) → T (bit k (gathered g (suc c) c))
  down k self t = t
  down k (above {d} {e} p h) t = down k p (step_down d e k (inl h) t)
  down k (beside {d} {e} p h) t = down k p (step_down d e k (inr h) t)

  held_gathered : (c k : ℕ) → Held c k → T (bit k (gathered g (suc c) c))
  held_gathered c k h = down k h.line (here_own h.holder h.held)
    where
      here_own : (d : ℕ) → T (bit k (own_markers (class_record (g d)))) → T (bit k (gathered g (suc d) d))
      here_own d t = either d k (or_l (bit k (own_set d)) (bit k (rest d)) t)

  module _ (low : (c : ℕ) → own_markers (class_record (g c)) < 256) where
    gathered_low : (n c : ℕ) → gathered g n c < 256
    unfolding gathered union
    gathered_low zero c = lit< tt
    gathered_low (suc n) c =
        or_lt 8 (own_markers (class_record (g c))) (union_all (map (gathered g n) (supertypes (g c)))) (low c)
        (union_all_low (map (gathered g n) (supertypes (g c)))
        (all_map (λ e. Unit {0}) (λ m. m < 256) (gathered g n) (λ e q. gathered_low n e) (supertypes (g c)) (of_members (λ e. Unit {0}) (supertypes (g c)) (λ e m. tt))))

    steps_marked : {c j k : ℕ} → Marked g c j → Steps given_by j k → Marked g c k
    unfolding given_by
    steps_marked h start_here = h
    steps_marked {c} {j} h (further {d} {e} p m) =
        let a = Memᴰ.of_map (λ (p : ℕ × ℕ). p.1) (keep (λ (p : ℕ × ℕ). eqb p.0 d) gives) m in
        let q = keep_mem (λ (p : ℕ × ℕ). eqb p.0 d) gives a.0 a.1 in
        given (steps_marked h p) (subst (λ (x : ℕ × ℕ). Memᴰ x gives) (pair_eq a.0 d e (eqb→eq a.0.0 d q.1) a.2) q.0)

    pub marked_sound : (c k : ℕ) → k < 8 → T (has_marker g k c) → Marked g c k
    unfolding has_marker overlay
    marked_sound c k h t =
        let v = closure_given (gathered g (suc c) c) k (gathered_low (suc c) c) h t in
        let w = gathered_held (suc c) c v.giver v.held in
        let r = first_own (g w.holder) v.giver w.held in
        steps_marked (own w.line r.1 v.marker r.2) v.steps

    marked_both : {c k : ℕ} → Marked g c k → (k < 8) × T (has_marker g k c)
    unfolding has_marker overlay
    marked_both {c} (own {d} {k} {r} p a h t) = (
      h,
      closure_holds (gathered g (suc c) c) k (gathered_low (suc c) c) h
          (held_gathered c k (record { holder = d; line = p; held = subst (λ (x : List ℕ). T (bit k (own_markers x))) (sym (first_record a)) t })),
    )
    marked_both {c} (given {j} {k} m q) =
        let b = marked_both m in
        (given_low j k q, closure_closed (gathered g (suc c) c) j k (gathered_low (suc c) c) q b.1)

    pub marked_complete : (c k : ℕ) → Marked g c k → T (has_marker g k c)
    marked_complete c k m = (marked_both m).1
