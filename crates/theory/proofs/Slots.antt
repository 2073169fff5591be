-- The computed slots of a class are document 01's, in the order of the walk; so are the types that satisfy a marker, and the members that are allowed.
-- Assumes nothing.
use mathlib.Core.Path.{◌≡◌, refl, sym, ap, ap₂, ◌∙◌, subst}
use mathlib.Core.Logic.{◌⊎◌, inl, inr, ◌↔◌}
use mathlib.Core.Bool.{Bool, true, false, not, ◌&&◌}
use mathlib.Core.List.Memᴰ
use mathlib.Core.List.{List, [], ◌∷◌, ◌++◌, map, Memᴰ}
use Prim.Native.Nat.{ℕ, zero, suc, ◌+◌, ◌≤◌, ◌<◌}
use native.Mathlib.Nat.{add-zero, zero-add, suc-add, add-suc}
use native.Mathlib.Omega.{arith}
use lib.Dec.{T, T_not, not_T, eqb, eqb→eq}
use lib.ListN.{length, get_or, take, drop}
use Rattle.spec.specs.Lists.{all, keep, numbered}
use Rattle.spec.specs.Record.{u16, bit, is_kind, CLASS, FIELD, LOCAL, MEMBER, flags, Ty, local_ty, is_final, is_transient, is_static, ty_references}
use Rattle.spec.specs.Sheet.{Group, class_record, of_kind, is_inner, is_instance_field}
use Rattle.spec.specs.Classes.{Slot, field_slot, encloser_slot, variable_slot, class_ty, enclosing, locals, local_at, has_marker, satisfies}
use Rattle.spec.specs.Classes.{lineage, captured, encloser_slots, field_slots, captured_slots, own_slots, slots}
use Rattle.spec.specs.Rules.{member_allowed}
use Rattle.spec.specs.Relations.{At, Before, same, Nth, here, over, past, Marked, Lineage, Captures}
use Rattle.spec.specs.Breaks.{Allowed, Satisfies, object, primitive, SlotShape, field, fixed, type_of, Final, Transient, OwnSlot, instance, outer, HasSlot, of}
use Rattle.laws.proofs.Bools.{t_and, and_l, and_r, t_true, t_false, true_t, false_t, eq→eqb}
use Rattle.laws.proofs.Members.{only_mem, mem_only}
use Rattle.laws.proofs.Sorted.{Lone, lone_first, lone_if, lone_map, lone_sorted, sorted_weaken}
use Rattle.theory.proofs.Groups.{encloser_is, enclosing_lone, flag_is}
use Rattle.theory.proofs.CapturedOrder.{variable_place, sorted_captured}
use Rattle.theory.proofs.Listed.{Listed, listed_same, listed_by, listed_keep, listed_append, listed_map, listed_gather, listed_numbered, listed_at, before_by, Moved, Given}
use Rattle.theory.proofs.Closure.{bit_zero}

-- ---- the i-th record of a kind

-- a place in a list from number j on, and the record
record NthFrom (K j : ℕ) (g : Group) (i : ℕ) (n : ℕ × List ℕ) : Type 0 where
  number : ℕ
  is : n.0 ≡ j + number
  nth : Nth K g i number n.1

module _ (K : ℕ) where
  -- the records of the kind, numbered from j
  numbers : ℕ → Group → List (ℕ × List ℕ)
  numbers j g = keep (λ n. is_kind K n.1) (numbered j g)

  numbers_if : ℕ → List ℕ → Group → Bool → List (ℕ × List ℕ)
  numbers_if j r g b = elim b [ true ↦ (j, r) ∷ numbers (suc j) g | false ↦ numbers (suc j) g ]

  nth_sound : (j : ℕ) (g : Group) (i : ℕ) (n : ℕ × List ℕ) → Memᴰ n (take 1 (drop i (numbers j g))) → NthFrom K j g i n
  unfolding numbers numbers_if keep numbered
  nth_sound j [] zero n m = absurd (Memᴰ.not-nil m)
  nth_sound j [] (suc i) n m = absurd (Memᴰ.not-nil m)
  nth_sound j (r ∷ g) i n m = go (is_kind K r) refl i m (nth_sound (suc j) g)
    where
      later : (i : ℕ) → NthFrom K (suc j) g i n → (i' : ℕ) → ((k : ℕ) → Nth K g i k n.1 → Nth K (r ∷ g) i' (suc k) n.1) → NthFrom K j (r ∷ g) i' n
      later i h i' f = record { number = suc h.number; is = h.is ∙ suc-add j h.number ∙ sym (add-suc j h.number); nth = f h.number h.nth }

      go : (b : Bool) → is_kind K r ≡ b → (i : ℕ) → Memᴰ n (take 1 (drop i (numbers_if j r g b)))
          → ((i : ℕ) (n : ℕ × List ℕ) → Memᴰ n (take 1 (drop i (numbers (suc j) g))) → NthFrom K (suc j) g i n) → NthFrom K j (r ∷ g) i n
      go true e zero m ih =
          let q : n ≡ (j, r) = Memᴰ.eq_of_singleton m in
          record { number = 0; is = ap (λ (p : ℕ × List ℕ). p.0) q ∙ sym (add-zero j); nth = subst (λ (x : List ℕ). Nth K (r ∷ g) 0 0 x) (sym (ap (λ (p : ℕ × List ℕ). p.1) q)) (here (true_t e)) }
      go true e (suc i) m ih = later i (ih i n m) (suc i) (λ k h. over (true_t e) h)
      go false e i m ih = later i (ih i n m) i (λ k h. past (T_not (is_kind K r) (false_t e)) h)

  nth_complete : {g : Group} {i k : ℕ} {r : List ℕ} → Nth K g i k r → (j : ℕ) → Memᴰ (j + k, r) (take 1 (drop i (numbers j g)))
  unfolding numbers numbers_if keep numbered
  nth_complete (here {r} {g} t) j = go (is_kind K r) t
    where
      go : (b : Bool) → T b → Memᴰ (j + 0, r) (take 1 (drop 0 (numbers_if j r g b)))
      go true u = Memᴰ.head (ap (λ (x : ℕ). (x, r)) (add-zero j))
      go false u = absurd u
  nth_complete (over {r} {l} {g} {i} {k} t h) j = go (is_kind K l) t (nth_complete h (suc j))
    where
      go : (b : Bool) → T b → Memᴰ (suc j + k, r) (take 1 (drop i (numbers (suc j) g))) → Memᴰ (j + suc k, r) (take 1 (drop (suc i) (numbers_if j l g b)))
      go true u m = subst (λ (x : ℕ). Memᴰ (x, r) (take 1 (drop i (numbers (suc j) g)))) (suc-add j k ∙ sym (add-suc j k)) m
      go false u m = absurd u
  nth_complete (past {r} {x} {g} {i} {k} t h) j = go (is_kind K x) t (nth_complete h (suc j))
    where
      go : (b : Bool) → (T b → ⊥) → Memᴰ (suc j + k, r) (take 1 (drop i (numbers (suc j) g))) → Memᴰ (j + suc k, r) (take 1 (drop i (numbers_if j x g b)))
      go true u m = absurd (u tt)
      go false u m = subst (λ (y : ℕ). Memᴰ (y, r) (take 1 (drop i (numbers (suc j) g)))) (suc-add j k ∙ sym (add-suc j k)) m

  -- the i-th of them, unnumbered
  ofs_if : List ℕ → Group → Bool → Group
  ofs_if r g b = elim b [ true ↦ r ∷ of_kind K g | false ↦ of_kind K g ]

  get_nth : {g : Group} {i k : ℕ} {r : List ℕ} → Nth K g i k r → get_or (of_kind K g) i [] ≡ r
  unfolding of_kind keep ofs_if
  get_nth (here {r} {g} t) = go (is_kind K r) t
    where
      go : (b : Bool) → T b → get_or (ofs_if r g b) 0 [] ≡ r
      go true u = refl
      go false u = absurd u
  get_nth (over {r} {l} {g} {i} t h) = go (is_kind K l) t (get_nth h)
    where
      go : (b : Bool) → T b → get_or (of_kind K g) i [] ≡ r → get_or (ofs_if l g b) (suc i) [] ≡ r
      go true u e = e
      go false u e = absurd u
  get_nth (past {r} {x} {g} {i} t h) = go (is_kind K x) t (get_nth h)
    where
      go : (b : Bool) → (T b → ⊥) → get_or (of_kind K g) i [] ≡ r → get_or (ofs_if x g b) i [] ≡ r
      go true u e = absurd (u tt)
      go false u e = e

  record Found (g : Group) (i : ℕ) : Type 0 where
    number : ℕ
    bytes : List ℕ
    nth : Nth K g i number bytes

  -- the i-th of them is there, or nothing stands there
  find_nth : (g : Group) (i : ℕ) → Found g i ⊎ (get_or (of_kind K g) i [] ≡ [])
  unfolding of_kind keep ofs_if
  find_nth [] i = inr refl
  find_nth (r ∷ g) i = go (is_kind K r) refl i (find_nth g)
    where
      go : (b : Bool) → is_kind K r ≡ b → (i : ℕ) → ((i : ℕ) → Found g i ⊎ (get_or (of_kind K g) i [] ≡ [])) → Found (r ∷ g) i ⊎ (get_or (ofs_if r g b) i [] ≡ [])
      go true e zero ih = inl (record { number = 0; bytes = r; nth = here (true_t e) })
      go true e (suc i) ih = at (ih i)
        where
          at : Found g i ⊎ (get_or (of_kind K g) i [] ≡ []) → Found (r ∷ g) (suc i) ⊎ (get_or (ofs_if r g true) (suc i) [] ≡ [])
          at (inl h) = inl (record { number = suc h.number; bytes = h.bytes; nth = over (true_t e) h.nth })
          at (inr q) = inr q
      go false e i ih = at (ih i)
        where
          at : Found g i ⊎ (get_or (of_kind K g) i [] ≡ []) → Found (r ∷ g) i ⊎ (get_or (ofs_if r g false) i [] ≡ [])
          at (inl h) = inl (record { number = suc h.number; bytes = h.bytes; nth = past (T_not (is_kind K r) (false_t e)) h.nth })
          at (inr q) = inr q

pub member_is : (g : ℕ → Group) (d i : ℕ) → T (member_allowed g d i) ↔ Allowed (g d) i
unfolding member_allowed
member_is g d i = (
  (λ t. go (find_nth MEMBER (g d) i) t),
  (λ h. subst (λ (r : List ℕ). T (bit 0 (flags r))) (sym (get_nth MEMBER h.member)) h.set),
)
  where
    go : Found MEMBER (g d) i ⊎ (get_or (of_kind MEMBER (g d)) i [] ≡ []) → T (bit 0 (flags (get_or (of_kind MEMBER (g d)) i []))) → Allowed (g d) i
    go (inl h) t = record { record_number = h.number; bytes = h.bytes; member = h.nth; set = subst (λ (r : List ℕ). T (bit 0 (flags r))) (get_nth MEMBER h.nth) t }
    go (inr q) t = absurd (unfold flags u16 in T_not (bit 0 0) (bit_zero 0) (subst (λ (r : List ℕ). T (bit 0 (flags r))) q t))

-- ---- types

module _ (g : ℕ → Group) (marked : (c k : ℕ) → k < 8 → T (has_marker g k c) ↔ Marked g c k) where
  pub satisfies_is : (k : ℕ) (t : Ty) → k < 8 → T (satisfies g k t) ↔ Satisfies g k t
  unfolding satisfies ty_references all
  satisfies_is k t hk = (there, back)
    where
      tested : Bool → Bool
      tested b = all (has_marker g k) (elim b as (λ (x : Bool). List ℕ) [ true ↦ t.class ∷ [] | false ↦ [] ])

      there : T (eqb t.dims 0 && tested (eqb t.code 0)) → Satisfies g k t
      there u = go (eqb t.code 0) refl (and_r (eqb t.dims 0) (tested (eqb t.code 0)) u)
        where
          plain : t.dims ≡ 0
          plain = eqb→eq t.dims 0 (and_l (eqb t.dims 0) (tested (eqb t.code 0)) u)

          go : (b : Bool) → eqb t.code 0 ≡ b → T (tested b) → Satisfies g k t
          go true e v = object plain (eqb→eq t.code 0 (true_t e)) ((marked t.class k hk).0 (and_l (has_marker g k t.class) true v))
          go false e v = primitive plain (λ z. T_not (eqb t.code 0) (false_t e) (eq→eqb z))

      back : Satisfies g k t → T (eqb t.dims 0 && tested (eqb t.code 0))
      back (object d z m) =
          t_and (eqb t.dims 0) (tested (eqb t.code 0)) (eq→eqb d)
          (subst (λ (b : Bool). T (tested b)) (sym (t_true (eqb t.code 0) (eq→eqb z))) (t_and (has_marker g k t.class) true ((marked t.class k hk).1 m) tt))
      back (primitive d z) =
          t_and (eqb t.dims 0) (tested (eqb t.code 0)) (eq→eqb d)
          (subst (λ (b : Bool). T (tested b)) (sym (t_false (eqb t.code 0) (not_T (eqb t.code 0) (λ u. z (eqb→eq t.code 0 u))))) tt)

-- ---- slots

abbrev pub final_of : SlotShape → Bool
final_of (field r) = is_final r
final_of (fixed t) = true

abbrev pub transient_of : SlotShape → Bool
transient_of (field r) = is_transient r
transient_of (fixed t) = false

-- the slot of that shape, at record k of class d
abbrev pub slot_of : ℕ → ℕ → SlotShape → Slot
slot_of d k x = record { holder = d; record_number = k; final = final_of x; transient = transient_of x; type = type_of x }

pub final_is : (x : SlotShape) → T (final_of x) ↔ Final x
final_is (field r) = ((λ t. t), (λ t. t))
final_is (fixed t) = ((λ t. t), (λ t. t))

pub transient_is : (x : SlotShape) → T (transient_of x) ↔ Transient x
transient_is (field r) = ((λ t. t), (λ t. t))
transient_is (fixed t) = ((λ t. t), (λ t. t))

-- a computed slot is one of those that a relation tells
pub record Shows (slots : List ℕ → ℕ → ℕ → SlotShape → Type 0) (w : List ℕ) (s : Slot) : Type 0 where
  pub class : ℕ
  pub number : ℕ
  pub shape : SlotShape
  pub told : slots w class number shape
  pub is : s ≡ slot_of class number shape

module _ (g : ℕ → Group) (captures : (l d i : ℕ) → Memᴰ (d, i) (captured g l) ↔ Captures g l d i) (alone : (c : ℕ) → Lone (of_kind CLASS (g c))) where
  -- ---- the slots of one class

  module _ (t : ℕ) where
    abbrev Own : List ℕ → Slot → Type 0
    Own = Shows (OwnSlot g t)

    -- the encloser first
    abbrev Enclosed : List ℕ → Slot → Type 0
    Enclosed w s = (w ≡ 0 ∷ []) × Memᴰ s (encloser_slots g t)

    enclosers_listed : Listed Enclosed (encloser_slots g t)
    unfolding encloser_slots
    enclosers_listed =
        listed_by (λ s. 0 ∷ []) (encloser_slots g t)
        (lone_sorted (λ r s. Before (0 ∷ []) (0 ∷ [])) (lone_if (is_inner (g t)) (lone_map (encloser_slot t) (enclosing_lone (g t) (alone t)))))

    -- fields in order
    abbrev Fielded : List ℕ → Slot → Type 0
    Fielded = Moved (λ (w : List ℕ) (n : ℕ × List ℕ). ((w ≡ n.0 ∷ []) × At (g t) n.0 n.1) × T (is_instance_field n.1)) (1 ∷ []) (field_slot t)

    fields_listed : Listed Fielded (field_slots g t)
    unfolding field_slots
    fields_listed = listed_map (1 ∷ []) (field_slot t) (listed_keep (λ n. is_instance_field n.1) (listed_numbered (g t)))

    -- captured variables by class and index
    variables : ℕ × ℕ → List Slot
    variables v = map (variable_slot v.0) (local_at (g v.0) v.1)

    abbrev Variable : List ℕ → Slot → Type 0
    Variable = Given (λ (w : List ℕ) (v : ℕ × ℕ). (w ≡ 2 ∷ variable_place v) × Memᴰ v (captured g t)) (λ (v : ℕ × ℕ) (u : List ℕ) (s : Slot). (u ≡ []) × Memᴰ s (variables v))

    variable_at : {w : List ℕ} {s : Slot} (q : Variable w s) → w ≡ 2 ∷ variable_place q.thing
    variable_at q = q.at ∙ ap₂ (λ (v u : List ℕ). v ++ u) q.told.0 q.gives.0

    captured_listed : Listed Variable (captured_slots g t)
    unfolding captured_slots variables local_at
    captured_listed =
        listed_gather variables 3 (λ w v h. ap length h.0)
        (λ v. listed_by (λ s. []) (variables v) (lone_sorted (λ r s. Before [] []) (lone_map (variable_slot v.0) (lone_first (drop v.1 (locals (g v.0)))))))
        (listed_by (λ v. 2 ∷ variable_place v) (captured g t)
        (sorted_weaken (λ v w. Before (variable_place v) (variable_place w)) (λ v w. Before (2 ∷ variable_place v) (2 ∷ variable_place w)) (λ v w b. same b) (captured g t) (sorted_captured g t)))

    own_sound : (w : List ℕ) (s : Slot) → Enclosed w s ⊎ (Fielded w s ⊎ Variable w s) → Own w s
    unfolding encloser_slots is_inner encloser_slot class_ty is_instance_field variables local_at locals numbers variable_slot field_slot
    own_sound w s (inl q) =
        let o = only_mem (bit 1 (flags (class_record (g t)))) (map (encloser_slot t) (enclosing (g t))) q.1 in
        let a = Memᴰ.of_map (encloser_slot t) (enclosing (g t)) o.1 in
        let x : SlotShape = fixed (record { dims = 0; code = 0; class = a.0 }) in
        record {
          class = t;
          number = 0;
          shape = x;
          told = subst (λ (w : List ℕ). OwnSlot g t w t 0 x) (sym q.0) (outer ((flag_is 1 (g t)).0 o.0) ((encloser_is (g t) a.0).0 a.1));
          is = sym a.2;
        }
    own_sound w s (inr (inl q)) =
        let k : ℕ = q.thing.0 in
        let r : List ℕ = q.thing.1 in
        record {
          class = t;
          number = k;
          shape = field r;
          told = subst (λ (w : List ℕ). OwnSlot g t w t k (field r)) (sym (q.at ∙ ap (λ (w : List ℕ). 1 ∷ w) q.told.0.0))
              (instance q.told.0.1 (and_l (is_kind FIELD r) (not (is_static r)) q.told.1) (T_not (is_static r) (and_r (is_kind FIELD r) (not (is_static r)) q.told.1)));
          is = q.is;
        }
    own_sound w s (inr (inr q)) =
        let d : ℕ = q.thing.0 in
        let i : ℕ = q.thing.1 in
        let b = Memᴰ.of_map (variable_slot d) (local_at (g d) i) q.gives.1 in
        let n = nth_sound LOCAL 0 (g d) i b.0 b.1 in
        let k : ℕ = b.0.0 in
        record {
          class = d;
          number = k;
          shape = fixed (local_ty b.0.1);
          told = subst (λ (w : List ℕ). OwnSlot g t w d k (fixed (local_ty b.0.1))) (sym (variable_at q))
              (Rattle.spec.specs.Breaks.OwnSlot.captured ((captures t d i).0 q.told.1) (subst (λ (k : ℕ). Nth LOCAL (g d) i k b.0.1) (sym (n.is ∙ zero-add n.number)) n.nth));
          is = sym b.2;
        }

    own_complete : {w : List ℕ} {d k : ℕ} {x : SlotShape} → OwnSlot g t w d k x → Enclosed w (slot_of d k x) ⊎ (Fielded w (slot_of d k x) ⊎ Variable w (slot_of d k x))
    unfolding encloser_slots is_inner encloser_slot class_ty is_instance_field variables local_at locals numbers variable_slot field_slot
    own_complete (outer {e} h n) =
        inl (refl, mem_only (bit 1 (flags (class_record (g t)))) (map (encloser_slot t) (enclosing (g t))) ((flag_is 1 (g t)).1 h) (Memᴰ.map (encloser_slot t) ((encloser_is (g t) e).1 n)))
    own_complete (instance {k} {r} a b u) =
        inr (inl (record { place = k ∷ []; thing = (k, r); told = ((refl, a), t_and (is_kind FIELD r) (not (is_static r)) b (not_T (is_static r) u)); at = refl; is = refl }))
    own_complete (Rattle.spec.specs.Breaks.OwnSlot.captured {d} {i} {k} {r} c n) =
        inr (inr (record {
          place = 2 ∷ d ∷ i ∷ [];
          thing = (d, i);
          told = (refl, (captures t d i).1 c);
          behind = [];
          gives = (refl, Memᴰ.map (variable_slot d) (subst (λ (n : ℕ). Memᴰ (n, r) (local_at (g d) i)) (zero-add k) (nth_complete LOCAL n 0)));
          at = refl;
        }))

    own_listed : Listed Own (own_slots g t)
    unfolding own_slots
    own_listed =
        listed_same
        (λ w s. (own_sound w s, (λ q. subst (λ (s : Slot). Enclosed w s ⊎ (Fielded w s ⊎ Variable w s)) (sym q.is) (own_complete q.told))))
        (listed_append after_encloser enclosers_listed (listed_append after_fields fields_listed captured_listed))
      where
        after_fields : (w v : List ℕ) (r s : Slot) → Fielded w r → Variable v s → Before w v
        after_fields w v r s p q = before_by (omega arith) p.at (variable_at q)

        after_encloser : (w v : List ℕ) (r s : Slot) → Enclosed w r → Fielded v s ⊎ Variable v s → Before w v
        after_encloser w v r s p (inl q) = before_by (omega arith) p.0 q.at
        after_encloser w v r s p (inr q) = before_by (omega arith) p.0 (variable_at q)

  -- ---- own class, then upward

  module _ (nlib : ℕ) (line : (c h t : ℕ) → nlib ≤ c → At (lineage nlib g c) h t ↔ Lineage nlib g c h t) (c : ℕ) (user : nlib ≤ c) where
    abbrev Upward : List ℕ → Slot → Type 0
    Upward = Given (λ (w : List ℕ) (t : ℕ). (h : ℕ) × (w ≡ h ∷ []) × At (lineage nlib g c) h t) Own

    upward_sound : (w : List ℕ) (s : Slot) → Upward w s → Shows (HasSlot nlib g c) w s
    upward_sound w s q =
        let o = q.gives in
        record {
          class = o.class;
          number = o.number;
          shape = o.shape;
          told = subst (λ (w : List ℕ). HasSlot nlib g c w o.class o.number o.shape) (sym (q.at ∙ ap (λ (v : List ℕ). v ++ q.behind) q.told.1))
              (of ((line c q.told.0 q.thing user).0 q.told.2) o.told);
          is = o.is;
        }

    upward_complete : {w : List ℕ} {d k : ℕ} {x : SlotShape} → HasSlot nlib g c w d k x → (s : Slot) → s ≡ slot_of d k x → Upward w s
    upward_complete (of {h} {t} {d} {k} {w} {s = x} p o) s e = record {
      place = h ∷ [];
      thing = t;
      told = (h, refl, (line c h t user).1 p);
      behind = w;
      gives = record { class = d; number = k; shape = x; told = o; is = e };
      at = refl;
    }

    pub slots_listed : Listed (Shows (HasSlot nlib g c)) (slots nlib g c)
    unfolding slots
    slots_listed =
        listed_same (λ w s. (upward_sound w s, (λ q. upward_complete q.told s q.is)))
        (listed_gather (own_slots g) 1 (λ w t h. ap length h.1) own_listed (listed_at (lineage nlib g c)))
