-- The computed faults of a rule, each with its place in the walk.
-- Assumes nothing.
use mathlib.Core.Path.{◌≡◌, refl, sym, ap, ◌∙◌, subst}
use mathlib.Core.Logic.{◌⊎◌, ◌↔◌}
use mathlib.Core.Bool.{Bool, not}
use mathlib.Core.List.Memᴰ
use mathlib.Core.List.{List, [], ◌∷◌, ◌++◌, Memᴰ}
use Prim.Native.Nat.{ℕ, suc}
use native.Mathlib.Omega.{arith}
use lib.Dec.{T}
use Rattle.spec.specs.Lists.{gather, only_if}
use Rattle.spec.specs.Sheet.{Group}
use Rattle.spec.specs.Classes.{Slot, slots}
use Rattle.spec.specs.Rules.{Fault, slot_fault, fault_if, faults_at, slot_faults}
use Rattle.spec.specs.Relations.{At, Before, lower}
use Rattle.spec.specs.Breaks.{SlotShape, HasSlot}
use Rattle.laws.proofs.Members.{gather_mem, mem_gather, only_mem, mem_only}
use Rattle.laws.proofs.Sorted.{Lone, single, lone_if, lone_gather, lone_sorted}
use Rattle.theory.proofs.Listed.{Listed, listed_same, listed_by, listed_keep, listed_append, listed_if, listed_map, listed_numbered, Moved}
use Rattle.theory.proofs.Slots.{slot_of, Shows}

-- the faults that p tells, by place, class and record
abbrev pub Finds : (List ℕ → ℕ → ℕ → Type 0) → List Fault → Type 0
Finds p fs = Listed (λ w f. p w f.class f.record_number) fs

pub finds_same : {p q : List ℕ → ℕ → ℕ → Type 0} {fs : List Fault} → ((w : List ℕ) (d k : ℕ) → p w d k ↔ q w d k) → Finds p fs → Finds q fs
finds_same e h = listed_same (λ w f. e w f.class f.record_number) h

-- ---- a record of the class that passes a test

pub data Spot (g : ℕ → Group) (c : ℕ) (bad : List ℕ → Bool) : List ℕ → ℕ → ℕ → Type 0 where
  spot : {k : ℕ} {r : List ℕ} → At (g c) k r → T (bad r) → Spot g c bad (k ∷ []) c k

pub finds_at : (g : ℕ → Group) (c : ℕ) (bad : List ℕ → Bool) → Finds (Spot g c bad) (faults_at g bad c)
unfolding faults_at
finds_at g c bad =
    listed_same (λ w f. (there w f, back f))
    (listed_map [] (λ n. record { class = c; record_number = n.0 }) (listed_keep (λ n. bad n.1) (listed_numbered (g c))))
  where
    made : ℕ × List ℕ → Fault
    made n = record { class = c; record_number = n.0 }

    Held : List ℕ → Fault → Type 0
    Held = Moved (λ (w : List ℕ) (n : ℕ × List ℕ). ((w ≡ n.0 ∷ []) × At (g c) n.0 n.1) × T (bad n.1)) [] made

    there : (w : List ℕ) (f : Fault) → Held w f → Spot g c bad w f.class f.record_number
    there w f q =
        subst (λ (w : List ℕ). Spot g c bad w f.class f.record_number) (sym (q.at ∙ q.told.0.0))
        (subst (λ (f : Fault). Spot g c bad (q.thing.0 ∷ []) f.class f.record_number) (sym q.is) (spot q.told.0.1 q.told.1))

    held : {w : List ℕ} {d k : ℕ} → Spot g c bad w d k → Held w (record { class = d; record_number = k })
    held (spot {k} {r} a t) = record { place = k ∷ []; thing = (k, r); told = ((refl, a), t); at = refl; is = refl }

    back : (f : Fault) {w : List ℕ} → Spot g c bad w f.class f.record_number → Held w f
    back f s = held s

-- ---- at most one fault

-- it has the place that is given
finds_lone : {fs : List Fault} (place : List ℕ) → Lone fs → Finds (λ w d k. (w ≡ place) × Memᴰ (record { class = d; record_number = k }) fs) fs
finds_lone {fs} place l = listed_by (λ f. place) fs (lone_sorted (λ e f. Before place place) l)

-- the fault at record 0 of class c
at_class : ℕ → Fault
at_class c = record { class = c; record_number = 0 }

if_lone : (b : Bool) (c : ℕ) → Lone (fault_if b c)
unfolding fault_if
if_lone b c = lone_if b single

if_is : (b : Bool) (c : ℕ) (f : Fault) → Memᴰ f (fault_if b c) ↔ (T b × (f ≡ at_class c))
unfolding fault_if at_class
if_is b c f = (
  (λ m. let o = only_mem b (at_class c ∷ []) m in (o.0, Memᴰ.eq_of_singleton o.1)),
  (λ q. mem_only b (at_class c ∷ []) q.0 (Memᴰ.head q.1)),
)

-- the class as a whole
pub data Whole (b : Bool) (c : ℕ) : List ℕ → ℕ → ℕ → Type 0 where
  whole : T b → Whole b c (0 ∷ []) c 0

pub finds_if : (b : Bool) (c : ℕ) → Finds (Whole b c) (fault_if b c)
unfolding at_class
finds_if b c = finds_same (λ w d k. (there w d k, back)) (finds_lone (0 ∷ []) (if_lone b c))
  where
    there : (w : List ℕ) (d k : ℕ) → (w ≡ 0 ∷ []) × Memᴰ (record { class = d; record_number = k }) (fault_if b c) → Whole b c w d k
    there w d k q =
        let o = (if_is b c (record { class = d; record_number = k })).0 q.1 in
        subst (λ (w : List ℕ). Whole b c w d k) (sym q.0) (subst (λ (f : Fault). Whole b c (0 ∷ []) f.class f.record_number) (sym o.1) (whole o.0))

    back : {w : List ℕ} {d k : ℕ} → Whole b c w d k → (w ≡ 0 ∷ []) × Memᴰ (record { class = d; record_number = k }) (fault_if b c)
    back (whole t) = (refl, (if_is b c (at_class c)).1 (t, refl))

-- one for each that fails a test
pub data Each (ds : List ℕ) (bad : ℕ → Bool) (class : ℕ → ℕ) (place : List ℕ) : List ℕ → ℕ → ℕ → Type 0 where
  each : {d : ℕ} → Memᴰ d ds → T (bad d) → Each ds bad class place place (class d) 0

finds_each : {ds : List ℕ} (bad : ℕ → Bool) (class : ℕ → ℕ) (place : List ℕ) → Lone ds → Finds (Each ds bad class place) (gather (λ d. fault_if (bad d) (class d)) ds)
unfolding at_class
finds_each {ds} bad class place l = finds_same (λ w d k. (there w d k, back)) (finds_lone place (lone_gather faults (λ d. if_lone (bad d) (class d)) l))
  where
    faults : ℕ → List Fault
    faults d = fault_if (bad d) (class d)

    there : (w : List ℕ) (d k : ℕ) → (w ≡ place) × Memᴰ (record { class = d; record_number = k }) (gather faults ds) → Each ds bad class place w d k
    there w d k q =
        let f : Fault = record { class = d; record_number = k } in
        let a = gather_mem faults ds f q.1 in
        let o = (if_is (bad a.source) (class a.source) f).0 a.part in
        subst (λ (w : List ℕ). Each ds bad class place w d k) (sym q.0)
        (subst (λ (f : Fault). Each ds bad class place place f.class f.record_number) (sym o.1) (each a.member o.0))

    back : {w : List ℕ} {d k : ℕ} → Each ds bad class place w d k → (w ≡ place) × Memᴰ (record { class = d; record_number = k }) (gather faults ds)
    back (each {d} m t) = (refl, mem_gather faults m ((if_is (bad d) (class d) (at_class (class d))).1 (t, refl)))

-- ---- slots

module _ (nlib : ℕ) (g : ℕ → Group) (c : ℕ) (listed : Listed (Shows (HasSlot nlib g c)) (slots nlib g c)) where
  -- a slot of a shape that fails a test
  pub data Slotted (Bad : SlotShape → Type 0) : List ℕ → ℕ → ℕ → Type 0 where
    slotted : {w : List ℕ} {d k : ℕ} {x : SlotShape} → HasSlot nlib g c w d k x → Bad x → Slotted Bad (0 ∷ w) d k

  finds_slots : (ok : Slot → Bool) (Bad : SlotShape → Type 0) → ((d k : ℕ) (x : SlotShape) → T (not (ok (slot_of d k x))) ↔ Bad x) → Finds (Slotted Bad) (slot_faults nlib g ok c)
  unfolding slot_faults slot_fault
  finds_slots ok Bad e =
      listed_same (λ w f. (there w f, back f)) (listed_map (0 ∷ []) slot_fault (listed_keep (λ s. not (ok s)) listed))
    where
      Failing : List ℕ → Fault → Type 0
      Failing = Moved (λ (w : List ℕ) (s : Slot). Shows (HasSlot nlib g c) w s × T (not (ok s))) (0 ∷ []) slot_fault

      there : (w : List ℕ) (f : Fault) → Failing w f → Slotted Bad w f.class f.record_number
      there w f q =
          let s = q.told.0 in
          let b = (e s.class s.number s.shape).0 (subst (λ (s : Slot). T (not (ok s))) s.is q.told.1) in
          subst (λ (w : List ℕ). Slotted Bad w f.class f.record_number) (sym q.at)
          (subst (λ (f : Fault). Slotted Bad (0 ∷ q.place) f.class f.record_number) (sym (q.is ∙ ap slot_fault s.is)) (slotted s.told b))

      failing : {w : List ℕ} {d k : ℕ} → Slotted Bad w d k → Failing w (record { class = d; record_number = k })
      failing (slotted {w} {d} {k} {x} h b) = record {
        place = w;
        thing = slot_of d k x;
        told = (record { class = d; number = k; shape = x; told = h; is = refl }, (e d k x).1 b);
        at = refl;
        is = refl;
      }

      back : (f : Fault) {w : List ℕ} → Slotted Bad w f.class f.record_number → Failing w f
      back f s = failing s

  -- a rule's slots, and then what else it tests, at a later place
  pub finds_judged : (b : Bool) (ok : Slot → Bool) (Bad : SlotShape → Type 0) → ((d k : ℕ) (x : SlotShape) → T (not (ok (slot_of d k x))) ↔ Bad x)
      → {ds : List ℕ} (bad : ℕ → Bool) (class : ℕ → ℕ) (a : ℕ) → Lone ds
      → Finds (λ w d k. T b × (Slotted Bad w d k ⊎ Each ds bad class (suc a ∷ []) w d k)) (only_if b (slot_faults nlib g ok c ++ gather (λ d. fault_if (bad d) (class d)) ds))
  finds_judged b ok Bad e {ds} bad class a l =
      listed_if b (listed_append (λ w v f f' p q. slots_first p q) (finds_slots ok Bad e) (finds_each bad class (suc a ∷ []) l))
    where
      slots_first : {w v : List ℕ} {d k d' k' : ℕ} → Slotted Bad w d k → Each ds bad class (suc a ∷ []) v d' k' → Before w v
      slots_first (slotted h b) (each m t) = lower (omega arith)
