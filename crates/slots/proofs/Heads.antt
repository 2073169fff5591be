-- Record 0 of a class, and its captured variables: encloser and captured variables are slots that never change, so rule 9 has nothing to say of them,
-- and the others ask their types alone. The sets that the code finds by the rows tell just that.
-- Assumes nothing.
use mathlib.Core.Path.{◌≡◌, refl, sym, ap, ap₂, ◌∙◌, subst}
use mathlib.Core.Bool.{Bool, true, false, not, ◌&&◌, ◌||◌, and-true, and-false, or-true, or-false}
use mathlib.Core.List.{List, [], ◌∷◌, ◌++◌, map, append-nil}
use mathlib.Core.Logic.{◌⊎◌, inl, inr}
use mathlib.Core.Option as option
use Prim.Native.Nat.{ℕ, ◌<◌}
use native.Mathlib.Omega.{arith}
use lib.Dec.{T, leb, eqb, ltb, ltb→lt, nltb→le}
use lib.ListN.{get_or}
use borrow.Author.Tests.{lt-ltb, le-ltb}
use Rattle.std.specs.Prelude.{Option, None, Some, is_some}
use Rattle.std.specs.Option.{unwrap_or}
use Rattle.spec.specs.Lists.{any, all, keep, gather, numbered, only_if}
use Rattle.spec.specs.Record.{bit, none16, is_class, flags, encloser, unless_none, ty_references}
use Rattle.spec.specs.Sheet.{Group, class_record, is_inner, is_instance_field}
use Rattle.spec.specs.Classes.{Slot, field_slot, encloser_slot, variable_slot, class_ty, enclosing, local_at, captured, has_marker, satisfies, encloser_slots, field_slots, captured_slots, own_slots}
use Rattle.spec.specs.Rules.{slot_fault}
use Rattle.spec.specs.Refusals.{form_refusal, encloser_fits}
use Rattle.laws.proofs.Bools.{decide, t_false}
use Rattle.laws.proofs.All.{All, all_if, every_gather, every_map, any_cong}
use Rattle.theory.proofs.Somewhere.{any_append, any_map, any_keep, any_numbered, any_never, any_same, some, some_keep}
use Rattle.theory.proofs.Accept.{RecordFits, form_fits}
use Rattle.theory.proofs.Form.{one_record, class_first, group_one_class}
use Rattle.records.specs.declared.record.Head.{Head}
use Rattle.records.specs.Kinds.{optional, head_of}
use Rattle.sheets.specs.Sheets.{Pair, Passed, count, groups, library_count}
use Rattle.lanes.specs.Lanes.{words, entry_at}
use Rattle.overlay.specs.Types.{Known}
use Rattle.captured.specs.declared.Lane.{Lane}
use Rattle.captured.specs.Captured.{lane_marker, lane_place, variable_of, Shown}
use Rattle.captured.proofs.Firsts.{variable_none, variable_some, First, none, some as first}
use Rattle.captured.proofs.Meaning.{first_slot}
use Rattle.slots.specs.declared.Late.{Late}
use Rattle.slots.specs.declared.Late.TheVariants.{Immutable, Powerless, Selfless, DeepSelfless}
use Rattle.slots.specs.Slots.{rule_marker, slot_fits, captured_faults, encloser_breaks, field_breaks, slots_break, head_breaks}
use Rattle.slots.specs.Slots.{late_lane, encloser_has, unenclosed, encloser_by, lane_shows, captured_by, HeadSet}
use Rattle.slots.proofs.Base.{back, asked}
use Rattle.slots.proofs.Fields.{anywhere}
use Rattle.slots.proofs.Sets.{twice}

-- ---- slots that never change

pub record Still (s : Slot) : Type 0 where
  pub final : s.final ≡ true
  pub transient : s.transient ≡ false

-- a test that asks their types alone passes where rule 9 does
encloser_still : (g : ℕ → Group) (t : ℕ) → All Still (encloser_slots g t)
unfolding encloser_slots only_if encloser_slot
encloser_still g t =
    all_if Still (is_inner (g t)) (map (encloser_slot t) (enclosing (g t))) []
    (every_map Still (encloser_slot t) (λ e. record { final = refl; transient = refl }) (enclosing (g t))) tt

captured_still : (g : ℕ → Group) (t : ℕ) → All Still (captured_slots g t)
unfolding captured_slots variable_slot
captured_still g t =
    every_gather Still (λ v. map (variable_slot v.0) (local_at (g v.0) v.1))
    (λ v. every_map Still (variable_slot v.0) (λ n. record { final = refl; transient = refl }) (local_at (g v.0) v.1)) (captured g t)

module _ (g : ℕ → Group) where
  -- some of these slots fails the rule
  abbrev pub fails : Late → List Slot → Bool
  fails rule ss = any (λ s. not (slot_fits g rule s)) ss

  fails_selfless : (ss : List Slot) → All Still ss → fails Selfless ss ≡ false
  fails_selfless ss w =
      any_cong Still (λ s. not (slot_fits g Selfless s)) (λ s. false) (λ s w. ap not (ap₂ (λ (a b : Bool). a && not b) w.final w.transient)) ss w ∙ any_never ss

  -- a test of a slot that never changes asks its type
  abbrev pub Asks : Late → ℕ → Type 0
  Asks rule k = (s : Slot) → s.final ≡ true → s.transient ≡ false → slot_fits g rule s ≡ satisfies g k s.type

  -- the rule asks for its lane's marker, or it is rule 9, which has no lane
  pub data LaneOf (rule : Late) : Option Lane → Type 0 where
    asks : {l : Lane} → Asks rule (lane_marker l) → LaneOf rule (Some l)
    unasked : rule ≡ Selfless → LaneOf rule None

  pub lane_asked : (rule : Late) → LaneOf rule (late_lane rule)
  lane_asked Immutable = asks (λ s f t. ap (λ (b : Bool). b && satisfies g 0 s.type) f)
  lane_asked Powerless = asks (λ s f t. refl)
  lane_asked Selfless = unasked refl
  lane_asked DeepSelfless = asks (λ s f t. refl)

  fails_by : (rule : Late) (k : ℕ) → Asks rule k → (ss : List Slot) → All Still ss → fails rule ss ≡ any (λ s. not (satisfies g k s.type)) ss
  fails_by rule k h ss w = any_cong Still (λ s. not (slot_fits g rule s)) (λ s. not (satisfies g k s.type)) (λ s w. ap not (h s w.final w.transient)) ss w

  -- ---- all slots of one class

  module _ (rule : Late) (t : ℕ) where
    fields_are : fails rule (field_slots g t) ≡ any (field_breaks g rule 0 0) (g t)
    unfolding field_slots field_breaks
    fields_are =
        let ns : List (ℕ × List ℕ) = numbered 0 (g t) in
        any_map (λ s. not (slot_fits g rule s)) (field_slot t) (keep (λ (n : ℕ × List ℕ). is_instance_field n.1) ns)
        ∙ any_keep (λ (n : ℕ × List ℕ). not (slot_fits g rule (field_slot t n))) (λ n. is_instance_field n.1) ns
        ∙ any_same (λ (n : ℕ × List ℕ). field_breaks g rule t n.0 n.1) (λ n. field_breaks g rule 0 0 n.1) (λ n. sym (anywhere g rule t n.0 n.1)) ns
        ∙ any_numbered (field_breaks g rule 0 0) 0 (g t)

    -- the encloser, the captured variables and the fields
    pub own_are : ((encloser_breaks g rule t || fails rule (captured_slots g t)) || any (field_breaks g rule 0 0) (g t)) ≡ slots_break g rule t
    unfolding own_slots slots_break encloser_breaks
    own_are = sym (
        any_append (λ s. not (slot_fits g rule s)) (encloser_slots g t) (field_slots g t ++ captured_slots g t)
        ∙ ap (λ (b : Bool). fails rule (encloser_slots g t) || b) (any_append (λ s. not (slot_fits g rule s)) (field_slots g t) (captured_slots g t))
        ∙ swap (fails rule (encloser_slots g t)) (fails rule (field_slots g t)) (fails rule (captured_slots g t))
        ∙ ap (λ (b : Bool). (fails rule (encloser_slots g t) || fails rule (captured_slots g t)) || b) fields_are)
      where
        swap : (x y z : Bool) → (x || (y || z)) ≡ ((x || z) || y)
        swap true y z = refl
        swap false true true = refl
        swap false true false = refl
        swap false false true = refl
        swap false false false = refl

-- no captured variable fails rule 9
pub selfless_none : (g : ℕ → Group) (t : ℕ) → captured_faults g Selfless t ≡ []
unfolding captured_faults some
selfless_none g t = go (keep (λ s. not (slot_fits g Selfless s)) (captured_slots g t)) (some_keep _ (captured_slots g t) ∙ fails_selfless g (captured_slots g t) (captured_still g t))
  where
    go : (ss : List Slot) → some ss ≡ false → map slot_fault ss ≡ []
    go [] e = refl
    go (s ∷ ss) e = absurd (subst T e tt)

-- an inner class of an accepted sheet has an encloser
inner_encloser : (nlib c : ℕ) (r : List ℕ) → T (encloser_fits nlib c r) → unenclosed (head_of r) ≡ false
unfolding encloser_fits
inner_encloser nlib c r = go (eqb (encloser r) none16)
  where
    go : (b : Bool) → T (elim b as (λ (x : Bool). Bool) [ true ↦ not (bit 1 (flags r)) | false ↦ leb nlib c && leb nlib (encloser r) && ltb (encloser r) c ])
        → (bit 1 (flags r) && not (is_some (elim b as (λ (_ : Bool). Option ℕ) [ true ↦ None | false ↦ Some (encloser r) ]))) ≡ false
    go true f = and-true (bit 1 (flags r)) ∙ t_false (bit 1 (flags r)) f
    go false f = and-false (bit 1 (flags r))

module _ (p : Pair) {t : ℕ} (there : t < count p) where
  abbrev g : ℕ → Group
  g = groups p

  -- ---- the encloser

  module _ {head : Head} (e : head ≡ head_of (class_record (groups p t))) {markers : List ℕ} (known : Known (groups p) markers) where
    type_is : (k c : ℕ) → satisfies g k (class_ty c) ≡ bit k (get_or markers c 0)
    unfolding satisfies class_ty ty_references all has_marker
    type_is k c = and-true (has_marker g k c) ∙ sym (ap (bit k) (known.is c))

    encloser_lacks : (k : ℕ) → any (λ s. not (satisfies g k s.type)) (encloser_slots g t) ≡ not (encloser_has head markers k || unenclosed head)
    unfolding encloser_slots enclosing gather is_inner only_if encloser_slot any
    encloser_lacks k =
        let h : List ℕ → List ℕ = λ r. unless_none (encloser r) in
        let es : enclosing (g t) ≡ unless_none (encloser r) = ap (gather h) (one_record (g t) (group_one_class p.library p.user t there)) ∙ append-nil (h r) in
        go (bit 1 (flags r)) es ∙ ap (λ (x : Head). not (encloser_has x markers k || unenclosed x)) (sym e)
      where
        r : List ℕ
        r = class_record (g t)

        has : ℕ → Bool
        has c = bit k (get_or markers c 0)

        there_and : (a b : Bool) → (a && not b) ≡ not (b || not a)
        there_and true b = ap not (sym (or-false b))
        there_and false b = ap not (sym (or-true b))

        go : (b : Bool) → enclosing (g t) ≡ unless_none (encloser r)
            → any (λ s. not (satisfies g k s.type)) (elim b as (λ (_ : Bool). List Slot) [ true ↦ map (encloser_slot t) (enclosing (g t)) | false ↦ [] ])
            ≡ not ((not b || has (unwrap_or (optional (encloser r)) none16)) || (b && not (is_some (optional (encloser r)))))
        go true es =
            any_map (λ s. not (satisfies g k s.type)) (encloser_slot t) (enclosing (g t))
            ∙ ap₂ (λ (f : ℕ → Bool) (xs : List ℕ). any f xs) (λ i c. not (type_is k c i)) es
            ∙ asked has (encloser r)
            ∙ ap (λ (c : ℕ). is_some (optional (encloser r)) && not (has c)) (sym (back (encloser r)))
            ∙ there_and (is_some (optional (encloser r))) (has (unwrap_or (optional (encloser r)) none16))
        go false es = refl

    encloser_told : (rule : Late) (k : ℕ) → Asks g rule k → (encloser_has head markers k || unenclosed head) ≡ not (encloser_breaks g rule t)
    unfolding encloser_breaks
    encloser_told rule k h =
        sym (twice (encloser_has head markers k || unenclosed head)) ∙ ap not (sym (fails_by g rule k h (encloser_slots g t) (encloser_still g t) ∙ encloser_lacks k))

    -- of any sheets, accepted or not
    pub encloser_any : (rule : Late) → (encloser_by head markers rule || unenclosed head) ≡ not (encloser_breaks g rule t)
    unfolding encloser_breaks
    encloser_any rule = go (lane_asked g rule)
      where
        go : {o : Option Lane} → LaneOf g rule o
            → ((elim o as (λ (_ : Option Lane). Bool) [ None ↦ true | Some l ↦ encloser_has head markers (lane_marker l) ]) || unenclosed head) ≡ not (encloser_breaks g rule t)
        go (asks {l} h) = encloser_told rule (lane_marker l) h
        go (unasked e) = rw e (ap not (sym (fails_selfless g (encloser_slots g t) (encloser_still g t))))

    -- the set, and that a class is unenclosed, tell just what stands at record 0
    pub head_any : {set : ℕ} → HeadSet markers head (library_count p) t set → (rule : Late)
        → (bit (rule_marker rule) set || (not (ltb t (library_count p)) && unenclosed head)) ≡ not (head_breaks (library_count p) g rule t)
    unfolding head_breaks
    head_any {set} h rule = go (decide (ltb t (library_count p)))
      where
        go : T (ltb t (library_count p)) ⊎ T (not (ltb t (library_count p)))
            → (bit (rule_marker rule) set || (not (ltb t (library_count p)) && unenclosed head)) ≡ not (head_breaks (library_count p) g rule t)
        go (inl b) = let k = ltb→lt t (library_count p) b in rw (lt-ltb t (library_count p) k, head_breaks) (or-false (bit (rule_marker rule) set) ∙ ((h.root k).is g known).is rule)
        go (inr b) =
            let k = nltb→le t (library_count p) b in
            rw (le-ltb t (library_count p) k, head_breaks) (ap (λ (x : Bool). x || unenclosed head) ((h.own k).is rule) ∙ encloser_any rule)

  -- of accepted ones
  module _ (ok : form_refusal p.library p.user ≡ option.none) {head : Head} (e : head ≡ head_of (class_record (groups p t)))
      {markers : List ℕ} (known : Known (groups p) markers) where
    enclosed : unenclosed head ≡ false
    enclosed = ap unenclosed e ∙ inner_encloser (library_count p) t r (fits.0.encloser_fits fits.1)
      where
        r : List ℕ
        r = class_record (g t)

        fits : RecordFits (library_count p) (count p) g t r × T (is_class r)
        fits = class_first (RecordFits (library_count p) (count p) g t) (g t) (group_one_class p.library p.user t there) (form_fits p.library p.user ok t)

    pub encloser_is : (rule : Late) → encloser_by head markers rule ≡ not (encloser_breaks g rule t)
    encloser_is rule = rw (enclosed, or-false (encloser_by head markers rule)) at (encloser_any e known rule)

    -- the set tells just what stands at record 0
    pub head_is : {set : ℕ} → HeadSet markers head (library_count p) t set → (rule : Late) → bit (rule_marker rule) set ≡ not (head_breaks (library_count p) g rule t)
    head_is {set} h rule = rw (enclosed, and-false (not (ltb t (library_count p))), or-false (bit (rule_marker rule) set)) at (head_any e known h rule)

  -- ---- the captured variables

  module _ (x : Passed p) (ok : form_refusal p.library p.user ≡ option.none) {lanes : List ℕ} (shown : Shown (groups p) (count p) lanes) where
    -- the entry of a rule's lane is the first of those that fail
    pub first_is : (rule : Late) (lane : Lane) → Asks g rule (lane_marker lane)
        → First g t (entry_at (words lanes) (lane_place lane) t) (keep (λ s. not (slot_fits g rule s)) (captured_slots g t))
    first_is rule lane h = first_slot x ok (lane_marker lane) there (shown.lane lane t there) (λ s. slot_fits g rule s) h

    lane_told : (rule : Late) (lane : Lane) → Asks g rule (lane_marker lane) → not (lane_shows lanes t lane) ≡ not (fails g rule (captured_slots g t))
    unfolding some
    lane_told rule lane h = ap not (go (first_is rule lane h) ∙ some_keep (λ s. not (slot_fits g rule s)) (captured_slots g t))
      where
        go : {y : ℕ} {ss : List Slot} → First g t y ss → is_some (variable_of y) ≡ some ss
        go (none e q) = ap is_some (variable_none e) ∙ ap some (sym q)
        go (first e d i w q) = ap is_some (variable_some (λ z. omega (arith, there, x.few))) ∙ ap some (sym q)

    pub captured_is : (rule : Late) → captured_by lanes t rule ≡ not (fails g rule (captured_slots g t))
    captured_is rule = go (lane_asked g rule)
      where
        go : {o : Option Lane} → LaneOf g rule o → elim o as (λ (_ : Option Lane). Bool) [ None ↦ true | Some l ↦ not (lane_shows lanes t l) ] ≡ not (fails g rule (captured_slots g t))
        go (asks {l} h) = lane_told rule l h
        go (unasked e) = rw e (ap not (sym (fails_selfless g (captured_slots g t) (captured_still g t))))
