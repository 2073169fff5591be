-- The search along BUILDS, from the lowest entries that each class itself wants: it finds the first variable that a class captures and whose type lacks a marker.
-- Assumes nothing.
use mathlib.Core.Path.{◌≡◌, refl, sym, ap, ap₂, ◌∙◌, subst}
use mathlib.Core.Bool.{Bool, true, false, not, ◌&&◌}
use mathlib.Core.List.Memᴰ
use mathlib.Core.List.{List, [], ◌∷◌, map, Memᴰ}
use mathlib.Core.Logic.{inl, inr, ⊎_elim, ◌≢◌, ◌↔◌}
use mathlib.Core.Option as option
use Prim.Native.Nat.{ℕ, ◌+◌, ◌*◌, ◌/◌, ◌%◌, ◌≤◌, ◌<◌}
use native.Mathlib.Decide.{ℕ_discrete}
use native.Mathlib.Omega.{arith}
use lib.Dec.{T, eqb, leb, ltb, eqb→eq, leb→le}
use lib.ListN.{length, get_or, replicate}
use Rattle.std.proofs.lemmas.List.{get_or-replicate}
use Rattle.spec.specs.Lists.{keep, numbered}
use Rattle.spec.specs.Record.{bit, none16, is_kind, CLASS, LOCAL, BUILDS, flags, encloser, target, index}
use Rattle.spec.specs.Sheet.{Group, class_record, of_kind}
use Rattle.spec.specs.Classes.{Slot, locals, satisfies, captured, captured_slots}
use Rattle.spec.specs.Relations.{Before, lower, same, Encloser, Builds, Uses, Chain, start, step, Captures}
use Rattle.spec.specs.Relations as relations
use Rattle.spec.specs.Refusals.{form_refusal, encloser_fits}
use Rattle.laws.proofs.Bools.{true_t, false_t, t_false, and_l, and_r}
use Rattle.laws.proofs.All.{All, at_member, of_members}
use Rattle.laws.proofs.Count.{keep_short, length_numbered}
use Rattle.laws.proofs.Sorted.{Sorted, sorted_keep}
use Rattle.laws.proofs.Members.{gather_mem, mem_gather, keep_mem, mem_keep, only_mem, mem_only}
use Rattle.theory.proofs.Groups.{builds_reference}
use Rattle.theory.proofs.Accept.{RecordFits, Sound}
use Rattle.theory.proofs.Form.{one_record, group_one_class, sound_falls, sound_there, sound_bound, sound_variables}
use Rattle.theory.proofs.Capture.{chain_inside, captured_is}
use Rattle.theory.proofs.CapturedOrder.{variable_place, sorted_captured}
use Rattle.groups.proofs.Few.{group_few, indexed_sound}
use Rattle.sheets.specs.Sheets.{Pair, Passed, count, groups, library_count}
use Rattle.sheets.proofs.Indexes.{indexed}
use Rattle.named.specs.declared.Along.TheVariants as along
use Rattle.named.specs.Named.{named_by}
use Rattle.lanes.specs.Lanes.{words, Nested, direct, deeper, Draws, own, via, entry_at, SeedsFit}
use Rattle.lanes.specs.Lanes as lanes
use Rattle.lanes.proofs.Words.{words_all}
use Rattle.lanes.proofs.Enclosing.{inside_lower, fits_lower}
use Rattle.lanes.proofs.Chains.{draws_fit}
use Rattle.reach.specs.Reach.{named_in, steps_of, outer_of, Closed}
use Rattle.captured.specs.declared.Lane.{Lane}
use Rattle.captured.specs.Captured.{lane_marker, lane_place, entry_of, variable_ty, first_captured, Shown}
use Rattle.captured.specs.Seeds.{Lowering, Wanted, ByClasses}
use Rattle.captured.proofs.Firsts.{There, slot_of, fail_is, First, none, some}
use Rattle.captured.proofs.Lowering.{place_low, lane_at, place_at, place_same}

-- ---- the variables of a group

locals_few : (h : Group) → length (locals h) ≤ length h
unfolding locals
locals_few h = omega (arith, keep_short (λ (n : ℕ × List ℕ). is_kind LOCAL n.1) (numbered 0 h), length_numbered 0 h)

-- a variable that comes later has a higher entry
before_low : {a b : ℕ × ℕ} → a.1 < 256 → Before (variable_place a) (variable_place b) → 256 * a.0 + a.1 ≤ 256 * b.0 + b.1
before_low h (lower l) = omega arith
before_low h (same (lower l)) = omega arith
before_low h (same (same b)) = elim b [ ]

-- ---- enclosers of accepted sheets

encloser_user : (nlib c : ℕ) (r : List ℕ) → T (encloser_fits nlib c r) → encloser r ≢ none16 → nlib ≤ encloser r
unfolding encloser_fits
encloser_user nlib c r t h = go (eqb (encloser r) none16) refl t
  where
    go : (b : Bool) → eqb (encloser r) none16 ≡ b
        → T (elim b as (λ (x : Bool). Bool) [ true ↦ not (bit 1 (flags r)) | false ↦ leb nlib c && leb nlib (encloser r) && ltb (encloser r) c ]) → nlib ≤ encloser r
    go true e t = absurd (h (eqb→eq (encloser r) none16 (true_t e)))
    go false e t = leb→le nlib (encloser r) (and_r (leb nlib c) (leb nlib (encloser r)) (and_l (leb nlib c && leb nlib (encloser r)) (ltb (encloser r) c) t))

-- a record of class m wants the entry y
pub record WantedBy (g : ℕ → Group) (k m y : ℕ) : Type 0 where
  pub bytes : List ℕ
  pub member : Memᴰ bytes (g m)
  pub wanted : Wanted g k m bytes y

module _ {p : Pair} (x : Passed p) (ok : form_refusal p.library p.user ≡ option.none) where
  abbrev g : ℕ → Group
  g = groups p

  -- both sheets are accepted
  accepted : Sound p.library p.user
  accepted = indexed_sound (indexed x) ok

  abbrev fit_of : {c : ℕ} {r : List ℕ} → Memᴰ r (g c) → RecordFits (library_count p) (count p) g c r
  fit_of {c} m = at_member (RecordFits (library_count p) (count p) g c) (g c) (accepted.fits c) m

  only_class : {m : ℕ} → m < count p → of_kind CLASS (g m) ≡ class_record (g m) ∷ []
  only_class {m} h = one_record (g m) (group_one_class p.library p.user m h)

  encloser_outer : {m e : ℕ} → m < count p → Encloser (g m) e → (outer_of g m ≡ e) × (e < m)
  unfolding outer_of of_kind
  encloser_outer {m} {e} h k =
      let w = k.said in
      let b : w.bytes ≡ class_record (g m) = Memᴰ.eq_of_singleton (subst (Memᴰ w.bytes) (only_class h) (mem_keep (is_kind CLASS) w.member w.of_kind)) in
      (ap encloser (sym b) ∙ w.is, (sound_falls p.library p.user accepted).encloser m e k)

  outer_encloser : {m e : ℕ} → m < count p → outer_of g m ≡ e → e < m → Encloser (g m) e
  unfolding outer_of of_kind
  outer_encloser {m} {e} h q l =
      let k = keep_mem (is_kind CLASS) (g m) (class_record (g m)) (subst (Memᴰ (class_record (g m))) (sym (only_class h)) (Memᴰ.head refl)) in
      record { said = record { bytes = class_record (g m); member = k.0; of_kind = k.1; is = q }; some = λ z. omega (arith, x.few) }

  -- lying inside, by the numbers and by the records
  inside_to : {d m : ℕ} → m < count p → Nested (outer_of g) d m → relations.Inside g d m
  inside_to h (direct e l) = relations.direct (outer_encloser h e l)
  inside_to h (deeper e l i) = relations.deeper (outer_encloser h e l) (inside_to (omega arith) i)

  inside_of : {d m : ℕ} → m < count p → relations.Inside g d m → Nested (outer_of g) d m
  inside_of h (relations.direct k) = let q = encloser_outer h k in direct q.0 q.1
  inside_of h (relations.deeper k i) = let q = encloser_outer h k in deeper q.0 q.1 (inside_of (omega (arith, q.1)) i)

  -- an encloser is a user class, so not class 0
  inside_some : {d m : ℕ} → relations.Inside g d m → 1 ≤ d
  inside_some (relations.direct k) =
      let w = k.said in
      omega (arith, w.is, encloser_user (library_count p) _ w.bytes ((fit_of w.member).encloser_fits w.of_kind) (λ e. k.some (sym w.is ∙ e)), x.some)
  inside_some (relations.deeper k i) = inside_some i

  -- ---- chains

  step_builds : (m : ℕ) {t : ℕ} → Memᴰ t (steps_of g along.Builds m) → Builds (g m) t
  unfolding named_in
  step_builds m {t} e =
      let a = gather_mem (named_by along.Builds) (g m) t e in
      let o = only_mem (is_kind BUILDS a.source) (target a.source ∷ []) a.part in
      record { bytes = a.source; member = a.member; of_kind = o.0; is = sym (Memᴰ.eq_of_singleton o.1) }

  builds_step : (m : ℕ) {t : ℕ} → Builds (g m) t → Memᴰ t (steps_of g along.Builds m)
  unfolding named_in
  builds_step m {t} b = mem_gather (named_by along.Builds) b.member (mem_only (is_kind BUILDS b.bytes) (target b.bytes ∷ []) b.of_kind (Memᴰ.head (sym b.is)))

  builds_below : (m : ℕ) {t : ℕ} → Builds (g m) t → t < count p
  builds_below m {t} b = sound_there p.library p.user accepted m t (builds_reference (g m) t b)

  -- one step more at the front
  chain_first : {d l t m : ℕ} → relations.Inside g d l → Builds (g l) t → Chain g d t m → Chain g d l m
  chain_first i b (start j) = step (start i) b j
  chain_first i b (step c s j) = step (chain_first i b c) s j

  chain_last : {d l m : ℕ} → Chain g d l m → relations.Inside g d m
  chain_last (start i) = i
  chain_last (step c s i) = i

  chain_below : {d l m : ℕ} → l < count p → Chain g d l m → m < count p
  chain_below h (start i) = h
  chain_below h (step {m} c s i) = builds_below m s

  -- ---- an entry is its owner and its index

  variables : (c d i : ℕ) → Uses (g c) d i → i < length (locals (g d))
  variables = sound_variables p.library p.user accepted

  index_low : (c : ℕ) {d i : ℕ} → Uses (g c) d i → i < 256
  index_low c {d} {i} u = omega (arith, variables c d i u, locals_few (g d), group_few (indexed x) d)

  use_of : {k m y : ℕ} → (w : WantedBy g k m y) → Uses (g m) (target w.bytes) (index w.bytes)
  use_of w = record { bytes = w.bytes; member = w.member; of_kind = w.wanted.uses; owner = refl; variable = refl }

  -- both are read from it
  wanted_owner : {k m y : ℕ} → (w : WantedBy g k m y) → target w.bytes ≡ y / 256
  wanted_owner w = omega (arith, w.wanted.entry, index_low _ (use_of w))

  wanted_index : {k m y : ℕ} → (w : WantedBy g k m y) → index w.bytes ≡ y % 256
  wanted_index w = omega (arith, w.wanted.entry, index_low _ (use_of w))

  wanted_inside : {k m y : ℕ} → m < count p → WantedBy g k m y → relations.Inside g (y / 256) m
  wanted_inside {m = m} hm w = subst (λ (d : ℕ). relations.Inside g d m) (wanted_owner w) (inside_to hm w.wanted.within)

  captures_is : (l d i : ℕ) → Memᴰ (d, i) (captured g l) ↔ Captures g l d i
  captures_is = captured_is g (sound_falls p.library p.user accepted) (sound_bound p.library p.user accepted) variables

  captured_there : (l : ℕ) → All (There g) (captured g l)
  captured_there l = of_members (There g) (captured g l) (λ v m. let c = (captures_is l v.0 v.1).0 m in variables c.last v.0 v.1 c.uses)

  -- what a shown entry says of the slots that fail a test of their types
  pub first_slot : (k : ℕ) {l y : ℕ} → l < count p → y ≡ first_captured g k l → (ok : Slot → Bool) → ((s : Slot) → s.final ≡ true → s.transient ≡ false → ok s ≡ satisfies g k s.type)
      → First g l y (keep (λ s. not (ok s)) (captured_slots g l))
  unfolding first_captured
  first_slot k {l} {y} hl e ok h = go (keep (λ v. not (satisfies g k (variable_ty g v))) (captured g l)) refl e (fail_is g ok k l h (captured_there l))
    where
      go : (vs : List (ℕ × ℕ)) → keep (λ v. not (satisfies g k (variable_ty g v))) (captured g l) ≡ vs
          → y ≡ get_or (map entry_of (keep (λ v. not (satisfies g k (variable_ty g v))) (captured g l))) 0 65535
          → keep (λ s. not (ok s)) (captured_slots g l) ≡ map (slot_of g) (keep (λ v. not (satisfies g k (variable_ty g v))) (captured g l)) → First g l y (keep (λ s. not (ok s)) (captured_slots g l))
      go [] q e f = none (rw q at e) (f ∙ ap (map (slot_of g)) q)
      go (v ∷ vs) q e f =
          let m = keep_mem (λ v. not (satisfies g k (variable_ty g v))) (captured g l) v (subst (Memᴰ v) (sym q) (Memᴰ.head refl)) in
          let c = (captures_is l v.0 v.1).0 m.0 in
          let b = inside_lower (inside_of hl (chain_inside g (sound_falls p.library p.user accepted) c.chain)) in
          some (rw q at e) b (index_low c.last c.uses) (variables c.last v.0 v.1 c.uses) (f ∙ ap (map (slot_of g)) q)

  -- ---- one lane, whose seeds are the lowest entries that each class itself wants

  module _ (lane : Lane) (seeds : List ℕ) (fit : (m : ℕ) → m < count p → entry_at seeds (lane_place lane) m < 65535 → WantedBy g (lane_marker lane) m (entry_at seeds (lane_place lane) m))
      (low : (m y : ℕ) → m < count p → WantedBy g (lane_marker lane) m y → entry_at seeds (lane_place lane) m ≤ y) where
    abbrev place : ℕ
    place = lane_place lane

    abbrev marker : ℕ
    marker = lane_marker lane

    abbrev DrawsAt : ℕ → ℕ → Type 0
    DrawsAt y m = Draws (steps_of g along.Builds) (outer_of g) (count p) (entry_at seeds place) y m

    draws_some : {y m : ℕ} → m < count p → y < 65535 → DrawsAt y m → 256 ≤ y
    draws_some {y} {m} hm b (own e q) = omega (arith, e, inside_some (wanted_inside hm (fit m hm (omega arith))))
    draws_some hm b (via q e ht d) = draws_some ht b d

    -- a class at the end of a chain wants y
    record Reached (l y : ℕ) : Type 0 where
      last : ℕ
      chain : Chain g (y / 256) l last
      by : WantedBy g marker last y

    fit_inside : {y m : ℕ} → m < count p → 256 ≤ y → lanes.OwnerFits (outer_of g) y m → relations.Inside g (y / 256) m
    fit_inside h z (inl e) = absurd (omega arith)
    fit_inside h z (inr i) = inside_to h i

    draws_reached : {y l : ℕ} → l < count p → y < 65535 → 256 ≤ y → DrawsAt y l → Reached l y
    draws_reached {l = l} hl hy z (own e q) =
        let u = subst (WantedBy g marker l) e (fit l hl (omega arith)) in record { last = l; chain = start (wanted_inside hl u); by = u }
    draws_reached {l = l} hl hy z (via q e ht d) =
        let r = draws_reached ht hy z d in record { last = r.last; chain = chain_first (fit_inside hl z q) (step_builds l e) r.chain; by = r.by }

    -- an entry passes down a chain inside the owner of a higher one
    chain_draws : (y v : ℕ) {l m : ℕ} → l < count p → y ≤ v → Chain g (v / 256) l m → DrawsAt y m → DrawsAt y l
    chain_draws y v hl h (start i) w = w
    chain_draws y v hl h (step {m} c s i) w =
        chain_draws y v hl h c
        (via (fits_lower h (draws_fit w) (inr (inside_of (builds_below m s) i)) (inr (inside_of (chain_below hl c) (chain_last c)))) (builds_step m s) (builds_below m s) w)

    -- ---- the result

    abbrev lacks : ℕ × ℕ → Bool
    lacks v = not (satisfies g marker (variable_ty g v))

    module _ (after : List ℕ) (least : Closed p along.Builds 3 seeds after) where
      -- an entry that stands there is a variable that is captured and lacks the marker
      there : (l : ℕ) → l < count p → entry_at after place l < 65535 → Memᴰ (entry_at after place l / 256, entry_at after place l % 256) (keep lacks (captured g l))
      there l hl v =
          let d = least.sound place l (place_low lane) hl v in
          let q = draws_reached hl v (draws_some hl v d) d in
          let y = entry_at after place l in
          let pair : (target q.by.bytes, index q.by.bytes) ≡ (y / 256, y % 256) = ap₂ (λ (a b : ℕ). (a, b)) (wanted_owner q.by) (wanted_index q.by) in
          let s : Captures g l (target q.by.bytes) (index q.by.bytes) = record {
            last = q.last;
            chain = subst (λ (c : ℕ). Chain g c l q.last) (sym (wanted_owner q.by)) q.chain;
            uses = use_of q.by;
          } in
          subst (λ (w : ℕ × ℕ). Memᴰ w (keep lacks (captured g l))) pair
          (mem_keep lacks ((captures_is l (target q.by.bytes) (index q.by.bytes)).1 s) (false_t q.by.wanted.lacking))

      -- each such variable is at least the entry of the class that uses it, and that entry passes down the chain
      from_use : {l d i : ℕ} → l < count p → (c : Captures g l d i) → satisfies g marker (variable_ty g (d, i)) ≡ false → entry_at after place l ≤ 256 * d + i
      from_use {l} {d} {i} hl c e =
          let s = c.uses in
          let m = c.last in
          let v = 256 * d + i in
          let hm = chain_below hl c.chain in
          let owner : d ≡ v / 256 = omega (arith, index_low m s) in
          let j = inside_of hm (chain_last c.chain) in
          let a = low m v hm (record {
            bytes = s.bytes;
            member = s.member;
            wanted = record {
              uses = s.of_kind;
              entry = omega (arith, s.owner, s.variable);
              lacking = ap₂ (λ (a b : ℕ). satisfies g marker (variable_ty g (a, b))) s.owner s.variable ∙ e;
              within = subst (λ (a : ℕ). Nested (outer_of g) a m) (sym s.owner) j;
            };
          }) in
          let b = inside_lower j in
          let y = entry_at seeds place m in
          let w = fit m hm (omega (arith, a, b, index_low m s, x.few)) in
          let fits : lanes.OwnerFits (outer_of g) y m = inr (subst (λ (a : ℕ). Nested (outer_of g) a m) (wanted_owner w) w.wanted.within) in
          omega (arith, a, least.least place l y (place_low lane) hl (chain_draws y v hl a (subst (λ (a : ℕ). Chain g a l m) owner c.chain) (own refl fits)))

      -- the variables that lack the marker, in their order: the entry is the first of them
      first_is : (l : ℕ) → l < count p → entry_at after place l ≤ 65535 → (vs : List (ℕ × ℕ)) → keep lacks (captured g l) ≡ vs → entry_at after place l ≡ get_or (map entry_of vs) 0 65535
      first_is l hl few [] e = go (ℕ_discrete (entry_at after place l) 65535)
        where
          go : Dec (entry_at after place l ≡ 65535) → entry_at after place l ≡ 65535
          go (yes q) = q
          go (no q) = absurd (Memᴰ.not-nil (subst (Memᴰ _) e (there l hl (omega arith))))
      first_is l hl few (v ∷ vs) e =
          let m = keep_mem lacks (captured g l) v (subst (Memᴰ v) (sym e) (Memᴰ.head refl)) in
          let c = (captures_is l v.0 v.1).0 m.0 in
          let high = from_use hl c (t_false (satisfies g marker (variable_ty g v)) m.1) in
          let b = inside_lower (inside_of (chain_below hl c.chain) (chain_last c.chain)) in
          let y = entry_at after place l in
          let at = subst (Memᴰ (y / 256, y % 256)) e (there l hl (omega (arith, high, b, chain_below hl c.chain, index_low c.last c.uses, x.few))) in
          let order = subst (Sorted (λ (a b : ℕ × ℕ). Before (variable_place a) (variable_place b))) e
          (sorted_keep (λ (a b : ℕ × ℕ). Before (variable_place a) (variable_place b)) lacks (captured g l) (sorted_captured g l)) in
          ⊎_elim (λ (q : (y / 256, y % 256) ≡ v). omega (arith, ap (λ (a : ℕ × ℕ). a.0) q, ap (λ (a : ℕ × ℕ). a.1) q))
          (λ (n : Memᴰ (y / 256, y % 256) vs). omega (arith, high, before_low (index_low c.last c.uses) (at_member _ vs order.0 n)))
          (Memᴰ.cases_cons at)

      lane_shown : (l : ℕ) → l < count p → entry_at after place l ≤ 65535 → entry_at after place l ≡ first_captured g marker l
      unfolding first_captured
      lane_shown l hl few = first_is l hl few (keep lacks (captured g l)) refl

  -- ---- all lanes, as they are seeded

  module _ {clear seeds : List ℕ} {n : ℕ} (c : clear ≡ replicate n 255) (long : n ≡ 1536) (f : Lowering (ByClasses g (count p)) (words clear) seeds) where
    none_at : (i : ℕ) → i < 768 → get_or (words clear) i 65535 ≡ 65535
    none_at i h = ap (λ (s : List ℕ). get_or s i 65535) (ap words (c ∙ ap (λ (j : ℕ). replicate j 255) long) ∙ words_all 255 768) ∙ get_or-replicate 768 i 65535 65535 h

    fit : (lane : Lane) (m : ℕ) → m < count p → entry_at seeds (lane_place lane) m < 65535 → WantedBy g (lane_marker lane) m (entry_at seeds (lane_place lane) m)
    fit lane m hm v =
        ⊎_elim (λ e. absurd (omega (arith, none_at (lane_place lane * 256 + m) (omega (arith, x.few, place_low lane)), e))) (λ q. go q) (f.from (lane_place lane * 256 + m))
      where
        go : {y : ℕ} → ByClasses g (count p) (lane_place lane * 256 + m) y → WantedBy g (lane_marker lane) m y
        go {y} q =
            let a = q.allows.allows in
            let el : a.lane ≡ lane = place_same (omega (arith, a.place, q.below, x.few)) in
            let em : q.class ≡ m = omega (arith, a.place, ap lane_place el) in
            subst (λ (j : ℕ). WantedBy g (lane_marker lane) j y) em
            (subst (λ (b : Lane). WantedBy g (lane_marker b) q.class y) el (record { bytes = q.allows.one; member = q.allows.member; wanted = a.wanted }))

    low : (lane : Lane) (m y : ℕ) → m < count p → WantedBy g (lane_marker lane) m y → entry_at seeds (lane_place lane) m ≤ y
    low lane m y hm w =
        f.low (lane_place lane * 256 + m) y
        (record { class = m; below = hm; allows = record { one = w.bytes; member = w.member; allows = record { lane = lane; place = refl; wanted = w.wanted } } })

    pub captures_fit : SeedsFit (outer_of g) (count p) 3 seeds
    unfolding SeedsFit
    captures_fit k m hk hm v =
        let e = place_at k hk in
        let w = fit (lane_at k) m hm (subst (λ (j : ℕ). entry_at seeds j m < 65535) (sym e) v) in
        inr (subst (λ (j : ℕ). Nested (outer_of g) (entry_at seeds j m / 256) m) e (subst (λ (a : ℕ). Nested (outer_of g) a m) (wanted_owner w) w.wanted.within))

    pub captures_shown : {after : List ℕ} → Closed p along.Builds 3 seeds (words after) → Shown g (count p) after
    captures_shown {after} l = record { lane = λ lane m hm. lane_shown lane seeds (fit lane) (low lane) (words after) l m hm (few lane m hm) }
      where
        few : (lane : Lane) (m : ℕ) → m < count p → entry_at (words after) (lane_place lane) m ≤ 65535
        few lane m hm =
            let i = lane_place lane * 256 + m in
            omega (arith, l.down i, f.down i, none_at i (omega (arith, x.few, place_low lane)))
