-- What acceptance gives of classes and their numbers: few classes, references that exist, lower numbers, one superclass and one root; and that the computed definitions are the relations.
-- Assumes nothing.
use mathlib.Core.Path.{◌≡◌, refl, sym, ap, ◌∙◌, subst}
use mathlib.Core.Logic.{◌⊎◌, inl, inr, ◌↔◌}
use mathlib.Core.Bool.{Bool, true, false, not, ◌&&◌, ◌||◌}
use mathlib.Core.List.Memᴰ
use mathlib.Core.List.{List, [], ◌∷◌, ◌++◌, append-nil, Memᴰ}
use mathlib.Core.Option.{none}
use Prim.Native.Nat.{ℕ, zero, suc, ◌≤◌, ◌<◌}
use native.Mathlib.Nat.{not-suc-le-zero, le_refl}
use native.Mathlib.Omega.{arith}
use lib.Dec.{T, T_not, eqb, ltb, eqb→eq, ltb→lt, nltb→le, lt→ltb, lit<}
use lib.ListN.{length, get_or, take, drop, length-append, get_or-eq_default}
use Rattle.spec.specs.Rules.{dependencies}
use Rattle.spec.specs.Verdicts.{depends_on}
use Rattle.spec.specs.Lists.{elem, any, keep, gather, numbered}
use Rattle.spec.specs.Record.{Bytes, u8, u16, bit, is_kind, is_class, flags, own_markers, superclass, target, index, none16, unless_none, references, CLASS, LOCAL}
use Rattle.spec.specs.Sheet.{Group, whole_first, records_in, records_of, groups_of, class_count, total, group, class_record, of_kind, is_interface}
use Rattle.spec.specs.Classes.{superclasses, locals, lineage_in, lineage, root_in, root}
use Rattle.spec.specs.Relations.{Depends, Superclass, References, Uses, Root}
use Rattle.spec.specs.Breaks.{Not, Flag}
use Rattle.spec.specs.Refusals.{Accepted, one_class, superclass_fits, present_refusal}
use Rattle.theory.specs.Claims.{Relations, RelationsHold, One, Form, FormHolds}
use Rattle.laws.proofs.Bools.{decide, t_and, and_l, and_r, not_or_l, not_or_r, not_or, eq→eqb, t_true, t_false}
use Rattle.laws.proofs.All.{All, all_append, all_take, all_drop, all_get, all_at, at_member, keep_yes, keep_no}
use Rattle.laws.proofs.Sorted.{Lone, empty, single}
use Rattle.theory.proofs.Cut.{in_groups, split_parts}
use Rattle.theory.proofs.Answers.{first_none}
use Rattle.theory.proofs.Accept.{RecordFits, Sound, sound}
use Rattle.theory.proofs.Groups.{superclass_is, flag_is}
use Rattle.theory.proofs.Falls.{Falls, falls}
use Rattle.theory.proofs.Overlay.{marked_sound, marked_complete}
use Rattle.theory.proofs.Lines.{inside_sound, inside_complete, lineage_is, root_is, walk_enough, lineage_library, lineage_more, root_library, root_more}
use Rattle.theory.proofs.Capture.{chain_is, captured_is, depends_is}
use Rattle.theory.proofs.CapturedOrder.{captured_order}

pub accepted_sound : (library user : List ℕ) (used : ℕ) → present_refusal library user used ≡ none → Sound library (take used user)
unfolding present_refusal
accepted_sound library user used e = sound library (take used user) (first_none _ e).1.0

-- ---- bytes

abbrev pub Byte : ℕ → Type 0
Byte b = b < 256

pub bytes_all : (s : List ℕ) → Bytes s → All Byte s
bytes_all [] h = tt
bytes_all (b ∷ s) h = (h.0, bytes_all s h.1)

records_bytes : (n : ℕ) (s : List ℕ) → All Byte s → All (All Byte) (records_in n s)
unfolding records_in
records_bytes zero s h = tt
records_bytes (suc n) s h = go (whole_first s) (records_bytes n)
  where
    go : (b : Bool) → ((s : List ℕ) → All Byte s → All (All Byte) (records_in n s))
        → All (All Byte) (elim b as (λ (c : Bool). List (List ℕ)) [ true ↦ take (u16 s 0) s ∷ records_in n (drop (u16 s 0) s) | false ↦ [] ])
    go true ih = (all_take Byte (u16 s 0) s h, ih (drop (u16 s 0) s) (all_drop Byte (u16 s 0) s h))
    go false ih = tt

group_bytes : (s : List ℕ) → All Byte s → All (All (All Byte)) (groups_of s)
unfolding records_of
group_bytes s h = in_groups (All Byte) s (records_bytes (length s) s h)

markers_low : (library user : List ℕ) → All Byte library → All Byte user → (c : ℕ) → own_markers (class_record (group library user c)) < 256
unfolding group class_record own_markers u8
markers_low library user hl hu c =
    let g : Group = get_or (groups_of library ++ groups_of user) c [] in
    let h : All (All Byte) g =
    all_get (All (All Byte)) [] (groups_of library ++ groups_of user) (all_append (All (All Byte)) (groups_of library) (groups_of user) (group_bytes library hl) (group_bytes user hu)) tt c in
    all_get Byte 0 (get_or g 0 []) (all_get (All Byte) [] g h tt 0) (lit< tt) 6

-- ---- one CLASS record

no_class_lem : (rs : List (List ℕ)) → T (not (any is_class rs)) → of_kind CLASS rs ≡ []
unfolding of_kind keep any
no_class_lem [] t = refl
no_class_lem (r ∷ rs) t = keep_no is_class r rs (t_false (is_class r) (not_or_l (is_class r) (any is_class rs) t)) ∙ no_class_lem rs (not_or_r (is_class r) (any is_class rs) t)

pub one_record : (h : Group) → T (one_class h) → of_kind CLASS h ≡ class_record h ∷ []
unfolding one_class of_kind class_record
one_record [] t = absurd t
one_record (r ∷ rs) t =
    keep_yes is_class r rs (t_true (is_class r) (and_l (is_class r) (not (any is_class rs)) t))
    ∙ ap (λ (l : List (List ℕ)). r ∷ l) (no_class_lem rs (and_r (is_class r) (not (any is_class rs)) t))

pub class_first : (P : List ℕ → Type 0) (h : Group) → T (one_class h) → All P h → P (class_record h) × T (is_class (class_record h))
unfolding one_class class_record
class_first P [] o a = absurd o
class_first P (r ∷ rs) o a = (a.0, and_l (is_class r) (not (any is_class rs)) o)

-- past the last class there is no group
pub group_past : (library user : List ℕ) (c : ℕ) → total library user ≤ c → group library user c ≡ []
unfolding group total class_count
group_past library user c h = get_or-eq_default (groups_of library ++ groups_of user) [] (omega (arith, length-append (groups_of library) (groups_of user)))

pub group_one_class : (library user : List ℕ) (c : ℕ) → c < total library user → T (one_class (group library user c))
unfolding group total class_count groups_of
group_one_class library user c h =
    all_at (λ h. T (one_class h)) [] (groups_of library ++ groups_of user)
    (all_append (λ h. T (one_class h)) (groups_of library) (groups_of user) (split_parts (records_of library)).one (split_parts (records_of user)).one)
    c (omega (arith, length-append (groups_of library) (groups_of user)))

-- at most one CLASS record, also past the last class
pub classes_lone : (library user : List ℕ) (c : ℕ) → Lone (of_kind CLASS (group library user c))
classes_lone library user c = go (decide (ltb c (total library user)))
  where
    go : T (ltb c (total library user)) ⊎ T (not (ltb c (total library user))) → Lone (of_kind CLASS (group library user c))
    go (inl t) =
        let one = one_record (group library user c) (group_one_class library user c (ltb→lt c (total library user) t)) in
        subst Lone (sym one) single
    go (inr t) = subst (λ (g : Group). Lone (of_kind CLASS g)) (sym (group_past library user c (nltb→le c (total library user) t))) (unfold of_kind keep in empty)

unless_one : (x : ℕ) → x < 256 → unless_none x ≡ x ∷ []
unfolding unless_none
unless_one x h = go (eqb x none16) (λ t. let e : x ≡ 65535 = eqb→eq x none16 t in omega arith)
  where
    go : (b : Bool) → (T b → ⊥) → ◌≡◌ {A = List ℕ} (elim b as (λ (c : Bool). List ℕ) [ true ↦ [] | false ↦ x ∷ [] ]) (x ∷ [])
    go true k = absurd (k tt)
    go false k = refl

super_one : (h : Group) → T (one_class h) → superclass (class_record h) < 256 → superclasses h ≡ superclass (class_record h) ∷ []
unfolding superclasses gather
super_one h o l =
    ap (gather (λ r. unless_none (superclass r))) (one_record h o) ∙ append-nil (unless_none (superclass (class_record h))) ∙ unless_one (superclass (class_record h)) l

-- ---- a class that is no interface

-- its one superclass is lower and no interface either
pub record Super (g : ℕ → Group) (c : ℕ) : Type 0 where
  pub only : superclasses (g c) ≡ superclass (class_record (g c)) ∷ []
  pub lower : superclass (class_record (g c)) < c
  pub concrete : T (not (is_interface (g (superclass (class_record (g c))))))

-- ---- one step up the superclasses

module _ (nlib : ℕ) (g : ℕ → Group) (f : Falls g) where
  abbrev sup : ℕ → ℕ
  sup t = superclass (class_record (g t))

  -- a walk that is found by superclasses, one step up from a user class
  step_up : (F : ℕ → ℕ → List ℕ) (start : List ℕ) (t : ℕ) → Super g t → ((m d : ℕ) → d < m → F m d ≡ F (suc d) d) → F (suc t) t ≡ start ++ gather (F t) (superclasses (g t))
      → F (suc t) t ≡ start ++ F (suc (sup t)) (sup t)
  unfolding gather
  step_up F start t u enough e =
      e ∙ ap (λ (l : List ℕ). start ++ gather (F t) l) u.only ∙ ap (λ (l : List ℕ). start ++ l) (append-nil (F t (sup t)) ∙ enough t (sup t) u.lower)

  pub lineage_up : (t : ℕ) → nlib ≤ t → Super g t → lineage nlib g t ≡ t ∷ lineage nlib g (sup t)
  unfolding lineage
  lineage_up t h u =
      step_up (lineage_in nlib g) (t ∷ []) t u
      (λ m d k. walk_enough nlib g f (lineage_in nlib g) (λ c. []) (λ c. c ∷ []) (lineage_library nlib g f) (lineage_more nlib g f) m (suc d) d k (le_refl (suc d)))
      (lineage_more nlib g f t t h)

  pub root_up : (t : ℕ) → nlib ≤ t → Super g t → root nlib g t ≡ root nlib g (sup t)
  unfolding root
  root_up t h u =
      step_up (root_in nlib g) [] t u
      (λ m d k. walk_enough nlib g f (root_in nlib g) (λ c. c ∷ []) (λ c. []) (root_library nlib g f) (root_more nlib g f) m (suc d) d k (le_refl (suc d)))
      (root_more nlib g f t t h)

module _ (nlib n : ℕ) (g : ℕ → Group) (few : n ≤ 256) (some : T (not (eqb nlib 0))) (fits : (c : ℕ) → All (RecordFits nlib n g c) (g c)) (one : (c : ℕ) → c < n → T (one_class (g c))) where
  based : (c : ℕ) (r : List ℕ) → T (not (eqb c 0 || bit 0 (flags r))) → T (superclass_fits g c r) → (superclass r < c) × T (not (is_interface (g (superclass r))))
  unfolding superclass_fits
  based c r u t = go (eqb c 0 || bit 0 (flags r)) u t
    where
      go : (b : Bool) → T (not b)
          → T (elim b as (λ (x : Bool). Bool) [ true ↦ eqb (superclass r) none16 | false ↦ ltb (superclass r) c && not (is_interface (g (superclass r))) ])
          → (superclass r < c) × T (not (is_interface (g (superclass r))))
      go true u t = absurd u
      go false u t = (ltb→lt (superclass r) c (and_l (ltb (superclass r) c) (not (is_interface (g (superclass r)))) t), and_r (ltb (superclass r) c) (not (is_interface (g (superclass r)))) t)

  positive : (c : ℕ) → nlib ≤ c → T (not (eqb c 0))
  positive c h = go (decide (eqb c 0))
    where
      go : T (eqb c 0) ⊎ T (not (eqb c 0)) → T (not (eqb c 0))
      go (inr t) = t
      go (inl t) = let z : c ≡ 0 = eqb→eq c 0 t in let y : nlib ≡ 0 = omega arith in absurd (T_not (eqb nlib 0) some (eq→eqb y))

  has_super : (c : ℕ) → nlib ≤ c → c < n → T (not (is_interface (g c))) → Super g c
  unfolding is_interface
  has_super c hl hn hi =
      let o = one c hn in
      let a = class_first (RecordFits nlib n g c) (g c) o (fits c) in
      let b = based c (class_record (g c)) (not_or (eqb c 0) (bit 0 (flags (class_record (g c)))) (positive c hl) hi) (a.0.superclass_fits a.1) in
      let l : superclass (class_record (g c)) < c = b.0 in
      record { only = super_one (g c) o (omega arith); lower = b.0; concrete = b.1 }

  record Rooted (m c : ℕ) : Type 0 where
    found : ℕ
    only : root_in nlib g m c ≡ found ∷ []

  module _ (f : Falls g) where
    up_one : (m c : ℕ) → nlib ≤ c → (u : Super g c) → root_in nlib g (suc m) c ≡ root_in nlib g m (superclass (class_record (g c)))
    unfolding gather
    up_one m c h u =
        root_more nlib g f m c h ∙ ap (gather (root_in nlib g m)) u.only ∙ append-nil (root_in nlib g m (superclass (class_record (g c))))

    -- the walk up ends at one library class
    has_root : (m c : ℕ) → c < m → c < n → T (not (is_interface (g c))) → Rooted m c
    has_root zero c h hn hi = absurd (not-suc-le-zero h)
    has_root (suc m) c h hn hi = go (decide (ltb c nlib)) (has_root m)
      where
        go : T (ltb c nlib) ⊎ T (not (ltb c nlib)) → ((d : ℕ) → d < m → d < n → T (not (is_interface (g d))) → Rooted m d) → Rooted (suc m) c
        go (inl t) ih = record { found = c; only = root_library nlib g f m c (ltb→lt c nlib t) }
        go (inr t) ih =
            let u = has_super c (nltb→le c nlib t) hn hi in
            let l : superclass (class_record (g c)) < c = u.lower in
            let r = ih (superclass (class_record (g c))) (omega arith) (omega arith) u.concrete in
            record { found = r.found; only = up_one m c (nltb→le c nlib t) u ∙ r.only }

    one_root : (c : ℕ) → nlib ≤ c → c < n → T (not (is_interface (g c))) → One (Root nlib g c)
    one_root c hl hn hi =
        let r = has_root (suc c) c (le_refl (suc c)) hn hi in
        let e : root nlib g c ≡ r.found ∷ [] = (unfold root in r.only) in
        record {
          found = r.found;
          is = (root_is nlib g f c r.found hl).0 (subst (Memᴰ r.found) (sym e) (Memᴰ.head refl));
          only = λ d h. Memᴰ.eq_of_singleton (subst (Memᴰ d) e ((root_is nlib g f c d hl).1 h));
        }

  one_super : (c : ℕ) → nlib ≤ c → c < n → T (not (is_interface (g c))) → One (Superclass (g c))
  one_super c hl hn hi =
      let u = has_super c hl hn hi in
      let s : ℕ = superclass (class_record (g c)) in
      record {
        found = s;
        is = (superclass_is (g c) s).0 (subst (Memᴰ s) (sym u.only) (Memᴰ.head refl));
        only = λ t h. Memᴰ.eq_of_singleton (subst (Memᴰ t) u.only ((superclass_is (g c) t).1 h));
      }

-- ---- two sheets

not_flag : (g : Group) → Not (Flag 0 g) → T (not (is_interface g))
unfolding is_interface
not_flag g h = go (decide (bit 0 (flags (class_record g))))
  where
    go : T (bit 0 (flags (class_record g))) ⊎ T (not (bit 0 (flags (class_record g)))) → T (not (bit 0 (flags (class_record g))))
    go (inl t) = absurd (h ((flag_is 0 g).0 t))
    go (inr t) = t

locals_length : (i : ℕ) (g : Group) → length (keep (λ (n : ℕ × List ℕ). is_kind LOCAL n.1) (numbered i g)) ≡ length (of_kind LOCAL g)
unfolding numbered keep of_kind
locals_length i [] = refl
locals_length i (r ∷ g) = go (is_kind LOCAL r) (locals_length (suc i) g)
  where
    numbers : List (ℕ × List ℕ)
    numbers = keep (λ (n : ℕ × List ℕ). is_kind LOCAL n.1) (numbered (suc i) g)

    go : (b : Bool) → length numbers ≡ length (keep (is_kind LOCAL) g)
        → length {A = ℕ × List ℕ} (elim b as (λ (c : Bool). List (ℕ × List ℕ)) [ true ↦ (i, r) ∷ numbers | false ↦ numbers ])
        ≡ length {A = List ℕ} (elim b as (λ (c : Bool). List (List ℕ)) [ true ↦ r ∷ keep (is_kind LOCAL) g | false ↦ keep (is_kind LOCAL) g ])
    go true e = ap suc e
    go false e = e

module _ (library user : List ℕ) (s : Sound library user) where
  nlib : ℕ
  nlib = class_count library

  pub sound_falls : Falls (group library user)
  sound_falls = falls (class_count library) (total library user) (group library user) s.fits

  pub sound_there : (c d : ℕ) → References (group library user c) d → d < total library user
  sound_there c d h =
      at_member (λ e. e < total library user) (references h.bytes)
      (at_member (RecordFits (class_count library) (total library user) (group library user) c) (group library user c) (s.fits c) h.member).there h.names

  pub sound_bound : (c d : ℕ) → References (group library user c) d → d < 256
  sound_bound c d h = let q : d < total library user = sound_there c d h in let w : total library user ≤ 256 = s.few in omega arith

  pub sound_variables : (c d i : ℕ) → Uses (group library user c) d i → i < length (locals (group library user d))
  unfolding locals
  sound_variables c d i h =
      let q : index h.bytes < length (of_kind LOCAL (group library user (target h.bytes))) =
      (at_member (RecordFits (class_count library) (total library user) (group library user) c) (group library user c) (s.fits c) h.member).local h.of_kind in
      subst (λ (k : ℕ). i < k) (sym (locals_length 0 (group library user d)))
      (subst (λ (e : ℕ). i < length (of_kind LOCAL (group library user e))) h.owner (subst (λ (j : ℕ). j < length (of_kind LOCAL (group library user (target h.bytes)))) h.variable q))

  pub sound_super : (c : ℕ) → class_count library ≤ c → c < total library user → T (not (is_interface (group library user c))) → Super (group library user) c
  sound_super = has_super (class_count library) (total library user) (group library user) s.few s.some s.fits (group_one_class library user)

  pub sound_form : Form (class_count library) (total library user) (group library user)
  sound_form =
      let o = group_one_class library user in
      record {
        library = library_one;
        few = s.few;
        there = sound_there;
        superclass_lower = sound_falls.superclass;
        encloser_lower = sound_falls.encloser;
        implements_lower = sound_falls.implements;
        superclass = λ c hl hn h. one_super (class_count library) (total library user) (group library user) s.few s.some s.fits o c hl hn (not_flag (group library user c) h);
        root = λ c hl hn h. one_root (class_count library) (total library user) (group library user) s.few s.some s.fits o sound_falls c hl hn (not_flag (group library user c) h);
      }
    where
      library_one : 1 ≤ class_count library
      library_one = go (class_count library) s.some
        where
          go : (k : ℕ) → T (not (eqb k 0)) → 1 ≤ k
          go zero t = absurd t
          go (suc k) t = omega arith

  module _ (low : (c : ℕ) → own_markers (class_record (group library user c)) < 256) where
    pub sound_relations : Relations (class_count library) (group library user)
    sound_relations = record {
      depends = depends_is (group library user) sound_bound;
      chain = chain_is (group library user) sound_falls sound_bound sound_variables;
      marked = λ c k h. (marked_sound (group library user) sound_falls low c k h, marked_complete (group library user) sound_falls low c k);
      inside = λ d l. (inside_sound (group library user) sound_falls d l, inside_complete (group library user) sound_falls);
      lineage = lineage_is (class_count library) (group library user) sound_falls (classes_lone library user);
      root = root_is (class_count library) (group library user) sound_falls;
      captured = captured_is (group library user) sound_falls sound_bound sound_variables;
      captured_order = captured_order (group library user);
    }

-- the test that an operation makes, and the relation
pub depends_on_lem : (library user : List ℕ) → Sound library user → (n c : ℕ) → c < total library user → T (depends_on library user n c) ↔ Depends (group library user) c n
unfolding depends_on
depends_on_lem library user s n c h =
    let e = depends_is (group library user) (sound_bound library user s) c n in
    let t : Bool = elem n (dependencies (group library user) c) in
    ((λ u. e.0 (and_r (ltb c (total library user)) t u)), (λ p. t_and (ltb c (total library user)) t (lt→ltb c (total library user) h) (e.1 p)))

pub accepted_low : (library user : List ℕ) (used : ℕ) → Accepted library user used → (c : ℕ) → own_markers (class_record (group library (take used user) c)) < 256
accepted_low library user used a =
    markers_low library (take used user) (bytes_all library a.library_bytes) (all_take Byte used user (bytes_all user a.user_bytes))

pub form_holds : FormHolds
form_holds library user used a = sound_form library (take used user) (accepted_sound library user used a.unrefused)

pub relations_hold : RelationsHold
relations_hold library user used a = sound_relations library (take used user) (accepted_sound library user used a.unrefused) (accepted_low library user used a)
