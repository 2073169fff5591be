-- The canonical form of a sheet means what the sheet means, and sheets that mean the same have one canonical form.
-- Assumes nothing.
use mathlib.Core.Path.{◌≡◌, refl, sym, ap, ap₂, ◌∙◌, subst}
use mathlib.Core.Logic.{◌↔◌}
use mathlib.Core.Bool.{false, not}
use mathlib.Core.List.{List, [], ◌∷◌, map, Memᴰ}
use Prim.Native.Nat.{ℕ, suc, ◌≤◌, ◌<◌}
use native.Mathlib.Nat.{le_refl}
use native.Mathlib.Omega.{arith}
use lib.Dec.{T, not_T}
use lib.ListN.{length, take, get_or, length-take}
use Rattle.spec.specs.Lists.{any, keep, concat, elem, span}
use Rattle.spec.specs.Record.{is_kind, kind_fits, target, index, CLASS, IMPLEMENTS, FIELD, LOCAL, USES, BUILDS, MEMBER, REFERS}
use Rattle.spec.specs.Sheet.{Group, groups_of, class_record, of_kind}
use Rattle.spec.specs.Relations.{Says, Uses}
use Rattle.spec.specs.Refusals.{one_class, Accepted}
use Rattle.spec.proofs.Also.{◌also◌}
use Rattle.laws.proofs.All.{All, weaken, at_member, all_get, all_map, gather_cong}
use Rattle.laws.proofs.Members.{keep_mem, mem_keep}
use Rattle.theory.proofs.Cut.{sheet_grouped, concat_concat}
use Rattle.laws.proofs.Sorted.{sorted_at}
use Rattle.theory.proofs.Form.{accepted_sound, one_record}
use Rattle.theory.proofs.References.{by_kind_lem}
use Rattle.meaning.specs.Canonical.{is_set, body_number, ascend, arranged, canonical_group, canonical}
use Rattle.meaning.specs.Meaning.{Refers, SameMeaning, SameGroups, MeanSame}
use Rattle.meaning.specs.Claims.{MeaningIsBytes, Ascending}
use Rattle.meaning.proofs.Ascend.{Strict, ascend_strict, ascend_mem, mem_ascend, Told, only_one}
use Rattle.meaning.proofs.Shaped.{Shaped, set_cases, set_length, set_length_lem, record_same, class_told, index_told, short_index, shaped_groups, one_class_lem}
use Rattle.meaning.proofs.Grouped.{keep_none, set_ascends, others_stay, of_canonical, canonical_front, forms, forms_shaped, groups_of_canonical, bytes_sum, forms_sum}

-- ---- meaning the same is symmetric and transitive

turn : {A B : Type 0} → A ↔ B → B ↔ A
turn h = (h.1, h.0)

join : {A B C : Type 0} → A ↔ B → B ↔ C → A ↔ C
join h k = ((λ a. k.0 (h.0 a)), (λ c. h.1 (k.1 c)))

pub same_turn : {g h : Group} → SameMeaning g h → SameMeaning h g
same_turn m = record {
  class = sym m.class;
  fields = sym m.fields;
  locals = sym m.locals;
  implements = λ t. turn (m.implements t);
  uses = λ d i. turn (m.uses d i);
  builds = λ t. turn (m.builds t);
  refers = λ d i. turn (m.refers d i);
}

pub same_join : {f g h : Group} → SameMeaning f g → SameMeaning g h → SameMeaning f h
same_join m n = record {
  class = m.class ∙ n.class;
  fields = m.fields ∙ n.fields;
  locals = m.locals ∙ n.locals;
  implements = λ t. join (m.implements t) (n.implements t);
  uses = λ d i. join (m.uses d i) (n.uses d i);
  builds = λ t. join (m.builds t) (n.builds t);
  refers = λ d i. join (m.refers d i) (n.refers d i);
}

groups_turn : (gs hs : List Group) → SameGroups gs hs → SameGroups hs gs
groups_turn [] [] m = tt
groups_turn [] (h ∷ hs) m = absurd m
groups_turn (g ∷ gs) [] m = absurd m
groups_turn (g ∷ gs) (h ∷ hs) m = (same_turn m.0, groups_turn gs hs m.1)

groups_join : (fs gs hs : List Group) → SameGroups fs gs → SameGroups gs hs → SameGroups fs hs
groups_join [] [] hs m n = n
groups_join [] (g ∷ gs) hs m n = absurd m
groups_join (f ∷ fs) [] hs m n = absurd m
groups_join (f ∷ fs) (g ∷ gs) [] m n = absurd n
groups_join (f ∷ fs) (g ∷ gs) (h ∷ hs) m n = (same_join m.0 n.0, groups_join fs gs hs m.1 n.1)

pub mean_turn : (s t : List ℕ) → MeanSame s t → MeanSame t s
unfolding MeanSame
mean_turn s t m = groups_turn (groups_of s) (groups_of t) m

pub mean_join : (s t u : List ℕ) → MeanSame s t → MeanSame t u → MeanSame s u
unfolding MeanSame
mean_join s t u m n = groups_join (groups_of s) (groups_of t) (groups_of u) m n

-- ---- records of a kind

module _ (g : Group) where
  of_kind_lem : (k : ℕ) {r : List ℕ} → Memᴰ r (of_kind k g) → Memᴰ r g × T (is_kind k r)
  unfolding of_kind
  of_kind_lem k {r} m = keep_mem (is_kind k) g r m

  in_kind : (k : ℕ) {r : List ℕ} → Memᴰ r g → T (is_kind k r) → Memᴰ r (of_kind k g)
  unfolding of_kind
  in_kind k m t = mem_keep (is_kind k) m t

  module _ (s : All Shaped g) where
    told : (k : ℕ) → T (is_set k) → Told (of_kind k g)
    told k t a b m n e =
        let x = of_kind_lem k m in
        let y = of_kind_lem k n in
        let p : Shaped a = at_member Shaped g s x.0 in
        let q : Shaped b = at_member Shaped g s y.0 in
        record_same k a b t p q x.1 y.1 (class_told a b p.bytes q.bytes e) (index_told a b p.bytes q.bytes e)

    -- the records of a set are those that ascend
    mem_row : (k : ℕ) → T (is_set k) → {r : List ℕ} → Memᴰ r g → T (is_kind k r) → Memᴰ r (ascend (of_kind k g))
    mem_row k t m u = mem_ascend (of_kind k g) (told k t) (in_kind k m u)

  row_mem : (k : ℕ) {r : List ℕ} → Memᴰ r (ascend (of_kind k g)) → Memᴰ r g × T (is_kind k r)
  row_mem k m = of_kind_lem k (ascend_mem (of_kind k g) m)

-- the kinds of the sets are among the eight
low : (k : ℕ) → T (is_set k) → 1 ≤ k
low = set_cases (λ k. 1 ≤ k) (omega arith) (omega arith) (omega arith) (omega arith)

high : (k : ℕ) → T (is_set k) → k ≤ 8
high = set_cases (λ k. k ≤ 8) (omega arith) (omega arith) (omega arith) (omega arith)

-- ---- a group and its canonical form

-- of two groups, each record of a kind in the one is in the other too
abbrev Within : ℕ → Group → Group → Type 0
Within k g h = (r : List ℕ) → T (is_kind k r) → Memᴰ r g → Memᴰ r h

module _ (g h : Group) where
  says_within : (k : ℕ) (f : List ℕ → ℕ) (v : ℕ) → Within k g h → Says k f g v → Says k f h v
  says_within k f v w s = record { bytes = s.bytes; member = w s.bytes s.of_kind s.member; of_kind = s.of_kind; is = s.is }

  uses_within : (d i : ℕ) → Within USES g h → Uses g d i → Uses h d i
  uses_within d i w s = record { bytes = s.bytes; member = w s.bytes s.of_kind s.member; of_kind = s.of_kind; owner = s.owner; variable = s.variable }

  refers_within : (d i : ℕ) → Within REFERS g h → Refers g d i → Refers h d i
  refers_within d i w s = record { bytes = s.bytes; member = w s.bytes s.of_kind s.member; of_kind = s.of_kind; owner = s.owner; number = s.number }

module _ (g : Group) (s : All Shaped g) where
  row_of_form : (k : ℕ) → T (is_set k) → of_kind k (canonical_group g) ≡ ascend (of_kind k g)
  row_of_form k t = of_canonical g s k (low k t) (high k t) ∙ set_ascends g k t

  in_form : (k : ℕ) → T (is_set k) → Within k g (canonical_group g)
  in_form k t r u m = (of_kind_lem (canonical_group g) k (subst (λ (l : Group). Memᴰ r l) (sym (row_of_form k t)) (mem_row g s k t m u))).0

  of_form : (k : ℕ) → T (is_set k) → Within k (canonical_group g) g
  of_form k t r u m = (row_mem g k (subst (λ (l : Group). Memᴰ r l) (row_of_form k t) (in_kind (canonical_group g) k m u))).0

  stays : (k : ℕ) → T (not (is_set k)) → 1 ≤ k → k ≤ 8 → of_kind k g ≡ of_kind k (canonical_group g)
  stays k t a b = sym (of_canonical g s k a b ∙ others_stay g k t)

  pub form_means : T (one_class g) → SameMeaning g (canonical_group g)
  unfolding is_set elem any class_record
  form_means o =
      let c : Group = canonical_group g in
      record {
        class = sym (ap class_record (canonical_front g o));
        fields = stays FIELD tt (omega arith) (omega arith);
        locals = stays LOCAL tt (omega arith) (omega arith);
        implements = λ t. (says_within g c IMPLEMENTS target t (in_form IMPLEMENTS tt), says_within c g IMPLEMENTS target t (of_form IMPLEMENTS tt));
        uses = λ d i. (uses_within g c d i (in_form USES tt), uses_within c g d i (of_form USES tt));
        builds = λ t. (says_within g c BUILDS target t (in_form BUILDS tt), says_within c g BUILDS target t (of_form BUILDS tt));
        refers = λ d i. (refers_within g c d i (in_form REFERS tt), refers_within c g d i (of_form REFERS tt));
      }

-- ---- groups that mean the same have one canonical form

module _ (g h : Group) (p : All Shaped g) (q : All Shaped h) where
  -- a record of a set that says the same as one of the other group is that one
  found : (k : ℕ) → T (is_set k) → {r : List ℕ} → Memᴰ r g → T (is_kind k r)
      → {s : List ℕ} → Memᴰ s h → T (is_kind k s) → target s ≡ target r → index s ≡ index r → Memᴰ r h
  found k t {r} m u {s} n v a b =
      subst (λ (x : List ℕ). Memᴰ x h) (record_same k s r t (at_member Shaped h q n) (at_member Shaped g p m) v u a b) n

  -- so each record of a set is in the other group where that set holds what this one holds; where a record is six bytes long it has no index
  short_within : (k : ℕ) → T (is_set k) → set_length k ≡ 6 → ((v : ℕ) → Says k target g v → Says k target h v) → Within k g h
  short_within k t l f r u m =
      let s = f (target r) (record { bytes = r; member = m; of_kind = u; is = refl }) in
      let a = short_index s.bytes (set_length_lem k t s.bytes s.of_kind (at_member Shaped h q s.member).length_fits ∙ l) in
      let b = short_index r (set_length_lem k t r u (at_member Shaped g p m).length_fits ∙ l) in
      found k t m u s.member s.of_kind s.is (a ∙ sym b)

  used_within : ((d i : ℕ) → Uses g d i → Uses h d i) → Within USES g h
  unfolding is_set elem any
  used_within f r u m =
      let s = f (target r) (index r) (record { bytes = r; member = m; of_kind = u; owner = refl; variable = refl }) in
      found USES tt m u s.member s.of_kind s.owner s.variable

  referred_within : ((d i : ℕ) → Refers g d i → Refers h d i) → Within REFERS g h
  unfolding is_set elem any
  referred_within f r u m =
      let s = f (target r) (index r) (record { bytes = r; member = m; of_kind = u; owner = refl; number = refl }) in
      found REFERS tt m u s.member s.of_kind s.owner s.number

  row_within : (k : ℕ) → T (is_set k) → Within k g h → (r : List ℕ) → Memᴰ r (ascend (of_kind k g)) → Memᴰ r (ascend (of_kind k h))
  row_within k t w r m = let x = row_mem g k m in mem_row h q k t (w r x.1 x.0) x.1

-- a user sheet has no MEMBER record
no_members : (g : Group) → All Shaped g → of_kind MEMBER g ≡ []
unfolding of_kind kind_fits
no_members g s =
    keep_none (is_kind MEMBER) g
    (weaken Shaped (λ r. T (not (is_kind MEMBER r))) (λ r p. not_T (is_kind MEMBER r) (λ t. subst T (by_kind_lem r false _ MEMBER t) p.kind_fits)) g s)

module _ (g h : Group) (p : All Shaped g) (q : All Shaped h) where
  rows_same : (k : ℕ) → T (is_set k) → Within k g h → Within k h g → arranged k g ≡ arranged k h
  rows_same k t v w =
      let a = of_kind k g in
      let b = of_kind k h in
      set_ascends g k t
      ∙ only_one (ascend a) (ascend b) (ascend_strict a) (ascend_strict b) (row_within g h p q k t v) (row_within h g q p k t w)
      ∙ sym (set_ascends h k t)

  others_same : (k : ℕ) → T (not (is_set k)) → of_kind k g ≡ of_kind k h → arranged k g ≡ arranged k h
  others_same k t e = others_stay g k t ∙ e ∙ sym (others_stay h k t)

  pub forms_same : T (one_class g) → T (one_class h) → SameMeaning g h → canonical_group g ≡ canonical_group h
  unfolding canonical_group span is_set elem any
  forms_same a b m =
      gather_cong (λ k. arranged k g ≡ arranged k h) (λ k. arranged k g) (λ k. arranged k h) (λ k e. e) (span 1 8) (
      others_same CLASS tt (one_record g a ∙ ap (λ (r : List ℕ). r ∷ []) m.class ∙ sym (one_record h b))
      also rows_same IMPLEMENTS tt (short_within g h p q IMPLEMENTS tt refl (λ v. (m.implements v).0)) (short_within h g q p IMPLEMENTS tt refl (λ v. (m.implements v).1))
      also others_same FIELD tt m.fields
      also others_same LOCAL tt m.locals
      also rows_same USES tt (used_within g h p q (λ d i. (m.uses d i).0)) (used_within h g q p (λ d i. (m.uses d i).1))
      also rows_same BUILDS tt (short_within g h p q BUILDS tt refl (λ v. (m.builds v).0)) (short_within h g q p BUILDS tt refl (λ v. (m.builds v).1))
      also others_same MEMBER tt (no_members g p ∙ sym (no_members h q))
      also rows_same REFERS tt (referred_within g h p q (λ d i. (m.refers d i).0)) (referred_within h g q p (λ d i. (m.refers d i).1))
      also tt
      )

-- ---- sheets

-- the records of each group are those of a user sheet
abbrev pub Fine : List Group → Type 0
Fine gs = All (All Shaped) gs

abbrev Opened : List Group → Type 0
Opened gs = All (λ g. T (one_class g)) gs

all_mean : (gs : List Group) → Fine gs → Opened gs → SameGroups gs (map canonical_group gs)
all_mean [] s o = tt
all_mean (g ∷ gs) s o = (form_means g s.0 o.0, all_mean gs s.1 o.1)

all_same : (gs hs : List Group) → Fine gs → Fine hs → Opened gs → Opened hs → SameGroups gs hs → map canonical_group gs ≡ map canonical_group hs
all_same [] [] p q a b m = refl
all_same [] (h ∷ hs) p q a b m = absurd m
all_same (g ∷ gs) [] p q a b m = absurd m
all_same (g ∷ gs) (h ∷ hs) p q a b m =
    ap₂ (λ (x : Group) (xs : List Group). x ∷ xs) (forms_same g h p.0 q.0 a.0 b.0 m.0) (all_same gs hs p.1 q.1 a.1 b.1 m.1)

pub same_bytes : (s t : List ℕ) → Fine (groups_of s) → Fine (groups_of t) → MeanSame s t → canonical s ≡ canonical t
unfolding MeanSame canonical
same_bytes s t p q m = ap (λ (hs : List Group). concat (concat hs)) (all_same (groups_of s) (groups_of t) p q (one_class_lem s) (one_class_lem t) m)

module _ (s : List ℕ) (p : Fine (groups_of s)) where
  pub sheet_means : MeanSame s (canonical s)
  unfolding MeanSame
  sheet_means = subst (SameGroups (groups_of s)) (sym (groups_of_canonical s p)) (all_mean (groups_of s) p (one_class_lem s))

  pub canonical_fine : Fine (groups_of (canonical s))
  canonical_fine = subst Fine (sym (groups_of_canonical s p)) (forms_shaped s p)

  pub sheet_twice : canonical (canonical s) ≡ canonical s
  sheet_twice = sym (same_bytes s (canonical s) p canonical_fine sheet_means)

-- ---- the sets ascend, one record after the other

form_ascends : (g : Group) → All Shaped g → Ascending (canonical_group g)
form_ascends g p k t i r s a b =
    sorted_at (λ r s. body_number r < body_number s) a b (le_refl (suc i)) (subst Strict (sym (row_of_form g p k t)) (ascend_strict (of_kind k g)))

none_ascends : Ascending []
unfolding of_kind keep
none_ascends k t i r s a b = elim a [ ]

-- ---- accepted sheets

module _ (library user : List ℕ) (used : ℕ) (a : Accepted library user used) where
  pub canonical_means : MeanSame (take used user) (canonical (take used user))
  canonical_means = sheet_means (take used user) (shaped_groups library user used a)

  pub canonical_twice : canonical (canonical (take used user)) ≡ canonical (take used user)
  canonical_twice = sheet_twice (take used user) (shaped_groups library user used a)

  -- what was whole groups is not longer in its form
  pub canonical_short : length (canonical (take used user)) ≤ used
  unfolding canonical
  canonical_short =
      let s = take used user in
      let gs : List Group = groups_of s in
      let u = (accepted_sound library user used a.unrefused).user_sheet in
      omega (
        arith,
        bytes_sum (concat (map canonical_group gs)),
        forms_sum length gs,
        bytes_sum (concat gs),
        ap length (sym (concat_concat gs) ∙ sheet_grouped s u.end u.loose),
        length-take used user,
      )

  pub canonical_ascends : (i : ℕ) → Ascending (get_or (groups_of (canonical (take used user))) i [])
  canonical_ascends i =
      let s = take used user in
      let p = shaped_groups library user used a in
      subst (λ (hs : List Group). Ascending (get_or hs i [])) (sym (groups_of_canonical s p))
      (all_get {A = Group} Ascending [] (forms s) (all_map (All Shaped) Ascending canonical_group form_ascends (groups_of s) p) none_ascends i)

pub meaning_is_bytes : MeaningIsBytes
meaning_is_bytes library user used a user' used' a' =
    let s = take used user in
    let t = take used' user' in
    let p = shaped_groups library user used a in
    let q = shaped_groups library user' used' a' in (
      (λ m. same_bytes s t p q m),
      (λ e. mean_join s (canonical t) t (subst (λ (x : List ℕ). MeanSame s x) e (sheet_means s p)) (mean_turn t (canonical t) (sheet_means t q))),
    )
