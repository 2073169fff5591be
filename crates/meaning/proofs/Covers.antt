-- What one group says of its class that another says too, at whatever place: so it is of groups that mean the same, both ways.
-- Assumes nothing.
use mathlib.Core.Path.{◌≡◌, refl, sym, ap, ◌∙◌, subst}
use mathlib.Core.Bool.{Bool, true, false}
use mathlib.Core.List.Memᴰ
use mathlib.Core.List.{List, [], ◌∷◌, ◌++◌, Memᴰ}
use Prim.Native.Nat.{ℕ, zero, suc, ◌+◌}
use lib.Dec.{T, T_not}
use lib.ListN.{length, get_or}
use Rattle.spec.specs.Lists.{keep}
use Rattle.spec.specs.Record.{kind, is_kind, CLASS, IMPLEMENTS, FIELD, LOCAL, USES, BUILDS, MEMBER, REFERS, by_kind, superclass, encloser, target, index, references, kind_fits}
use Rattle.spec.specs.Sheet.{Group, class_record, of_kind, groups_of, records_of, located_in, class_count, total, group}
use Rattle.spec.specs.Relations.{At, here, next, Says, Superclass, Encloser, Implements, Builds, Uses, Nth, here as nth_here, over as nth_over, past as nth_past, References}
use Rattle.spec.specs.Breaks.{Allowed}
use Rattle.spec.specs.Refusals.{one_class}
use Rattle.laws.proofs.Bools.{eq→eqb, true_t, false_t}
use Rattle.laws.proofs.All.{All, at_member, weaken₂}
use Rattle.laws.proofs.Members.{keep_mem, mem_keep}
use Rattle.theory.proofs.Cut.{in_groups, split_parts}
use Rattle.theory.proofs.Accept.{Clear, each_record}
use Rattle.theory.proofs.Groups.{first_record}
use Rattle.theory.proofs.Form.{one_record}
use Rattle.theory.proofs.References.{by_kind_lem, references_implements, references_uses, references_builds, references_refers}
use Rattle.meaning.specs.Meaning.{Refers, SameMeaning, SameGroups, MeanSame}

-- all that g says of its class h says too
pub record Covers (g h : Group) : Type 0 where
  pub first : {r : List ℕ} → At g 0 r → At h 0 r
  pub superclass : {s : ℕ} → Superclass g s → Superclass h s
  pub encloser : {e : ℕ} → Encloser g e → Encloser h e
  pub implements : {t : ℕ} → Implements g t → Implements h t
  pub builds : {t : ℕ} → Builds g t → Builds h t
  pub uses : {d i : ℕ} → Uses g d i → Uses h d i
  pub refers : {d i : ℕ} → Refers g d i → Refers h d i
  pub field : {r : List ℕ} → Memᴰ r g → T (is_kind FIELD r) → Memᴰ r h
  pub local : {i k : ℕ} {r : List ℕ} → Nth LOCAL g i k r → (n : ℕ) × Nth LOCAL h i n r
  pub allowed : {i : ℕ} → Allowed g i → Allowed h i
  pub references : {d : ℕ} → References g d → References h d

covers_itself : (g : Group) → Covers g g
covers_itself g = record {
  first = λ a. a;
  superclass = λ a. a;
  encloser = λ a. a;
  implements = λ a. a;
  builds = λ a. a;
  uses = λ a. a;
  refers = λ a. a;
  field = λ m t. m;
  local = λ {i} {k} n. (k, n);
  allowed = λ a. a;
  references = λ a. a;
}

-- ---- the records of a kind, where two groups have the same

kind_member : (k : ℕ) (g h : Group) → of_kind k g ≡ of_kind k h → {r : List ℕ} → Memᴰ r g → T (is_kind k r) → Memᴰ r h
unfolding of_kind
kind_member k g h e {r} m t = (keep_mem (is_kind k) h r (subst (Memᴰ r) e (mem_keep (is_kind k) m t))).0

kind_says : (k : ℕ) (f : List ℕ → ℕ) (g h : Group) → of_kind k g ≡ of_kind k h → {v : ℕ} → Says k f g v → Says k f h v
kind_says k f g h e s = record { bytes = s.bytes; member = kind_member k g h e s.member s.of_kind; of_kind = s.of_kind; is = s.is }

module _ (k : ℕ) where
  kept_if : List ℕ → Group → Bool → Group
  kept_if r g b = elim b [ true ↦ r ∷ of_kind k g | false ↦ of_kind k g ]

  -- number i of a kind stands at place i among the records of the kind
  nth_kept : {g : Group} {i n : ℕ} {r : List ℕ} → Nth k g i n r → At (of_kind k g) i r
  unfolding of_kind keep kept_if
  nth_kept (nth_here {r} {g} t) = go (is_kind k r) t
    where
      go : (b : Bool) → T b → At (kept_if r g b) 0 r
      go true u = here
      go false u = absurd u
  nth_kept (nth_over {r} {l} {g} {i} t h) = go (is_kind k l) t (nth_kept h)
    where
      go : (b : Bool) → T b → At (of_kind k g) i r → At (kept_if l g b) (suc i) r
      go true u a = next a
      go false u a = absurd u
  nth_kept (nth_past {r} {x} {g} {i} f h) = go (is_kind k x) f (nth_kept h)
    where
      go : (b : Bool) → (T b → ⊥) → At (of_kind k g) i r → At (kept_if x g b) i r
      go true u a = absurd (u tt)
      go false u a = a

  kept_nth : (g : Group) (i : ℕ) (r : List ℕ) → At (of_kind k g) i r → (n : ℕ) × Nth k g i n r
  unfolding of_kind keep kept_if
  kept_nth [] i r a = elim a [ ]
  kept_nth (x ∷ g) i r a = go (is_kind k x) refl i r a (kept_nth g)
    where
      go : (b : Bool) → is_kind k x ≡ b → (i : ℕ) (r : List ℕ) → At (kept_if x g b) i r
          → ((i : ℕ) (r : List ℕ) → At (of_kind k g) i r → (n : ℕ) × Nth k g i n r) → (n : ℕ) × Nth k (x ∷ g) i n r
      go true e zero r here ih = (0, nth_here (true_t e))
      go true e (suc i) r (next a) ih = let q = ih i r a in (suc q.0, nth_over (true_t e) q.1)
      go false e i r a ih = let q = ih i r a in (suc q.0, nth_past (T_not (is_kind k x) (false_t e)) q.1)

kind_nth : (k : ℕ) (g h : Group) → of_kind k g ≡ of_kind k h → {i n : ℕ} {r : List ℕ} → Nth k g i n r → (m : ℕ) × Nth k h i m r
kind_nth k g h e {i} {n} {r} a = kept_nth k h i r (subst (λ (l : Group). At l i r) e (nth_kept k a))

nth_member : {k : ℕ} {g : Group} {i n : ℕ} {r : List ℕ} → Nth k g i n r → Memᴰ r g × T (is_kind k r)
nth_member (nth_here t) = (Memᴰ.head refl, t)
nth_member (nth_over t h) = let q = nth_member h in (Memᴰ.tail q.0, q.1)
nth_member (nth_past f h) = let q = nth_member h in (Memᴰ.tail q.0, q.1)

-- ---- user groups

-- a record of a kind that a user sheet has
abbrev UserRecord : List ℕ → Type 0
UserRecord r = T (kind_fits 1 r)

-- that is one of seven
kind_cases : (P : Type 0) (r : List ℕ) → UserRecord r → (T (is_kind CLASS r) → P) → (T (is_kind IMPLEMENTS r) → P) → (T (is_kind FIELD r) → P) → (T (is_kind LOCAL r) → P)
    → (T (is_kind USES r) → P) → (T (is_kind BUILDS r) → P) → (T (is_kind REFERS r) → P) → P
unfolding kind_fits by_kind
kind_cases P r t class implements field local uses builds refers = go (kind r) refl t
  where
    go : (k : ℕ) → kind r ≡ k → T (get_or (false ∷ true ∷ true ∷ true ∷ true ∷ true ∷ true ∷ false ∷ true ∷ []) k false) → P
    go zero e t = absurd t
    go (suc zero) e t = class (eq→eqb e)
    go (suc (suc zero)) e t = implements (eq→eqb e)
    go (suc (suc (suc zero))) e t = field (eq→eqb e)
    go (suc (suc (suc (suc zero)))) e t = local (eq→eqb e)
    go (suc (suc (suc (suc (suc zero))))) e t = uses (eq→eqb e)
    go (suc (suc (suc (suc (suc (suc zero)))))) e t = builds (eq→eqb e)
    go (suc (suc (suc (suc (suc (suc (suc zero))))))) e t = absurd t
    go (suc (suc (suc (suc (suc (suc (suc (suc zero)))))))) e t = refers (eq→eqb e)
    go (suc (suc (suc (suc (suc (suc (suc (suc (suc k))))))))) e t = absurd t

no_member : (r : List ℕ) → UserRecord r → T (is_kind MEMBER r) → ⊥
unfolding kind_fits
no_member r f t = subst T (by_kind_lem r false _ MEMBER t) f

-- it begins with its one CLASS record, and has no record of a kind that is the library's
pub record UserGroup (g : Group) : Type 0 where
  pub one : T (one_class g)
  pub kinds : All UserRecord g

pub user_groups : (n : ℕ) (s : List ℕ) → Clear 1 n s → All UserGroup (groups_of s)
unfolding groups_of located_in
user_groups n s c =
    weaken₂ (λ g. T (one_class g)) (All UserRecord) UserGroup (λ g o k. record { one = o; kinds = k }) (groups_of s) (split_parts (records_of s)).one
    (in_groups UserRecord s (each_record UserRecord 1 (λ l e p. subst (λ (k : ℕ). T (kind_fits k l.bytes)) e p.kind_fits) 0 n 0 0 (records_of s) c.passed))

at_class : (g : Group) → T (one_class g) → At g 0 (class_record g)
unfolding one_class class_record
at_class [] t = absurd t
at_class (r ∷ g) t = here

-- a record that names just its target
target_named : {g : Group} {b : List ℕ} {d : ℕ} → Memᴰ b g → references b ≡ target b ∷ [] → target b ≡ d → References g d
target_named {g} {b} {d} m e q = record { bytes = b; member = m; names = subst (Memᴰ d) (sym e) (Memᴰ.head (sym q)) }

-- ---- groups that mean the same

module _ (g h : Group) (u : UserGroup g) (v : UserGroup h) (m : SameMeaning g h) where
  same_first : {r : List ℕ} → At g 0 r → At h 0 r
  same_first {r} a = subst (At h 0) (sym m.class ∙ first_record a) (at_class h v.one)

  same_class : of_kind CLASS g ≡ of_kind CLASS h
  same_class = one_record g u.one ∙ ap (λ (r : List ℕ). r ∷ []) m.class ∙ sym (one_record h v.one)

  same_references : {d : ℕ} → References g d → References h d
  same_references {d} n =
      kind_cases (References h d) b (at_member UserRecord g u.kinds n.member) (λ t. here_too (kind_member CLASS g h same_class n.member t))
      (by_said IMPLEMENTS references_implements (m.implements d).0) (λ t. here_too (kind_member FIELD g h m.fields n.member t))
      (λ t. here_too (kind_member LOCAL g h m.locals n.member t)) by_uses (by_said BUILDS references_builds (m.builds d).0) by_refers
    where
      b : List ℕ
      b = n.bytes

      -- the record itself stands there
      here_too : Memᴰ b h → References h d
      here_too k = record { bytes = b; member = k; names = n.names }

      -- one of the same kind that names the same class does
      is : references b ≡ target b ∷ [] → target b ≡ d
      is e = sym (Memᴰ.eq_of_singleton (subst (Memᴰ d) e n.names))

      by_said : (k : ℕ) → ((r : List ℕ) → T (is_kind k r) → references r ≡ target r ∷ []) → (Says k target g d → Says k target h d) → T (is_kind k b) → References h d
      by_said k alone says t =
          let q = says (record { bytes = b; member = n.member; of_kind = t; is = is (alone b t) }) in
          target_named q.member (alone q.bytes q.of_kind) q.is

      by_uses : T (is_kind USES b) → References h d
      by_uses t =
          let q = (m.uses d (index b)).0 (record { bytes = b; member = n.member; of_kind = t; owner = is (references_uses b t); variable = refl }) in
          target_named q.member (references_uses q.bytes q.of_kind) q.owner

      by_refers : T (is_kind REFERS b) → References h d
      by_refers t =
          let q = (m.refers d (index b)).0 (record { bytes = b; member = n.member; of_kind = t; owner = is (references_refers b t); number = refl }) in
          target_named q.member (references_refers q.bytes q.of_kind) q.owner

  same_covers : Covers g h
  same_covers = record {
    first = same_first;
    superclass = λ s. record { said = kind_says CLASS superclass g h same_class s.said; some = s.some };
    encloser = λ s. record { said = kind_says CLASS encloser g h same_class s.said; some = s.some };
    implements = λ {t} s. (m.implements t).0 s;
    builds = λ {t} s. (m.builds t).0 s;
    uses = λ {d} {i} s. (m.uses d i).0 s;
    refers = λ {d} {i} s. (m.refers d i).0 s;
    field = λ k t. kind_member FIELD g h m.fields k t;
    local = λ a. kind_nth LOCAL g h m.locals a;
    allowed = λ a. let q = nth_member a.member in absurd (no_member a.bytes (at_member UserRecord g u.kinds q.0) q.1);
    references = same_references;
  }

-- ---- two user sheets, group by group

groups_count : (gs hs : List Group) → SameGroups gs hs → length gs ≡ length hs
groups_count [] [] m = refl
groups_count [] (h ∷ hs) m = absurd m
groups_count (g ∷ gs) [] m = absurd m
groups_count (g ∷ gs) (h ∷ hs) m = ap suc (groups_count gs hs m.1)

groups_cover : (gs hs : List Group) → All UserGroup gs → All UserGroup hs → SameGroups gs hs → (c : ℕ) → Covers (get_or gs c []) (get_or hs c [])
groups_cover [] [] u v m c = covers_itself []
groups_cover [] (h ∷ hs) u v m c = absurd m
groups_cover (g ∷ gs) [] u v m c = absurd m
groups_cover (g ∷ gs) (h ∷ hs) u v m zero = same_covers g h u.0 v.0 m.0
groups_cover (g ∷ gs) (h ∷ hs) u v m (suc c) = groups_cover gs hs u.1 v.1 m.1 c

-- the library's groups are the same, and stand before them
behind_cover : (ls gs hs : List Group) → ((c : ℕ) → Covers (get_or gs c []) (get_or hs c [])) → (c : ℕ) → Covers (get_or (ls ++ gs) c []) (get_or (ls ++ hs) c [])
behind_cover [] gs hs f c = f c
behind_cover (l ∷ ls) gs hs f zero = covers_itself l
behind_cover (l ∷ ls) gs hs f (suc c) = behind_cover ls gs hs f c

pub sheets_cover : (library s t : List ℕ) → All UserGroup (groups_of s) → All UserGroup (groups_of t) → MeanSame s t → (c : ℕ) → Covers (group library s c) (group library t c)
unfolding group MeanSame
sheets_cover library s t u v m = behind_cover (groups_of library) (groups_of s) (groups_of t) (groups_cover (groups_of s) (groups_of t) u v m)

pub sheets_count : (library s t : List ℕ) → MeanSame s t → total library s ≡ total library t
unfolding MeanSame total class_count
sheets_count library s t m = ap (λ (n : ℕ). length (groups_of library) + n) (groups_count (groups_of s) (groups_of t) m)
