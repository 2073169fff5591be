-- Enclosers, superclasses and root: each computed list holds what its relation says, and that of superclasses in its order.
-- Assumes nothing.
use mathlib.Core.Path.{◌≡◌, refl, sym, ap, ◌∙◌, subst}
use mathlib.Core.Logic.{◌⊎◌, inl, inr, ◌↔◌}
use mathlib.Core.Bool.{Bool, true, false, not}
use mathlib.Core.List.Memᴰ
use mathlib.Core.List.{List, [], ◌∷◌, ◌++◌, Memᴰ}
use Prim.Native.Nat.{ℕ, zero, suc, ◌≤◌, ◌<◌}
use native.Mathlib.Nat.{le_refl, not-suc-le-zero}
use native.Mathlib.Omega.{arith}
use lib.Dec.{T, ltb, ltb→lt, nltb→le, lt→ltb}
use Rattle.spec.specs.Lists.{gather}
use Rattle.spec.specs.Record.{CLASS}
use Rattle.spec.specs.Sheet.{Group, of_kind}
use Rattle.spec.specs.Classes.{superclasses, enclosing, enclosers_in, enclosers, inside, lineage_in, lineage, root_in, root}
use Rattle.spec.specs.Relations.{At, here, next, Superclass, Encloser, self, Lineage, up, Root, Inside, direct, deeper}
use Rattle.laws.proofs.Bools.{decide, nltb, t_true, t_false}
use Rattle.laws.proofs.All.{All, of_members, gather_cong}
use Rattle.laws.proofs.Members.{elem_mem, mem_elem, gather_mem, mem_gather, at_in, in_at}
use Rattle.laws.proofs.Sorted.{Lone, empty, single, lone_gather, lone_at, at_lone}
use Rattle.theory.proofs.Groups.{superclass_is, encloser_is, superclasses_lone}
use Rattle.theory.proofs.Falls.{Falls}

module _ (g : ℕ → Group) (f : Falls g) where
  -- ---- lying inside

  pub enclosers_inside : (n c d : ℕ) → Memᴰ d (enclosers_in g n c) → Inside g d c
  unfolding enclosers_in
  enclosers_inside zero c d m = absurd (Memᴰ.not-nil m)
  enclosers_inside (suc n) c d m =
      let r = gather_mem (λ e. e ∷ enclosers_in g n e) (enclosing (g c)) d m in
      go r.source ((encloser_is (g c) r.source).0 r.member) (Memᴰ.cases_cons r.part) (enclosers_inside n r.source d)
    where
      go : (e : ℕ) → Encloser (g c) e → (d ≡ e) ⊎ Memᴰ d (enclosers_in g n e) → (Memᴰ d (enclosers_in g n e) → Inside g d e) → Inside g d c
      go e h (inl q) ih = direct (subst (Encloser (g c)) (sym q) h)
      go e h (inr k) ih = deeper h (ih k)

  pub inside_enclosers : {d c : ℕ} → Inside g d c → (n : ℕ) → c < n → Memᴰ d (enclosers_in g n c)
  unfolding enclosers_in
  inside_enclosers {d} {c} i zero h = absurd (not-suc-le-zero h)
  inside_enclosers {d} (direct {l = c} m) (suc n) h = mem_gather (λ e. e ∷ enclosers_in g n e) ((encloser_is (g c) d).1 m) (Memᴰ.head refl)
  inside_enclosers {d} (deeper {l = c} {e} m i) (suc n) h =
      mem_gather (λ e. e ∷ enclosers_in g n e) ((encloser_is (g c) e).1 m)
      (Memᴰ.tail (inside_enclosers i n (let q : e < c = f.encloser c e m in omega arith)))

  pub inside_sound : (d l : ℕ) → T (inside g d l) → Inside g d l
  unfolding inside enclosers
  inside_sound d l t = enclosers_inside (suc l) l d (mem_elem d (enclosers_in g (suc l) l) t)

  pub inside_complete : {d l : ℕ} → Inside g d l → T (inside g d l)
  unfolding inside enclosers
  inside_complete {d} {l} i = elem_mem (inside_enclosers i (suc l) (le_refl (suc l)))

  pub inside_lower : {d l : ℕ} → Inside g d l → d < l
  inside_lower {d} (direct {l} h) = f.encloser l d h
  inside_lower {d} (deeper {l} {e} h i) = let q : e < l = f.encloser l e h in let p : d < e = inside_lower i in omega arith

module _ (nlib : ℕ) (g : ℕ → Group) (f : Falls g) where
  -- ---- superclasses and root

  -- one step more at the lower end of a line of superclasses
  pub lineage_prepend : {c s h t : ℕ} → Superclass (g c) s → nlib ≤ s → Lineage nlib g s h t → Lineage nlib g c (suc h) t
  lineage_prepend a l self = up self a l
  lineage_prepend a l (up p q k) = up (lineage_prepend a l p) q k

  -- a line's first step, and what is left of it
  record Step (c h t : ℕ) : Type 0 where
    base : ℕ
    above : Superclass (g c) base
    user : nlib ≤ base
    rest : Lineage nlib g base h t

  first_step : {c h t : ℕ} → Lineage nlib g c (suc h) t → Step c h t
  first_step (up {t} self q k) = record { base = t; above = q; user = k; rest = self }
  first_step (up (up p a l) q k) = let r = first_step (up p a l) in record { base = r.base; above = r.above; user = r.user; rest = up r.rest q k }

  no_step : {c t : ℕ} → Lineage nlib g c 0 t → t ≡ c
  no_step self = refl

  pub lineage_user : {c h t : ℕ} → nlib ≤ c → Lineage nlib g c h t → nlib ≤ t
  lineage_user h self = h
  lineage_user h (up p q k) = k

  pub lineage_low : {c h t : ℕ} → Lineage nlib g c h t → t ≤ c
  lineage_low {c} self = le_refl c
  lineage_low (up {s} {t} p a k) = let q : t < s = f.superclass s t a in let r = lineage_low p in omega arith

  supers_lower : (c : ℕ) → All (λ e. e < c) (superclasses (g c))
  supers_lower c = of_members (λ e. e < c) (superclasses (g c)) (λ e m. f.superclass c e ((superclass_is (g c) e).0 m))

  -- a walk up the superclasses that ends at the library, as the lineage and the root are found
  module _ (F : ℕ → ℕ → List ℕ) (stop start : ℕ → List ℕ) (at_library : (n c : ℕ) → c < nlib → F (suc n) c ≡ stop c)
      (at_user : (n c : ℕ) → nlib ≤ c → F (suc n) c ≡ start c ++ gather (F n) (superclasses (g c))) where
    pub walk_enough : (n m c : ℕ) → c < n → c < m → F n c ≡ F m c
    walk_enough zero m c h k = absurd (not-suc-le-zero h)
    walk_enough (suc n) zero c h k = absurd (not-suc-le-zero k)
    walk_enough (suc n) (suc m) c h k = go (decide (ltb c nlib)) (λ e q. walk_enough n m e (omega arith) (omega arith))
      where
        go : T (ltb c nlib) ⊎ T (not (ltb c nlib)) → ((e : ℕ) → e < c → F n e ≡ F m e) → F (suc n) c ≡ F (suc m) c
        go (inl t) ih = at_library n c (ltb→lt c nlib t) ∙ sym (at_library m c (ltb→lt c nlib t))
        go (inr t) ih =
            at_user n c (nltb→le c nlib t)
            ∙ ap (λ (l : List ℕ). start c ++ l) (gather_cong (λ e. e < c) (F n) (F m) ih (superclasses (g c)) (supers_lower c))
            ∙ sym (at_user m c (nltb→le c nlib t))

  pub lineage_library : (n c : ℕ) → c < nlib → lineage_in nlib g (suc n) c ≡ []
  unfolding lineage_in
  lineage_library n c h =
      ap (λ (b : Bool). elim b as (λ (x : Bool). List ℕ) [ true ↦ [] | false ↦ c ∷ gather (lineage_in nlib g n) (superclasses (g c)) ]) (t_true (ltb c nlib) (lt→ltb c nlib h))

  pub lineage_more : (n c : ℕ) → nlib ≤ c → lineage_in nlib g (suc n) c ≡ c ∷ gather (lineage_in nlib g n) (superclasses (g c))
  unfolding lineage_in
  lineage_more n c h =
      ap (λ (b : Bool). elim b as (λ (x : Bool). List ℕ) [ true ↦ [] | false ↦ c ∷ gather (lineage_in nlib g n) (superclasses (g c)) ]) (t_false (ltb c nlib) (nltb c nlib h))

  pub root_library : (n c : ℕ) → c < nlib → root_in nlib g (suc n) c ≡ c ∷ []
  unfolding root_in
  root_library n c h =
      ap (λ (b : Bool). elim b as (λ (x : Bool). List ℕ) [ true ↦ c ∷ [] | false ↦ gather (root_in nlib g n) (superclasses (g c)) ]) (t_true (ltb c nlib) (lt→ltb c nlib h))

  pub root_more : (n c : ℕ) → nlib ≤ c → root_in nlib g (suc n) c ≡ gather (root_in nlib g n) (superclasses (g c))
  unfolding root_in
  root_more n c h =
      ap (λ (b : Bool). elim b as (λ (x : Bool). List ℕ) [ true ↦ c ∷ [] | false ↦ gather (root_in nlib g n) (superclasses (g c)) ]) (t_false (ltb c nlib) (nltb c nlib h))

  -- ---- a line, in a class's list

  module _ (alone : (c : ℕ) → Lone (of_kind CLASS (g c))) where
    -- only a user class has a line
    line_user : (n c : ℕ) {h t : ℕ} → At (lineage_in nlib g n c) h t → nlib ≤ c
    unfolding lineage_in
    line_user zero c a = elim a [ ]
    line_user (suc n) c {h} {t} a = go (decide (ltb c nlib))
      where
        none : {h t : ℕ} → At {A = ℕ} [] h t → nlib ≤ c
        none a = elim a [ ]

        go : T (ltb c nlib) ⊎ T (not (ltb c nlib)) → nlib ≤ c
        go (inl u) = none (subst (λ (l : List ℕ). At l h t) (lineage_library n c (ltb→lt c nlib u)) a)
        go (inr u) = nltb→le c nlib u

    line_sound : (n c h t : ℕ) → At (lineage_in nlib g n c) h t → Lineage nlib g c h t
    unfolding lineage_in
    line_sound zero c h t a = elim a [ ]
    line_sound (suc n) c h t a = go (subst (λ (l : List ℕ). At l h t) (lineage_more n c (line_user (suc n) c a)) a) (line_sound n)
      where
        go : {h t : ℕ} → At (c ∷ gather (lineage_in nlib g n) (superclasses (g c))) h t → ((d h t : ℕ) → At (lineage_in nlib g n d) h t → Lineage nlib g d h t) → Lineage nlib g c h t
        go here ih = self
        go (next {x} {k} b) ih =
            let q = lone_at (lineage_in nlib g n) (superclasses_lone (g c) (alone c)) b in
            lineage_prepend ((superclass_is (g c) q.0).0 q.1) (line_user n q.0 q.2) (ih q.0 k x q.2)

    line_complete : (n c h t : ℕ) → c < n → nlib ≤ c → Lineage nlib g c h t → At (lineage_in nlib g n c) h t
    line_complete zero c h t k l p = absurd (not-suc-le-zero k)
    line_complete (suc n) c h t k l p = subst (λ (xs : List ℕ). At xs h t) (sym (lineage_more n c l)) (go h p (line_complete n))
      where
        go : (h : ℕ) → Lineage nlib g c h t → ((d h t : ℕ) → d < n → nlib ≤ d → Lineage nlib g d h t → At (lineage_in nlib g n d) h t)
            → At (c ∷ gather (lineage_in nlib g n) (superclasses (g c))) h t
        go zero p ih = subst (λ (x : ℕ). At (c ∷ gather (lineage_in nlib g n) (superclasses (g c))) 0 x) (sym (no_step p)) here
        go (suc h) p ih =
            let s = first_step p in
            let q : s.base < c = f.superclass c s.base s.above in
            next (at_lone (lineage_in nlib g n) (superclasses_lone (g c) (alone c)) ((superclass_is (g c) s.base).1 s.above) (ih s.base h t (omega arith) s.user s.rest))

    pub lineage_is : (c h t : ℕ) → nlib ≤ c → At (lineage nlib g c) h t ↔ Lineage nlib g c h t
    unfolding lineage
    lineage_is c h t l = (line_sound (suc c) c h t, line_complete (suc c) c h t (le_refl (suc c)) l)

    -- so it has the classes of all heights
    pub lineage_has : (c t : ℕ) → nlib ≤ c → Memᴰ t (lineage nlib g c) ↔ ((h : ℕ) × Lineage nlib g c h t)
    lineage_has c t l = ((λ m. let a = in_at m in (a.0, (lineage_is c a.0 t l).0 a.1)), (λ q. at_in ((lineage_is c q.0 t l).1 q.1)))

  -- ---- the root

  root_sound : (n c d : ℕ) → nlib ≤ c → Memᴰ d (root_in nlib g n c) → Root nlib g c d
  unfolding root_in
  root_sound zero c d h m = absurd (Memᴰ.not-nil m)
  root_sound (suc n) c d h m =
      let a = gather_mem (root_in nlib g n) (superclasses (g c)) d (subst (Memᴰ d) (root_more n c h) m) in
      go a.source ((superclass_is (g c) a.source).0 a.member) n a.part (decide (ltb a.source nlib)) (root_sound n a.source d)
    where
      last_step : (s n : ℕ) → s < nlib → Memᴰ d (root_in nlib g n s) → d ≡ s
      last_step s zero l m = absurd (Memᴰ.not-nil m)
      last_step s (suc n) l m = Memᴰ.eq_of_singleton (subst (Memᴰ d) (root_library n s l) m)

      go : (s : ℕ) → Superclass (g c) s → (n : ℕ) → Memᴰ d (root_in nlib g n s) → T (ltb s nlib) ⊎ T (not (ltb s nlib))
          → (nlib ≤ s → Memᴰ d (root_in nlib g n s) → Root nlib g s d) → Root nlib g c d
      go s h n m (inl t) ih =
          let e : d ≡ s = last_step s n (ltb→lt s nlib t) m in
          record { height = 0; last = c; line = self; above = subst (Superclass (g c)) (sym e) h; library = subst (λ (x : ℕ). x < nlib) (sym e) (ltb→lt s nlib t) }
      go s h n m (inr t) ih =
          let r = ih (nltb→le s nlib t) m in
          record { height = suc r.height; last = r.last; line = lineage_prepend h (nltb→le s nlib t) r.line; above = r.above; library = r.library }

  root_complete : (n c d h t : ℕ) → c < n → nlib ≤ c → Lineage nlib g c h t → Superclass (g t) d → d < nlib → Memᴰ d (root_in nlib g n c)
  root_complete zero c d h t k l p a b = absurd (not-suc-le-zero k)
  root_complete (suc n) c d zero t k l p a b =
      let s : Superclass (g c) d = subst (λ (x : ℕ). Superclass (g x) d) (no_step p) a in
      let q : d < c = f.superclass c d s in
      subst (Memᴰ d) (sym (root_more n c l)) (mem_gather (root_in nlib g n) ((superclass_is (g c) d).1 s) (go n (omega arith)))
    where
      go : (n : ℕ) → d < n → Memᴰ d (root_in nlib g n d)
      go zero k = absurd (not-suc-le-zero k)
      go (suc n) k = subst (Memᴰ d) (sym (root_library n d b)) (Memᴰ.head refl)
  root_complete (suc n) c d (suc h) t k l p a b =
      let s = first_step p in
      let q : s.base < c = f.superclass c s.base s.above in
      subst (Memᴰ d) (sym (root_more n c l))
      (mem_gather (root_in nlib g n) ((superclass_is (g c) s.base).1 s.above) (root_complete n s.base d h t (omega arith) s.user s.rest a b))

  pub root_is : (c d : ℕ) → nlib ≤ c → Memᴰ d (root nlib g c) ↔ Root nlib g c d
  unfolding root
  root_is c d l = (root_sound (suc c) c d l, (λ r. root_complete (suc c) c d r.height r.last (le_refl (suc c)) l r.line r.above r.library))

pub root_lone : (nlib : ℕ) (g : ℕ → Group) → ((c : ℕ) → Lone (of_kind CLASS (g c))) → (c : ℕ) → Lone (root nlib g c)
unfolding root root_in
root_lone nlib g alone c = go (suc c) c
  where
    go : (n c : ℕ) → Lone (root_in nlib g n c)
    go zero c = empty
    go (suc n) c = at (ltb c nlib) (lone_gather (root_in nlib g n) (go n) (superclasses_lone (g c) (alone c)))
      where
        at : (b : Bool) → Lone (gather (root_in nlib g n) (superclasses (g c)))
            → Lone (elim b as (λ (x : Bool). List ℕ) [ true ↦ c ∷ [] | false ↦ gather (root_in nlib g n) (superclasses (g c)) ])
        at true l = single
        at false l = l
