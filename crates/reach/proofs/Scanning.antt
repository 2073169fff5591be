-- One class draws from the classes that its records name, one after another.
-- Assumes nothing.
use mathlib.Core.Path.{◌≡◌, refl, sym, ap, subst}
use mathlib.Core.Bool.{Bool, true, false, ◌||◌, or_assoc, or-false}
use mathlib.Core.Logic.{⊎_elim}
use mathlib.Core.List.Memᴰ
use mathlib.Core.List.{List, [], ◌∷◌, ◌++◌, Memᴰ}
use Prim.Native.Nat.{ℕ, ◌+◌, ◌*◌, ◌≤◌, ◌<◌}
use native.Mathlib.Omega.{arith}
use lib.ListN.{length, get_or}
use Rattle.spec.specs.Lists.{any, keep, gather}
use Rattle.spec.specs.Record.{is_kind, BUILDS, target}
use Rattle.spec.specs.Sheet.{Group, of_kind}
use Rattle.laws.proofs.Bools.{true_t}
use Rattle.laws.proofs.Members.{gather_mem, mem_keep, only_mem}
use Rattle.named.specs.declared.Along.{Along}
use Rattle.named.specs.declared.Along.TheVariants.{Builds}
use Rattle.named.specs.Named.{named_by}
use Rattle.lanes.specs.Lanes.{Settled, Run, SettledAt, Enclosers, drawn_lanes, drew_lanes, lanes_of}
use Rattle.lanes.proofs.Runs.{run_none, run_only, run_then}
use Rattle.lanes.proofs.Drawing.{offered}
use Rattle.reach.specs.Reach.{named_in, steps_of, outer_of, DrawnFrom}

-- ---- a kind that a class has no record of

pub empty : {A : Type 0} {x : A} {l : List A} → length l ≡ 0 → Memᴰ x l → ⊥
empty {l = []} e m = Memᴰ.not-nil m
empty {l = y ∷ l} e m = omega arith

-- ---- a class that has 0

-- nothing is lower than 0
settled_zero : (step : ℕ → List ℕ) (outer : ℕ → ℕ) (n : ℕ) {lanes : ℕ} (m : ℕ) (s : List ℕ) → lanes ≡ 1 → get_or s m 65535 ≡ 0 → SettledAt step outer n lanes m s
unfolding SettledAt Settled
settled_zero step outer n m s e z k t hk w ht b f =
    let i : k * 256 + m ≡ m = omega arith in
    omega (arith, ap (λ (j : ℕ). get_or s j 65535) i, z)

-- ---- from classes, one after another

module _ {marks : List Bool} {n lanes m : ℕ} where
  pub drawn_none : (s : List ℕ) → DrawnFrom [] marks n lanes m s s false
  unfolding SettledAt
  drawn_none s = record { run = λ step outer p g. run_none s (λ k t h x. absurd (Memᴰ.not-nil x)) }

  -- m has 0, so no class has anything for it
  pub drawn_zero : (ts s : List ℕ) → lanes ≡ 1 → get_or s m 65535 ≡ 0 → DrawnFrom ts marks n lanes m s s false
  drawn_zero ts s e z = record { run = λ step outer p g. run_none s (settled_zero (λ c. ts) outer n m s e z) }

  pub drawn_one : {s s' : List ℕ} {t : ℕ} {r : Bool} → n ≤ 256 → m < n → lanes * 256 ≤ length s → s' ≡ drawn_lanes marks m t (lanes_of n lanes t) s
      → r ≡ drew_lanes marks m t (lanes_of n lanes t) s → DrawnFrom (t ∷ []) marks n lanes m s s' r
  unfolding SettledAt
  drawn_one {s} {t = t} few there long row answer =
      let o = offered few there s long (row, answer) in
      record {
        run = λ step outer p g.
            run_only (SettledAt (λ c. t ∷ []) outer n lanes m) (o.run step outer (p t (Memᴰ.head refl)) g)
            (λ w k u h x. ⊎_elim (λ e. subst (Settled outer n k m s) (sym e) (w k h)) (λ y. absurd (Memᴰ.not-nil y)) (Memᴰ.cases_cons x));
      }

  drawn_then : {ts us s s' s'' : List ℕ} {a b : Bool}
      → DrawnFrom ts marks n lanes m s s' a → DrawnFrom us marks n lanes m s' s'' b → DrawnFrom (ts ++ us) marks n lanes m s s'' (a || b)
  unfolding SettledAt
  drawn_then {ts} {us} f h = record {
    run = λ step outer p g.
        run_then (SettledAt (λ c. ts ++ us) outer n lanes m) (f.run step outer (λ t x. p t (Memᴰ.append_left us x)) g) (h.run step outer (λ t x. p t (Memᴰ.append_right ts x)) g)
        (λ v w k t l x. ⊎_elim (λ y. v k t l y) (λ y. w k t l y) (Memᴰ.append_cases ts x));
  }

-- Drawing from those that are left completes the drawing from all.
pub record DrawsFrom (all left : List ℕ) (marks : List Bool) (n lanes m : ℕ) (s₀ s : List ℕ) (a : Bool) : Type 0 where
  pub rest : (s' : List ℕ) (b : Bool) → DrawnFrom left marks n lanes m s s' b → DrawnFrom all marks n lanes m s₀ s' (a || b)

module _ {all left : List ℕ} {marks : List Bool} {n lanes m : ℕ} where
  pub draws_start : (s : List ℕ) → left ≡ all → DrawsFrom all left marks n lanes m s s false
  draws_start s e = record { rest = λ s' b h. subst (λ (ts : List ℕ). DrawnFrom ts marks n lanes m s s' b) e h }

module _ {all left : List ℕ} {marks : List Bool} {n lanes m : ℕ} {s₀ s : List ℕ} {a : Bool} (f : DrawsFrom all left marks n lanes m s₀ s a) where
  pub draws_next : (ts : List ℕ) {left' s' : List ℕ} {b : Bool} → left ≡ ts ++ left' → DrawnFrom ts marks n lanes m s s' b → DrawsFrom all left' marks n lanes m s₀ s' (a || b)
  draws_next ts {b = b} e h = record { rest = λ s'' c w. rw (or_assoc a b c) (f.rest s'' (b || c) (rw e (drawn_then h w))) }

  -- those that are left have nothing
  pub draws_end : DrawnFrom left marks n lanes m s s false → DrawnFrom all marks n lanes m s₀ s a
  draws_end h = rw (or-false a) at (f.rest s false h)

-- the same, record after record
module _ (along : Along) {all : List ℕ} {rs : Group} {marks : List Bool} {n lanes m : ℕ} {s₀ s : List ℕ} {a : Bool}
    (f : DrawsFrom all (named_in along rs) marks n lanes m s₀ s a) where
  pub draws_record : {r : List ℕ} {rs' : Group} {s' : List ℕ} {b : Bool} → rs ≡ r ∷ rs' → DrawnFrom (named_by along r) marks n lanes m s s' b
      → DrawsFrom all (named_in along rs') marks n lanes m s₀ s' (a || b)
  unfolding named_in gather
  draws_record {r} e h = draws_next f (named_by along r) (ap (named_in along) e) h

  pub draws_records : rs ≡ [] → DrawnFrom all marks n lanes m s₀ s a
  unfolding named_in gather
  draws_records e = draws_end f (rw e (drawn_none s))

-- ---- a class

-- the records are those of class m
pub scanned : (g : ℕ → Group) (along : Along) {n lanes m : ℕ} {h : Group} {marks : List Bool} {row₀ row : List ℕ} {a : Bool} → h ≡ g m
    → DrawnFrom (named_in along h) marks n lanes m row₀ row a
    → Enclosers (outer_of g) m marks → Run (steps_of g along) (outer_of g) n lanes (SettledAt (steps_of g along) (outer_of g) n lanes m) row₀ row a
unfolding SettledAt
scanned g along {h = h} eh f right =
    let same = ap (named_in along) eh in
    run_only _ (f.run (steps_of g along) (outer_of g) (λ t x. rw same at x) right) (λ p k t l x. p k t l (rw (← same) at x))

-- the class has 0 already
pub visit_marked : {step : ℕ → List ℕ} {outer : ℕ → ℕ} {n lanes : ℕ} (m : ℕ) (s : List ℕ) → lanes ≡ 1 → get_or s m 65535 ≡ 0 → Run step outer n lanes (SettledAt step outer n lanes m) s s false
visit_marked {step} {outer} {n} m s e z = run_none s (settled_zero step outer n m s e z)

-- no record of a kind, as a count
pub none_of_kind : (k : ℕ) (rs : Group) → any (is_kind k) rs ≡ false → length (of_kind k rs) ≡ 0
unfolding any of_kind keep
none_of_kind k [] e = refl
none_of_kind k (r ∷ rs) e = go (is_kind k r) e (none_of_kind k rs)
  where
    go : (b : Bool) → (b || any (is_kind k) rs) ≡ false → (any (is_kind k) rs ≡ false → length (keep (is_kind k) rs) ≡ 0)
        → length (elim b as (λ (_ : Bool). Group) [ true ↦ r ∷ keep (is_kind k) rs | false ↦ keep (is_kind k) rs ]) ≡ 0
    go true e f = absurd (true_t (sym e))
    go false e f = f e

-- a class without BUILDS has no step along it
module _ (g : ℕ → Group) (m : ℕ) (none : length (of_kind BUILDS (g m)) ≡ 0) where
  no_step : {t : ℕ} → Memᴰ t (steps_of g Builds m) → ⊥
  unfolding named_in of_kind
  no_step {t} e =
      let a = gather_mem (named_by Builds) (g m) t e in
      let o = only_mem (is_kind BUILDS a.source) (target a.source ∷ []) a.part in
      empty none (mem_keep (is_kind BUILDS) a.member o.0)

  pub nowhere : steps_of g Builds m ≡ []
  nowhere = go (steps_of g Builds m) (λ t e. no_step e)
    where
      go : (xs : List ℕ) → ((t : ℕ) → Memᴰ t xs → ⊥) → xs ≡ []
      go [] n = refl
      go (x ∷ xs) n = absurd (n x (Memᴰ.head refl))

-- a class without steps has nothing to draw
pub visit_none : {step : ℕ → List ℕ} {outer : ℕ → ℕ} {n lanes : ℕ} (m : ℕ) (s : List ℕ) → step m ≡ [] → Run step outer n lanes (SettledAt step outer n lanes m) s s false
unfolding SettledAt Settled
visit_none m s e = run_none s (λ k t hk w ht b f. absurd (Memᴰ.not-nil (subst (Memᴰ t) e w)))
