-- The search along every record, from a single 0: it finds the classes that depend on one.
-- Assumes nothing.
use mathlib.Core.Path.{◌≡◌, refl, sym, ap, ◌∙◌, subst}
use mathlib.Core.Bool.{Bool, true, false, ◌&&◌}
use mathlib.Core.List.{List, map, Memᴰ}
use mathlib.Core.Logic.{inl, ◌≢◌}
use mathlib.Core.Option.{none}
use Prim.Native.Nat.{ℕ, ◌+◌, ◌*◌, ◌≤◌, ◌<◌}
use native.Mathlib.Decide.{ℕ_discrete}
use native.Mathlib.Omega.{arith}
use lib.Dec.{T, eqb, ltb}
use lib.ListN.{length, get_or, set, replicate}
use lib.Seq.{get_or-set_same, get_or-set_other}
use borrow.Author.Tests.{ltb-true, ltb-false, eq-eqb, ne_eqb}
use Rattle.spec.specs.Lists.{elem, span, reach}
use Rattle.spec.specs.Record.{references}
use Rattle.spec.specs.Sheet.{total, group, group_references}
use Rattle.spec.specs.Rules.{dependencies}
use Rattle.spec.specs.Verdicts.{depends_on}
use Rattle.spec.specs.Refusals.{form_refusal}
use Rattle.laws.proofs.Bools.{true_t}
use Rattle.laws.proofs.All.{All, at_member, of_members}
use Rattle.laws.proofs.Members.{gather_mem}
use Rattle.theory.proofs.Accept.{form_fits}
use Rattle.laws.proofs.Rows.{same_all, values_are}
use Rattle.theory.proofs.Reach.{Steps, here, onward}
use Rattle.theory.proofs.Complete.{reach_sound, reach_complete}
use Rattle.named.specs.declared.Along.TheVariants.{Every}
use Rattle.sheets.specs.Sheets.{Pair, Passed, count}
use Rattle.lanes.specs.Lanes.{words, Draws, own, via, entry_at, Other, SeedsFit, Least}
use Rattle.lanes.proofs.Words.{words_all}
use Rattle.reach.specs.Reach.{named_in, steps_of, outer_of, Closed}

-- ---- the seeds: 0 at d, none elsewhere

abbrev seeded : ℕ → List ℕ
seeded d = set (replicate 256 65535) d 0

module _ (d : ℕ) (h : d < 256) where
  seed_zero : get_or (seeded d) d 65535 ≡ 0
  seed_zero = get_or-set_same (replicate 256 65535) d 0 65535 h

  seed_none : (m : ℕ) → m ≢ d → get_or (seeded d) m 65535 ≡ 65535
  seed_none m n = get_or-set_other (replicate 256 65535) d m 0 65535 n ∙ same_all 65535 256 m

  only_seed : (m : ℕ) → get_or (seeded d) m 65535 < 65535 → m ≡ d
  only_seed m l = go (ℕ_discrete m d)
    where
      go : Dec (m ≡ d) → m ≡ d
      go (yes e) = e
      go (no n) = absurd (omega (arith, seed_none m n))

  -- 0 fits any class
  fit : (outer : ℕ → ℕ) (n : ℕ) → SeedsFit outer n 1 (seeded d)
  unfolding SeedsFit
  fit outer n k m hk hm v = inl (ap (λ (i : ℕ). get_or (seeded d) i 65535) (only_seed (k * 256 + m) v) ∙ seed_zero)

  -- the bytes are written so
  seeded_is : {s : List ℕ} → s ≡ set (words (replicate 512 255)) d 0 → s ≡ seeded d
  seeded_is e = e ∙ ap (λ (w : List ℕ). set w d 0) (words_all 255 256)

  pub seeds_fit : (outer : ℕ → ℕ) (n : ℕ) {s : List ℕ} → s ≡ set (words (replicate 512 255)) d 0 → SeedsFit outer n 1 s
  seeds_fit outer n e = subst (SeedsFit outer n 1) (sym (seeded_is e)) (fit outer n)

-- ---- chains

prepend : {step : ℕ → List ℕ} {c t d : ℕ} → Memᴰ t (step c) → Steps step t d → Steps step c d
prepend e here = onward here e
prepend e (onward p m) = onward (prepend e p) m

module _ {step : ℕ → List ℕ} {outer seed : ℕ → ℕ} {n d : ℕ} where
  chain_of : {y m : ℕ} → m < n → y < 65535 → ((k : ℕ) → k < n → seed k < 65535 → k ≡ d) → Draws step outer n seed y m → Steps step m d
  chain_of {y} {m} h l only (own e f) = subst (Steps step m) (only m h (omega (arith, e))) here
  chain_of h l only (via f e b c) = prepend e (chain_of b l only c)

of_chain : {step : ℕ → List ℕ} {outer seed : ℕ → ℕ} {n c m : ℕ} → ((a t : ℕ) → Memᴰ t (step a) → t < n) → Steps step c m → Draws step outer n seed 0 m → Draws step outer n seed 0 c
of_chain bound here w = w
of_chain bound (onward {d = a} {e = t} p e) w = of_chain bound p (via (inl refl) e (bound a t e) w)

at_zero : (m : ℕ) → 0 * 256 + m ≡ m
at_zero m = omega arith

-- ---- the result

abbrev steps_in : List ℕ → List ℕ → ℕ → List ℕ
steps_in library user m = group_references (group library user m)

module _ (library user : List ℕ) (ok : form_refusal library user ≡ none) (few : total library user ≤ 256) where
  bound : (a t : ℕ) → Memᴰ t ((steps_in library user) a) → t < total library user
  unfolding group_references
  bound a t e =
      let s = gather_mem references (group library user a) t e in
      at_member (λ x. x < total library user) (references s.source) (at_member _ (group library user a) (form_fits library user ok a) s.member).there s.part

  module _ {d : ℕ} {s : List ℕ} (h : d < total library user)
      (l : Least (steps_of (group library user) Every) (outer_of (group library user)) (total library user) 1 (seeded d) s) where
    -- over the references themselves
    least : Least (steps_in library user) (outer_of (group library user)) (total library user) 1 (seeded d) s
    unfolding group_references named_in
    least = l

    at_lane : (c : ℕ) → entry_at s 0 c ≡ get_or s c 65535
    at_lane c = ap (λ (i : ℕ). get_or s i 65535) (at_zero c)

    reached : (c : ℕ) → c < total library user → eqb (get_or s c 65535) 0 ≡ elem d (dependencies (group library user) c)
    unfolding dependencies
    reached c hc = go (elem d (reach (steps_in library user) c)) refl
      where
        few_steps : (a : ℕ) → All (λ x. x < 256) (steps_in library user a)
        few_steps a = of_members (λ x. x < 256) (steps_in library user a) (λ x m. omega (arith, bound a x m))

        only : (k : ℕ) → k < total library user → entry_at (seeded d) 0 k < 65535 → k ≡ d
        only k hk v = only_seed d (omega arith) k (rw (at_zero k) at v)

        chain : get_or s c 65535 ≡ 0 → Steps (steps_in library user) c d
        chain z =
            let none : entry_at s 0 c < 65535 = omega (arith, at_lane c, z) in
            chain_of hc none only (least.sound 0 c (omega arith) hc none)

        go : (b : Bool) → elem d (reach (steps_in library user) c) ≡ b → eqb (get_or s c 65535) 0 ≡ b
        go true e =
            let z : entry_at (seeded d) 0 d ≡ 0 = ap (λ (i : ℕ). get_or (seeded d) i 65535) (at_zero d) ∙ seed_zero d (omega arith) in
            let w = of_chain bound (reach_sound (steps_in library user) c d (true_t e)) (own z (inl refl)) in
            let q = least.least 0 c 0 (omega arith) hc w in
            eq-eqb (get_or s c 65535) 0 (omega (arith, q, at_lane c))
        go false e = ne_eqb (get_or s c 65535) 0 (λ z. subst T e (reach_complete (steps_in library user) few_steps (chain z)))

    -- an entry that is no class's is none
    unclassed : (c : ℕ) → total library user ≤ c → get_or s c 65535 ≡ 65535
    unfolding Other
    unclassed c b = least.kept c (λ k m hk hm e. omega arith) ∙ seed_none d (omega arith) c (λ e. omega arith)

    marked : (c : ℕ) → eqb (get_or s c 65535) 0 ≡ depends_on library user d c
    unfolding depends_on
    marked c = go (ltb c (total library user)) refl
      where
        go : (x : Bool) → ltb c (total library user) ≡ x → eqb (get_or s c 65535) 0 ≡ (x && elem d (dependencies (group library user) c))
        go true e = reached c (ltb-true c (total library user) e)
        go false e = ne_eqb (get_or s c 65535) 0 (λ z. omega (arith, unclassed c (ltb-false c (total library user) e)))

module _ {p : Pair} (x : Passed p) (ok : form_refusal p.library p.user ≡ none) {d : ℕ} (h : d < count p) {s s' : List ℕ} (put : s ≡ set (words (replicate 512 255)) d 0)
    (l : Closed p Every 1 s s') where
  abbrev depends : ℕ → Bool
  depends = depends_on p.library p.user d

  -- a row of marks that says where the search left 0
  pub found : {marks : List Bool} → length marks ≡ 256 → ((c : ℕ) → c < 256 → get_or marks c false ≡ eqb (get_or s' c 65535) 0) → marks ≡ map depends (span 0 256)
  found long is =
      values_are depends 256 false long (λ c b. is c b ∙ marked p.library p.user ok x.few h (rw (seeded_is d (omega (arith, x.few)) put) at l) c)
