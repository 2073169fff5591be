-- The set that grows by steps: what it holds, and what it depends on.
-- Assumes nothing.
use mathlib.Core.Path.{◌≡◌, refl}
use mathlib.Core.List.{List, [], ◌∷◌, ◌++◌, Memᴰ}
use Prim.Native.Nat.{ℕ, zero, suc}
use Rattle.spec.specs.Lists.{gather, elem, fresh, rounds, reach}
use Rattle.laws.proofs.All.{All, all_append, all_gather, gather_cong, all_if}

-- d is c, or a chain of steps leads from c to d
pub data Steps (step : ℕ → List ℕ) (c : ℕ) : ℕ → Type 0 where
  here : Steps step c c
  onward : {d e : ℕ} → Steps step c d → Memᴰ e (step d) → Steps step c e

module _ (P : ℕ → Type 0) where
  pub fresh_in : (seen xs : List ℕ) → All P xs → All P (fresh seen xs)
  unfolding fresh
  fresh_in seen [] h = tt
  fresh_in seen (x ∷ xs) h = all_if P (elem x seen) (fresh seen xs) (x ∷ fresh (x ∷ seen) xs) (fresh_in seen xs h.1) (h.0, fresh_in (x ∷ seen) xs h.1)

module _ (P : ℕ → Type 0) (step : ℕ → List ℕ) (closed : (c : ℕ) → P c → All P (step c)) where
  rounds_in : (n : ℕ) (seen : List ℕ) → All P seen → All P (rounds step n seen)
  unfolding rounds
  rounds_in zero seen h = h
  rounds_in (suc n) seen h =
      go (fresh seen (gather step seen)) (fresh_in P seen (gather step seen) (all_gather P P step closed seen h)) (rounds_in n)
    where
      go : (l : List ℕ) → All P l → ((s : List ℕ) → All P s → All P (rounds step n s))
          → All P (elim l as (λ (k : List ℕ). List ℕ) [ [] ↦ seen | x ∷ xs ↦ rounds step n (seen ++ (x ∷ xs)) ])
      go [] k ih = h
      go (x ∷ xs) k ih = ih (seen ++ (x ∷ xs)) (all_append P seen (x ∷ xs) h k)

  pub reach_in : (c : ℕ) → P c → All P (reach step c)
  unfolding reach
  reach_in c p = rounds_in 256 (c ∷ []) (p, tt)

module _ (P : ℕ → Type 0) (step step' : ℕ → List ℕ) (same : (c : ℕ) → P c → step c ≡ step' c) (closed : (c : ℕ) → P c → All P (step c)) where
  rounds_same : (n : ℕ) (seen : List ℕ) → All P seen → rounds step n seen ≡ rounds step' n seen
  unfolding rounds
  rounds_same zero seen h = refl
  rounds_same (suc n) seen h =
      rw (← gather_cong P step step' same seen h, rounds)
      (go (fresh seen (gather step seen)) (fresh_in P seen (gather step seen) (all_gather P P step closed seen h)) (rounds_same n))
    where
      go : (l : List ℕ) → All P l → ((s : List ℕ) → All P s → rounds step n s ≡ rounds step' n s)
          → ◌≡◌ {A = List ℕ} (elim l as (λ (k : List ℕ). List ℕ) [ [] ↦ seen | x ∷ xs ↦ rounds step n (seen ++ (x ∷ xs)) ])
          (elim l as (λ (k : List ℕ). List ℕ) [ [] ↦ seen | x ∷ xs ↦ rounds step' n (seen ++ (x ∷ xs)) ])
      go [] k ih = refl
      go (x ∷ xs) k ih = ih (seen ++ (x ∷ xs)) (all_append P seen (x ∷ xs) h k)

  pub reach_same : (c : ℕ) → P c → reach step c ≡ reach step' c
  unfolding reach
  reach_same c p = rounds_same 256 (c ∷ []) (p, tt)
