-- Captured variables and dependencies: what is reached by BUILDS inside a class, and by references.
-- Assumes nothing.
use mathlib.Core.Path.{ap, subst₂}
use mathlib.Core.Logic.{◌↔◌}
use mathlib.Core.List.Memᴰ
use mathlib.Core.List.{map, Memᴰ}
use Prim.Native.Nat.{ℕ, suc, ◌<◌}
use native.Mathlib.Nat.{le_refl}
use lib.Dec.{T}
use lib.ListN.{length}
use Rattle.spec.specs.Lists.{gather, elem, reach, ascending}
use Rattle.spec.specs.Record.{BUILDS}
use Rattle.spec.specs.Sheet.{Group, group_references}
use Rattle.spec.specs.Classes.{targets, locals, used_indexes, enclosers, inside, builds_inside, captured_of, captured}
use Rattle.spec.specs.Rules.{dependencies}
use Rattle.spec.specs.Relations.{Uses, References, Depends, self, onward, Inside, Chain, start, step, Captures}
use Rattle.laws.proofs.All.{All, all_keep, of_members}
use Rattle.theory.proofs.Reach.{Steps, onward as further, here as start_here}
use Rattle.theory.proofs.Complete.{reach_sound, reach_complete}
use Rattle.laws.proofs.Members.{elem_mem, mem_elem, gather_mem, mem_gather, keep_mem, mem_keep, ascending_mem, mem_ascending}
use Rattle.theory.proofs.Groups.{target_is, reference_is, uses_is, builds_reference}
use Rattle.theory.proofs.Falls.{Falls}
use Rattle.theory.proofs.Lines.{enclosers_inside, inside_enclosers, inside_sound, inside_complete, inside_lower}

module _ (g : ℕ → Group) (f : Falls g) where
  -- ---- capturing

  chain_steps : {d l m : ℕ} → Inside g d l → Steps (builds_inside g d) l m → Chain g d l m
  unfolding builds_inside
  chain_steps i start_here = start i
  chain_steps {d} i (further {d = m} {e = k} c s) =
      let q = keep_mem (inside g d) (targets BUILDS (g m)) k s in
      step (chain_steps i c) ((target_is BUILDS (g m) k).0 q.0) (inside_sound g f d k q.1)

  steps_chain : {d l m : ℕ} → Chain g d l m → Steps (builds_inside g d) l m
  unfolding builds_inside
  steps_chain (start i) = start_here
  steps_chain {d} (step {m} {k} b s i) = further (steps_chain b) (mem_keep (inside g d) ((target_is BUILDS (g m) k).1 s) (inside_complete g f i))

  pub chain_inside : {d l m : ℕ} → Chain g d l m → Inside g d l
  chain_inside (start i) = i
  chain_inside (step b s i) = chain_inside b

  module _ (bound : (c d : ℕ) → References (g c) d → d < 256) (variables : (c d i : ℕ) → Uses (g c) d i → i < length (locals (g d))) where
    builds_bound : (d m : ℕ) → All (λ e. e < 256) (builds_inside g d m)
    unfolding builds_inside
    builds_bound d m =
        all_keep (λ e. e < 256) (inside g d) (targets BUILDS (g m))
        (of_members (λ e. e < 256) (targets BUILDS (g m)) (λ e k. bound m e (builds_reference (g m) e ((target_is BUILDS (g m) e).0 k))))

    pub chain_is : (d l m : ℕ) → Inside g d l → T (elem m (reach (builds_inside g d) l)) ↔ Chain g d l m
    chain_is d l m i = (
      (λ t. chain_steps i (reach_sound (builds_inside g d) l m t)),
      (λ c. reach_complete (builds_inside g d) (builds_bound d) (steps_chain c)),
    )

    captured_sound : (l d i : ℕ) → Memᴰ (d, i) (captured g l) → Captures g l d i
    unfolding captured captured_of enclosers
    captured_sound l d i m =
        let a = gather_mem (λ d. map (λ i. (d, i)) (captured_of g l d)) (ascending l (enclosers g l)) (d, i) m in
        let o : ℕ = a.source in
        let b = Memᴰ.of_map (λ (i : ℕ). (o, i)) (captured_of g l o) a.part in
        let c = gather_mem (λ m. used_indexes o (g m)) (reach (builds_inside g o) l) b.0
        (ascending_mem (length (locals (g o))) (gather (λ m. used_indexes o (g m)) (reach (builds_inside g o) l)) b.0 b.1) in
        let n : Inside g o l = enclosers_inside g f (suc l) l o (ascending_mem l (enclosers g l) o a.member) in
        let e : ℕ = c.source in
        let s = chain_steps {m = e} n (reach_sound (builds_inside g o) l e (elem_mem {d = e} c.member)) in
        let k : Captures g l o b.0 = record { last = e; chain = s; uses = (uses_is o b.0 (g e)).0 c.part } in
        subst₂ (Captures g l) (ap (λ (p : ℕ × ℕ). p.0) b.2) (ap (λ (p : ℕ × ℕ). p.1) b.2) k

    captured_complete : (l d i : ℕ) → Captures g l d i → Memᴰ (d, i) (captured g l)
    unfolding captured captured_of enclosers
    captured_complete l d i h =
        let n : Inside g d l = chain_inside h.chain in
        mem_gather (λ d. map (λ i. (d, i)) (captured_of g l d)) (mem_ascending l (enclosers g l) (inside_lower g f n) (inside_enclosers g f n (suc l) (le_refl (suc l))))
        (Memᴰ.map (λ (i : ℕ). (d, i))
        (mem_ascending (length (locals (g d))) (gather (λ m. used_indexes d (g m)) (reach (builds_inside g d) l)) (variables h.last d i h.uses)
        (mem_gather (λ m. used_indexes d (g m))
        (mem_elem h.last (reach (builds_inside g d) l) (reach_complete (builds_inside g d) (builds_bound d) (steps_chain h.chain)))
        ((uses_is d i (g h.last)).1 h.uses))))

    pub captured_is : (l d i : ℕ) → Memᴰ (d, i) (captured g l) ↔ Captures g l d i
    captured_is l d i = (captured_sound l d i, captured_complete l d i)

-- ---- dependencies

module _ (g : ℕ → Group) where
  steps_depends : {c d : ℕ} → Steps (λ k. group_references (g k)) c d → Depends g c d
  steps_depends start_here = self
  steps_depends (further {d} {e} p m) = onward (steps_depends p) ((reference_is (g d) e).0 m)

  depends_steps : {c d : ℕ} → Depends g c d → Steps (λ k. group_references (g k)) c d
  depends_steps self = start_here
  depends_steps (onward {d} {e} p h) = further (depends_steps p) ((reference_is (g d) e).1 h)

  pub depends_is : ((c d : ℕ) → References (g c) d → d < 256) → (c d : ℕ) → T (elem d (dependencies g c)) ↔ Depends g c d
  unfolding dependencies
  depends_is bound c d = (
    (λ t. steps_depends (reach_sound (λ k. group_references (g k)) c d t)),
    (λ p. reach_complete (λ k. group_references (g k)) (λ k. of_members (λ e. e < 256) (group_references (g k)) (λ e m. bound k e ((reference_is (g k) e).0 m))) (depends_steps p)),
  )
