-- Superclass, encloser and interfaces of a class have lower numbers where the form is kept.
-- Assumes nothing.
use mathlib.Core.Path.{◌≡◌, refl, sym, ◌∙◌, subst}
use mathlib.Core.Logic.{◌≢◌}
use mathlib.Core.Bool.{Bool, true, false, not, ◌&&◌, ◌||◌}
use mathlib.Core.List.{List, Memᴰ}
use Prim.Native.Nat.{ℕ, ◌<◌}
use lib.Dec.{T, eqb, leb, ltb, eqb→eq, ltb→lt}
use Rattle.spec.specs.Record.{bit, none16, flags, superclass, encloser, target}
use Rattle.spec.specs.Sheet.{Group, is_interface}
use Rattle.spec.specs.Relations.{Superclass, Encloser, Implements}
use Rattle.spec.specs.Refusals.{superclass_fits, encloser_fits, implements_fits}
use Rattle.laws.proofs.Bools.{true_t, and_l, and_r}
use Rattle.laws.proofs.All.{All, at_member}
use Rattle.theory.proofs.Accept.{RecordFits}

-- superclass, encloser and interfaces of a class have lower numbers
pub record Falls (g : ℕ → Group) : Type 0 where
  pub superclass : (c s : ℕ) → Superclass (g c) s → s < c
  pub encloser : (c e : ℕ) → Encloser (g c) e → e < c
  pub implements : (c i : ℕ) → Implements (g c) i → i < c

module _ (nlib n : ℕ) (g : ℕ → Group) (f : (c : ℕ) → All (RecordFits nlib n g c) (g c)) where
  fit : {c : ℕ} {r : List ℕ} → Memᴰ r (g c) → RecordFits nlib n g c r
  fit {c} m = at_member (RecordFits nlib n g c) (g c) (f c) m

  super_lower : (c : ℕ) (r : List ℕ) → T (superclass_fits g c r) → superclass r ≢ none16 → superclass r < c
  unfolding superclass_fits
  super_lower c r t h = go (eqb c 0 || bit 0 (flags r)) t
    where
      go : (b : Bool) → T (elim b as (λ (x : Bool). Bool) [ true ↦ eqb (superclass r) none16 | false ↦ ltb (superclass r) c && not (is_interface (g (superclass r))) ])
          → superclass r < c
      go true t = absurd (h (eqb→eq (superclass r) none16 t))
      go false t = ltb→lt (superclass r) c (and_l (ltb (superclass r) c) (not (is_interface (g (superclass r)))) t)

  encl_lower : (c : ℕ) (r : List ℕ) → T (encloser_fits nlib c r) → encloser r ≢ none16 → encloser r < c
  unfolding encloser_fits
  encl_lower c r t h = go (eqb (encloser r) none16) refl t
    where
      go : (b : Bool) → eqb (encloser r) none16 ≡ b
          → T (elim b as (λ (x : Bool). Bool) [ true ↦ not (bit 1 (flags r)) | false ↦ leb nlib c && leb nlib (encloser r) && ltb (encloser r) c ]) → encloser r < c
      go true e t = absurd (h (eqb→eq (encloser r) none16 (true_t e)))
      go false e t = ltb→lt (encloser r) c (and_r (leb nlib c && leb nlib (encloser r)) (ltb (encloser r) c) t)

  pub falls : Falls g
  unfolding implements_fits
  falls = record {
    superclass = λ c s h.
        let w = h.said in
        subst (λ (x : ℕ). x < c) w.is (super_lower c w.bytes ((fit w.member).superclass_fits w.of_kind) (λ e. h.some (sym w.is ∙ e)));
    encloser = λ c e h.
        let w = h.said in
        subst (λ (x : ℕ). x < c) w.is (encl_lower c w.bytes ((fit w.member).encloser_fits w.of_kind) (λ q. h.some (sym w.is ∙ q)));
    implements = λ c i h.
        subst (λ (x : ℕ). x < c) h.is
        (ltb→lt (target h.bytes) c (and_l (ltb (target h.bytes) c) (is_interface (g (target h.bytes))) ((fit h.member).implements_fits h.of_kind)));
  }
