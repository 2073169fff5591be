-- What is not allowed of library classes: the row, and what an entry says.
-- Assumes nothing.
use mathlib.Core.Path.{◌≡◌, refl, ap, ◌∙◌}
use mathlib.Core.Bool.{Bool, true, false, not, ◌&&◌}
use mathlib.Core.List.{List, ◌++◌}
use Prim.Native.Nat.{ℕ, ◌+◌, ◌-◌, ◌≤◌, ◌<◌}
use native.Mathlib.Omega.{arith}
use lib.Dec.{ltb}
use lib.ListN.{length, get_or, drop, replicate, length-append, length-drop, get_or-append}
use borrow.Author.Tests.{ltb-true, ltb-false}
use Rattle.std.proofs.lemmas.List.{get_or-append_right, get_or-drop}
use Rattle.spec.specs.Record.{bit, flags}
use Rattle.spec.specs.Sheet.{Group, class_record, is_allowed}
use Rattle.spec.specs.Rules.{forbidden}
use Rattle.laws.proofs.Rows.{same_all}
use Rattle.breaks.specs.declared.bans.Ban.{Ban}
use Rattle.breaks.specs.Bans.{ban_of, nothing, Bans}

-- ---- the row of them

-- those of the library, before entries that say nothing
pub ban_all : {nlib : ℕ} {g : ℕ → Group} (front : List Ban) → nlib ≤ 256 → length front ≡ nlib → ((d : ℕ) → d < nlib → get_or front d nothing ≡ ban_of (g d))
    → Bans nlib g (front ++ drop nlib (replicate 256 nothing))
ban_all {nlib} {g} front few l f = record { few = few; long = simp (length-append, length-drop) (omega arith); is = λ d. go d (ltb d nlib) refl }
  where
    rest : List Ban
    rest = drop nlib (replicate 256 nothing)

    go : (d : ℕ) (b : Bool) → ltb d nlib ≡ b → get_or (front ++ rest) d nothing ≡ elim b as (λ (x : Bool). Ban) [ true ↦ ban_of (g d) | false ↦ nothing ]
    go d true q = let h = ltb-true d nlib q in get_or-append front rest nothing d (omega arith) ∙ f d h
    go d false q =
        get_or-append_right front rest nlib d nothing l (ltb-false d nlib q) ∙ get_or-drop nlib (replicate 256 nothing) (d - nlib) nothing
        ∙ same_all nothing 256 (nlib + (d - nlib))

-- ---- an entry

pub ban_test : {nlib : ℕ} {g : ℕ → Group} {row : List Ban} → Bans nlib g row → (d : ℕ) {b : Ban} → b ≡ get_or row d nothing → b.closed ≡ forbidden nlib g d
unfolding forbidden is_allowed
ban_test {nlib} {g} w d e = ap (λ (x : Ban). x.closed) (e ∙ w.is d) ∙ go (ltb d nlib)
  where
    go : (b : Bool) → (elim b as (λ (x : Bool). Ban) [ true ↦ ban_of (g d) | false ↦ nothing ]).closed ≡ (b && not (bit 8 (flags (class_record (g d)))))
    go true = refl
    go false = refl
