-- The walk over the library classes that stops at the first class refused.
-- Assumes nothing.
use mathlib.Core.Path.{◌≡◌, refl, sym, ap, ◌∙◌}
use mathlib.Core.Bool.{Bool, true, false}
use mathlib.Core.List.{List}
use Prim.Native.Nat.{ℕ, suc, ◌+◌, ◌-◌, ◌≤◌, ◌<◌, min}
use native.Mathlib.Nat.{le_refl}
use native.Mathlib.Omega.{arith}
use lib.ListN.{set, replicate}
use Rattle.std.specs.Prelude.{Option, None, Some}
use Rattle.spec.specs.Sheet.{Group}
use Rattle.spec.specs.Classes.{overlay}
use Rattle.overlay.specs.Memo.{raw, memo_of, Knows}
use Rattle.overlay.proofs.Memos.{memo_none, memo_asks, memo_asked}
use Rattle.form.specs.Form.{deemed_breaks, deemed_from, first_deemed}

-- ---- the walk

-- the walk stands at class c: none before it is refused, and the memo knows those
pub record Deeming (g : ℕ → Group) (nlib : ℕ) (memo : List (Option ℕ)) (c : ℕ) : Type 0 where
  pub inside : c ≤ nlib
  pub rest : deemed_from g c (nlib - c) ≡ first_deemed g nlib
  pub memo_is : memo ≡ memo_of g c

pub deem_begin : {g : ℕ → Group} {nlib : ℕ} {memo : List (Option ℕ)} → memo ≡ replicate 256 None → Deeming g nlib memo 0
unfolding first_deemed
deem_begin {g} {nlib} e =
    let z : nlib - 0 ≡ nlib = omega arith in record { inside = omega arith; rest = ap (deemed_from g 0) z; memo_is = e ∙ sym (memo_none g) }

pub from_stop : (g : ℕ → Group) (c k : ℕ) → deemed_breaks c (overlay g c) ≡ true → deemed_from g c (suc k) ≡ c
unfolding deemed_from
from_stop g c k e = rw (e, deemed_from)

pub from_on : (g : ℕ → Group) (c k : ℕ) → deemed_breaks c (overlay g c) ≡ false → deemed_from g c (suc k) ≡ deemed_from g (c + 1) k
unfolding deemed_from
from_on g c k e = rw (e, deemed_from)

module _ {g : ℕ → Group} {nlib : ℕ} {memo : List (Option ℕ)} {c : ℕ} (d : Deeming g nlib memo c) where
  pub deem_asks : c < 256 → Knows g c memo
  deem_asks h = memo_asks g c c d.memo_is (le_refl c) h (omega arith)

  module _ {m : ℕ} {b : Bool} {memo' : List (Option ℕ)} (few : nlib ≤ 256) (l : c < nlib) (em : m ≡ overlay g c) (eb : b ≡ deemed_breaks c m) (a : memo' ≡ set memo c (Some (raw g c))) where
    here : deemed_breaks c (overlay g c) ≡ b
    here = sym (eb ∙ ap (deemed_breaks c) em)

    left : nlib - c ≡ suc (nlib - (c + 1))
    left = omega arith

    known : (k : ℕ) → k ≡ c + 1 → memo' ≡ memo_of g k
    known k e = memo_asked g c c d.memo_is (le_refl c) (omega arith) a k (omega arith)

    pub deem_stop : b ≡ true → (c ≡ first_deemed g nlib) × (memo' ≡ memo_of g (min nlib (c + 1)))
    deem_stop t =
        (sym (from_stop g c (nlib - (c + 1)) (here ∙ t)) ∙ sym (ap (deemed_from g c) left) ∙ d.rest, known (min nlib (c + 1)) (omega arith))

    pub deem_on : b ≡ false → Deeming g nlib memo' (c + 1)
    deem_on f = record {
      inside = omega arith;
      rest = sym (from_on g c (nlib - (c + 1)) (here ∙ f)) ∙ sym (ap (deemed_from g c) left) ∙ d.rest;
      memo_is = known (c + 1) refl;
    }

  pub deem_end : (c < nlib → ⊥) → (nlib ≡ first_deemed g nlib) × (memo ≡ memo_of g (min nlib (nlib + 1)))
  unfolding deemed_from
  deem_end h =
      let e : c ≡ nlib = omega (arith, d.inside) in
      let z : nlib - c ≡ 0 = omega (arith, d.inside) in
      let k : c ≡ min nlib (nlib + 1) = omega (arith, d.inside) in
      (sym e ∙ sym (ap (deemed_from g c) z) ∙ d.rest, d.memo_is ∙ ap (memo_of g) k)
