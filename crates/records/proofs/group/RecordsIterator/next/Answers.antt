use mathlib.Core.Path.{◌≡◌, sym, ap, ap₂, ◌∙◌, subst}
use mathlib.Core.Bool.{Bool, false}
use mathlib.Core.List.{List, ◌∷◌}
use Rattle.std.specs.Bool.{◌==◌}
use native.Mathlib.Omega.{arith}
use Prim.Native.Nat.{ℕ, ◌<◌}
use lib.ListN.{length, take, drop}
use borrow.Author.Tests.{tests}
use Rattle.std.proofs.Common.{rules}
use Rattle.spec.specs.Record.{u16}
use Rattle.spec.specs.Sheet.{records_of}
use Rattle.records.specs.Kinds.{Fits, Lined}
use Rattle.records.proofs.Lined.{lined_end, here, first_fits, rest, first_lem}
use Rattle.records.proofs.group.RecordsIterator.next.Goals as goal

-- the bytes are not over
more : (s : List ℕ) {b : Bool} → b ≡ (length s == 0) → b ≡ false → 0 < length s
more s e f = search (rules, tests)

module _ (s : List ℕ) {n word : ℕ} (e : n ≡ word) (f : word ≡ u16 s 0) where
  front_is : {t : List ℕ} → t ≡ take n s → t ≡ take (u16 s 0) s
  front_is q = q ∙ ap (λ (k : ℕ). take k s) (e ∙ f)

  back_is : {t : List ℕ} → t ≡ drop n s → t ≡ drop (u16 s 0) s
  back_is q = q ∙ ap (λ (k : ℕ). drop k s) (e ∙ f)

pub returns-then-is_empty-clause-steps : goal.returns-then-is_empty-clause-steps
returns-then-is_empty-clause-steps c =
    let z : length c.self.inside.rest.now ≡ 0 = search (rules, tests) in
    let e = sym c.self.view_is ∙ lined_end c.self.inside.rest.now z in
    (e, e)

pub word_in-requires : goal.word_in-requires
word_in-requires c = omega (arith, first_lem c.self.invariant (more _ c.is_empty.ensures c.if-is_empty.false))

pub split_at-requires : goal.split_at-requires
split_at-requires c = omega (arith, first_lem c.self.invariant (more _ c.is_empty.ensures c.if-is_empty.false), c.from-len.ensures, c.word_in.ensures)

pub invariant_of-result : goal.invariant_of-result
invariant_of-result c = subst Fits (sym (front_is _ c.from-len.ensures c.word_in.ensures c.split_at.ensures.front)) (first_fits c.self.invariant (more _ c.is_empty.ensures c.if-is_empty.false))

pub invariant_of-self : goal.invariant_of-self
invariant_of-self c = subst Lined (sym (back_is _ c.from-len.ensures c.word_in.ensures c.split_at.ensures.back)) (rest c.self.invariant (more _ c.is_empty.ensures c.if-is_empty.false))

pub returns-clause-steps : goal.returns-clause-steps
returns-clause-steps c =
    sym c.self.view_is
    ∙ here c.self.invariant (more _ c.is_empty.ensures c.if-is_empty.false)
    ∙ ap₂ (λ (r : List ℕ) (s : List ℕ). r ∷ records_of s) (sym (front_is _ c.from-len.ensures c.word_in.ensures c.split_at.ensures.front))
    (sym (back_is _ c.from-len.ensures c.word_in.ensures c.split_at.ensures.back))

pub returns-clause-goes : goal.returns-clause-goes
returns-clause-goes c =
    let e =
    sym c.self.view_is
    ∙ here c.self.invariant (more _ c.is_empty.ensures c.if-is_empty.false)
    ∙ ap₂ (λ (r : List ℕ) (s : List ℕ). r ∷ records_of s) (sym (front_is _ c.from-len.ensures c.word_in.ensures c.split_at.ensures.front))
    (sym (back_is _ c.from-len.ensures c.word_in.ensures c.split_at.ensures.back)) in
    search rules
