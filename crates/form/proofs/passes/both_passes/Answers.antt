-- The library, then the user sheet, whose starts follow.
use mathlib.Core.Path.{◌≡◌, sym, ap, ◌∙◌, subst}
use mathlib.Core.List.{List}
use Prim.Native.Nat.{ℕ, ◌+◌}
use native.Mathlib.Omega.{arith}
use Rattle.std.proofs.Common.{rules}
use Rattle.std.proofs.lemmas.Result.{err_from_is_err_and}
use Rattle.spec.specs.Sheet.{class_count}
use Rattle.pass.specs.Pass.{pass_refusal, Filled}
use Rattle.form.proofs.Parts.{shifted_zero, shifted_none}
use Rattle.form.proofs.Sheets.{library_stops, library_empty, library_few, user_stops, passes_fine, indexed}
use Rattle.form.proofs.passes.both_passes.Goals as goal

-- how many classes the library has
first_is : {k : ℕ} (library : List ℕ) → k ≡ 0 + class_count library → k ≡ class_count library
first_is library e = omega (arith, e)

pub returns-in_err-first : goal.returns-in_err-first
returns-in_err-first c =
    let p = err_from_is_err_and c.from_residual.result c.from_residual.ensures.1 in
    rw (p.1, p.2) (library_stops _ _ (sym (shifted_zero _) ∙ c.in_err-first.ensures.answer))

pub returns-then-first-eq0 : goal.returns-then-first-eq0
returns-then-first-eq0 c =
    let a = c.in_ok-first.ensures.answer in library_empty _ _ (shifted_none 0 _ a.0) (sym (first_is _ a.1) ∙ c.if-first-eq0.true)

pub user_pass-requires-clause-bounds : goal.user_pass-requires-clause-bounds
user_pass-requires-clause-bounds c =
    let a = c.in_ok-first.ensures.answer in
    (omega (arith, library_few c.args.library.now c.args.user.now (shifted_none 0 _ a.0), a.1), omega (arith, c.first_pass.auto.starts))

pub returns-in_err-all : goal.returns-in_err-all
returns-in_err-all c =
    let a = c.in_ok-first.ensures.answer in
    let e = first_is _ a.1 in
    let p = err_from_is_err_and c.from_residual-in_err-all.result c.from_residual-in_err-all.ensures.1 in
    rw (p.1, p.2)
    (user_stops c.args.library.now c.args.user.now (shifted_none 0 _ a.0) (λ z. c.if-first-eq0.false (e ∙ z))
    (ap (λ (n : ℕ). pass_refusal 1 n c.args.user.now) (sym e) ∙ c.in_err-all.ensures.answer))

pub returns : goal.returns
returns c =
    let a = c.in_ok-first.ensures.answer in
    let b = c.in_ok-all.ensures.answer in
    let e = first_is _ a.1 in
    let some : class_count c.args.library.now ≡ 0 → ⊥ = λ z. c.if-first-eq0.false (e ∙ z) in
    let fine = ap (λ (n : ℕ). pass_refusal 1 n c.args.user.now) (sym e) ∙ b.0 in (
      passes_fine c.args.library.now c.args.user.now (shifted_none 0 _ a.0) some fine,
      indexed c.args.library.now c.args.user.now (shifted_none 0 _ a.0) some fine (search rules) c.first_pass.ensures.starts
          (subst (λ (n : ℕ). Filled (pass_refusal 1 n c.args.user.now) n 0 c.args.user.now c.first_pass.new.starts c.user_pass.new.starts) e c.user_pass.ensures.starts)
          c.requires.short.0 c.requires.short.1 e b.1,
    )
