-- What is known of a condition, or of a value that may be missing, once its reason did not refuse, or did.
-- Assumes nothing.
use Rattle.std.specs.Prelude.{◌≡◌, Bool, true, false, Option, Some, None, Ok, Err, ok_or}
use Rattle.std.proofs.Common.{refl, sym}
use Rattle.std.proofs.lemmas.Result.{IfOk-at_ok, IfErr-at_err}
use Rattle.refusals.specs.declared.Reason.{Reason}
use Rattle.refusals.specs.Refusals.{unless}

pub held : (r : Reason) (b : Bool) {u : Unit {0}} → Ok u ≡ unless r b → b ≡ true
held r true e = refl
held r false e = absurd (IfOk-at_ok (λ _. ⊥) (sym e) tt)

pub failed : (r : Reason) (b : Bool) {x : Reason} → Err x ≡ unless r b → (b ≡ false) × (x ≡ r)
failed r true e = absurd (IfErr-at_err (λ _. ⊥) (sym e) tt)
failed r false e = (refl, IfErr-at_err (λ y. y ≡ r) (sym e) refl)

module _ {A : Type 0} (r : Reason) where
  pub some_there : (o : Option A) {a : A} → Ok a ≡ ok_or o r → o ≡ Some a
  some_there None e = absurd (IfOk-at_ok (λ _. ⊥) (sym e) tt)
  some_there (Some b) e = IfOk-at_ok (λ y. Some b ≡ Some y) (sym e) refl

  pub none_there : (o : Option A) {x : Reason} → Err x ≡ ok_or o r → (o ≡ None) × (x ≡ r)
  none_there None e = (refl, IfErr-at_err (λ y. y ≡ r) (sym e) refl)
  none_there (Some b) e = absurd (IfErr-at_err (λ _. ⊥) (sym e) tt)
