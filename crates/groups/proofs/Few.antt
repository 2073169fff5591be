-- A class has few records; and what the second pass adds.
-- Assumes nothing.
use mathlib.Core.Path.{◌≡◌}
use mathlib.Core.List.{List, [], ◌++◌}
use mathlib.Core.Option.{none}
use Prim.Native.Nat.{ℕ, ◌≤◌}
use native.Mathlib.Omega.{arith}
use lib.ListN.{length}
use borrow.Author.Tests.{ne_eqb}
use Rattle.spec.specs.Sheet.{Group, groups_of, class_count, group}
use Rattle.spec.specs.Refusals.{form_refusal}
use Rattle.laws.proofs.Bools.{false_t}
use Rattle.laws.proofs.All.{all_append, all_get}
use Rattle.theory.proofs.Accept.{Sound, form_fits}
use Rattle.theory.proofs.Few.{groups_few}
use Rattle.groups.specs.Groups.{Indexed}

pub group_few : {library user : List ℕ} {nlib n : ℕ} {row : List ℕ} → Indexed library user nlib n row → (c : ℕ) → length (group library user c) ≤ 255
unfolding group
group_few {library} {user} x c =
    let a = groups_few 0 0 library x.library_clear.passed in
    let b = groups_few 1 (class_count library) user x.user_clear.passed in
    all_get {A = Group} (λ g. length g ≤ 255) [] (groups_of library ++ groups_of user) (all_append (λ g. length g ≤ 255) (groups_of library) (groups_of user) a b) (omega arith) c

-- both sheets passed both passes
pub indexed_sound : {library user : List ℕ} {nlib n : ℕ} {row : List ℕ} → Indexed library user nlib n row → form_refusal library user ≡ none → Sound library user
indexed_sound {library} {user} x e = record {
  library_sheet = x.library_clear;
  user_sheet = x.user_clear;
  some = false_t (ne_eqb (class_count library) 0 (λ z. omega (arith, x.some, x.nlib_is)));
  fits = form_fits library user e;
  few = omega (arith, x.n_is, x.few);
}
