-- Present sheets that nothing refuses passed the first pass.
-- Assumes nothing.
use mathlib.Core.Path.{◌≡◌}
use mathlib.Core.List.{List}
use mathlib.Core.Option.{none}
use Prim.Native.Nat.{ℕ}
use native.Mathlib.Omega.{arith}
use lib.ListN.{take, length-take}
use Rattle.spec.specs.Sheet.{class_count}
use Rattle.spec.specs.Refusals.{present_refusal}
use Rattle.laws.proofs.Bools.{positive}
use Rattle.theory.proofs.Accept.{sound}
use Rattle.theory.proofs.Unrefused.{present_facts}
use Rattle.sheets.specs.Sheets.{Passed}

pub present_passed : (library user : List ℕ) (used : ℕ) → present_refusal library user used ≡ none → Passed (record { library = library; user = take used user })
present_passed library user used e =
    let f = present_facts library user used e in
    let s = sound library (take used user) f.sheets in
    record {
      library_clear = s.library_sheet;
      user_clear = s.user_sheet;
      library_size = f.library_size;
      user_size = omega (arith, length-take used user, f.user_size);
      some = positive (class_count library) s.some;
      few = s.few;
    }
