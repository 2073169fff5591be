-- The canonical form of small sheets (document 02, C-15), as one list.
-- Assumes nothing.
use Rattle.std.specs.Prelude.{◌≡◌, List, [], ◌∷◌, ◌++◌, ℕ}
use Rattle.spec.specs.Examples.{none², class, x, v, uses, builds}
use Rattle.meaning.specs.Canonical.{canonical}

abbrev pub A : List ℕ
A = class 0 0 none² 0x41

-- "class u16" ascends as a number: 256 after 2, though its first byte is lower
abbrev pub builds256 : List ℕ
builds256 = 6 ∷ 0 ∷ 6 ∷ 0 ∷ 0 ∷ 1 ∷ []

abbrev pub implements : ℕ → List ℕ
implements t = 6 ∷ 0 ∷ 2 ∷ 0 ∷ t ∷ 0 ∷ []

abbrev pub refers : ℕ → ℕ → List ℕ
refers t i = 8 ∷ 0 ∷ 8 ∷ 0 ∷ t ∷ 0 ∷ i ∷ 0 ∷ []

-- a sheet and its canonical form
pub record Example : Type 0 where
  pub sheet : List ℕ
  pub form : List ℕ

abbrev pub AllHold : List Example → Type 0
AllHold [] = Unit {0}
AllHold (e ∷ es) = (canonical e.sheet ≡ e.form) × AllHold es

unfoldable pub examples : List Example
examples =
    -- USES and BUILDS, each with a repeat; LOCALs that are alike stay
    record {
      sheet = A ++ (v 0 ++ (v 0 ++ (uses 1 1 ++ (uses 1 0 ++ (uses 1 1 ++ (builds 1 ++ (builds 0 ++ builds 1)))))));
      form = A ++ (v 0 ++ (v 0 ++ (uses 1 0 ++ (uses 1 1 ++ (builds 0 ++ builds 1)))));
    }
    -- by class, then by index
    ∷ record { sheet = A ++ (uses 2 0 ++ (uses 1 1 ++ uses 1 0)); form = A ++ (uses 1 0 ++ (uses 1 1 ++ uses 2 0)) }
    ∷ record { sheet = A ++ (builds256 ++ builds 2); form = A ++ (builds 2 ++ builds256) }
    -- IMPLEMENTS and REFERS are sets too
    ∷ record { sheet = A ++ (implements 2 ++ (implements 1 ++ (refers 0 1 ++ (refers 0 0 ++ refers 0 1)))); form = A ++ (implements 1 ++ (implements 2 ++ (refers 0 0 ++ refers 0 1))) }
    -- FIELDs keep their order, and groups stay apart
    ∷ record { sheet = A ++ (x 5 0 0 0 ++ (x 1 0 4 0 ++ (builds 1 ++ (A ++ builds 0)))); form = A ++ (x 5 0 0 0 ++ (x 1 0 4 0 ++ (builds 1 ++ (A ++ builds 0)))) }
    ∷ record { sheet = []; form = [] }
    ∷ []
