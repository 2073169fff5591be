-- When two user sheets mean the same (document 02, C-15): nothing of an order of the four sets, and nothing of the form that is written.
-- Assumes nothing.
use Rattle.std.specs.Prelude.{◌≡◌, ◌↔◌, ℕ, T}
use mathlib.Core.List.{List, [], ◌∷◌, Memᴰ}
use Rattle.spec.specs.Record.{is_kind, FIELD, LOCAL, REFERS, target, index}
use Rattle.spec.specs.Sheet.{Group, groups_of, class_record, of_kind}
use Rattle.spec.specs.Relations.{Implements, Uses, Builds}

-- the group REFERS to member i of class d
pub record Refers (g : Group) (d i : ℕ) : Type 0 where
  pub bytes : List ℕ
  pub member : Memᴰ bytes g
  pub of_kind : T (is_kind REFERS bytes)
  pub owner : target bytes ≡ d
  pub number : index bytes ≡ i

-- "the CLASS record, the ordered FIELDs and LOCALs, and the four sets"
pub record SameMeaning (g h : Group) : Type 0 where
  pub class : class_record g ≡ class_record h
  pub fields : of_kind FIELD g ≡ of_kind FIELD h
  pub locals : of_kind LOCAL g ≡ of_kind LOCAL h
  pub implements : (t : ℕ) → Implements g t ↔ Implements h t
  pub uses : (d i : ℕ) → Uses g d i ↔ Uses h d i
  pub builds : (t : ℕ) → Builds g t ↔ Builds h t
  pub refers : (d i : ℕ) → Refers g d i ↔ Refers h d i

-- "group by group": as many groups, and each means what the other one means
abbrev pub SameGroups : List Group → List Group → Type 0
SameGroups [] [] = Unit {0}
SameGroups [] (h ∷ hs) = ⊥
SameGroups (g ∷ gs) [] = ⊥
SameGroups (g ∷ gs) (h ∷ hs) = SameMeaning g h × SameGroups gs hs

unfoldable pub MeanSame : List ℕ → List ℕ → Type 0
MeanSame s t = SameGroups (groups_of s) (groups_of t)
