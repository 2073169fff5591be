-- The classes that a record names.
-- Assumes nothing.
use Rattle.std.specs.Prelude.{List, [], ◌∷◌, ℕ}
use Rattle.spec.specs.Lists.{only_if}
use Rattle.spec.specs.Record.{is_kind, BUILDS, target, references}
use Rattle.named.specs.declared.Along.{Along}
use Rattle.named.specs.declared.Along.TheVariants.{Builds, Every}

-- what a search goes along
abbrev pub named_by : Along → List ℕ → List ℕ
named_by Builds r = only_if (is_kind BUILDS r) (target r ∷ [])
named_by Every r = references r
