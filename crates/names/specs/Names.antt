-- Which names were met before.
-- Assumes nothing.
use Rattle.std.specs.Prelude.{Bool, ◌&&◌, List, ℕ, ltb, map}
use Rattle.spec.specs.Lists.{span}
use Rattle.spec.specs.Sheet.{Group, class_record}
use Rattle.spec.specs.Refusals.{name_met}

-- of each number below 256 whether it is that of one of n classes, and the class's name was met before
unfoldable pub met_before : (ℕ → Group) → ℕ → List Bool
met_before g n = map (λ c. ltb c n && name_met g c (class_record (g c))) (span 0 256)
