-- A step of the walk over rules, classes and records.
-- Assumes nothing.
use Rattle.std.specs.Prelude.{◌≡◌, List, ℕ, ◌<◌}
use Rattle.spec.specs.Relations.{At}
use Rattle.sheets.specs.Sheets.{Pair, count, groups}
use Rattle.breaks.specs.declared.breaking.Step.{Step}
use Rattle.breaks.specs.declared.rule.Rule.TheVariants.{Reserved, LetsOut}

-- a rule, and a record of a class that it asks: under rules 3 and 6, which ask what a CLASS record says, its first
pub record AtStep (p : Pair) (step : Step) (r : List ℕ) : Type 0 where
  pub asked_there : step.asked < count p
  pub standing : At (groups p step.asked) step.number r
  pub third : step.rule ≡ Reserved → step.number ≡ 0
  pub sixth : step.rule ≡ LetsOut → step.number ≡ 0
