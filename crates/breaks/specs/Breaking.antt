-- Whether one record of one class breaks a rule.
-- Assumes nothing.
use Rattle.std.specs.Prelude.{Bool, true, false, not, ◌&&◌, ◌||◌, Option, None, Some, List, ℕ, eqb}
use Rattle.spec.specs.Lists.{any}
use Rattle.spec.specs.Record.{bit, is_kind, REFERS, flags, own_markers, target, index, references}
use Rattle.spec.specs.Sheet.{Group}
use Rattle.spec.specs.Markers.{Token, Throwable, Enum, clash}
use Rattle.spec.specs.Classes.{overlay}
use Rattle.spec.specs.Rules.{static_breaks, member_allowed, forbidden}
use Rattle.slots.specs.declared.Late.{Late as LateRule}
use Rattle.slots.specs.Slots.{rule_number, head_breaks, field_breaks}
use Rattle.breaks.specs.declared.rule.Rule.{Rule}
use Rattle.breaks.specs.declared.rule.Rule.TheVariants.{Classes, Members, Reserved, Clash, Statics, LetsOut, Late}

abbrev pub number_of : Rule → ℕ
number_of Classes = 1
number_of Members = 2
number_of Reserved = 3
number_of Clash = 4
number_of Statics = 5
number_of LetsOut = 6
number_of (Late l) = rule_number l

-- which of rules 7 to 10 it is
abbrev pub late_of : Rule → Option LateRule
late_of Classes = None
late_of Members = None
late_of Reserved = None
late_of Clash = None
late_of Statics = None
late_of LetsOut = None
late_of (Late l) = Some l

module _ (nlib : ℕ) (g : ℕ → Group) where
  -- record r, number k of class t, breaks the rule
  abbrev pub breaks_at : Rule → ℕ → ℕ → List ℕ → Bool
  breaks_at Classes t k r = any (forbidden nlib g) (references r)
  breaks_at Members t k r = is_kind REFERS r && not (member_allowed g (target r) (index r))
  breaks_at Reserved t k r = bit Token (own_markers r) || bit Throwable (own_markers r) || bit Enum (own_markers r)
  breaks_at Clash t k r = clash (overlay g t)
  breaks_at Statics t k r = static_breaks g r
  breaks_at LetsOut t k r = bit 5 (flags r) || bit 6 (flags r) || bit 7 (flags r)
  breaks_at (Late rule) t k r = elim (eqb k 0) [ true ↦ head_breaks nlib g rule t | false ↦ field_breaks g rule t k r ]

-- the rule asks a CLASS record alone
abbrev pub asks_first : Rule → Bool
asks_first Classes = false
asks_first Members = false
asks_first Reserved = true
asks_first Clash = true
asks_first Statics = false
asks_first LetsOut = true
asks_first (Late l) = false
