-- The verdict that a walk's answer stands for.
-- Assumes nothing.
use Rattle.std.specs.Prelude.{Option, None, Some}
use Rattle.spec.specs.Rules.{Verdict, clean}
use Rattle.breaks.specs.Breaking.{number_of}
use Rattle.rules.specs.declared.Fault.{Fault}

abbrev pub line_of : Option Fault → Verdict
line_of None = clean
line_of (Some f) = record { rule = number_of f.rule; record_number = f.site.number; class = f.site.class }
