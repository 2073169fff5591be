use mathlib.Core.Path.{sym, ap, ◌∙◌}
use native.Mathlib.Omega.{arith}
use Rattle.spec.specs.Lists.{any}
use Rattle.spec.specs.Record.{is_kind, BUILDS}
use Rattle.laws.proofs.Bools.{t_false, true_t}
use Rattle.sheets.specs.Sheets.{groups}
use Rattle.reach.proofs.Library.{library_builds_none}
use Rattle.reach.proofs.Scanning.{none_of_kind, nowhere}
use Rattle.reach.proofs.steps_nowhere.Goals as goal

pub returns-then-m-library_count : goal.returns-then-m-library_count
returns-then-m-library_count c e =
    rw c.in-Builds.is (nowhere (groups c.args.sheets.now) c.args.m (library_builds_none c.library_count.ensures.passed (omega (arith, c.if-m-library_count.true, c.library_count.ensures.count))))

pub returns-else-m-library_count : goal.returns-else-m-library_count
returns-else-m-library_count c e =
    rw c.in-Builds.is (nowhere (groups c.args.sheets.now) c.args.m (none_of_kind BUILDS _ (ap (any (is_kind BUILDS)) (sym c.group.ensures) ∙ sym c.has.ensures ∙ t_false c.has.result (true_t e))))
