-- What is left of the walk finds what the whole walk finds. The measure: class numbers fall.
use Rattle.std.proofs.Common.{◌≡◌}
use Rattle.sheets.specs.Sheets.{count, groups, library_count}
use Rattle.rules.proofs.Ascent.{rank}
use Rattle.rules.proofs.Judging.{RuleAt, ClassAt, RecordAt}
use Rattle.rules.proofs.Walk.verdict_of.Given as goal

abbrev pub invariant-loop-rule : goal.invariant-loop-rule
invariant-loop-rule l =
    let p = l.fn.self.judging.now.formed.now.sheets in
    (l.self.judging ≡ l.fn.self.judging) × RuleAt (library_count p) (groups p) l.c l.rule-index

abbrev pub invariant-loop-next : goal.invariant-loop-next
invariant-loop-next l =
    let p = l.fn.self.judging.now.formed.now.sheets in (l.self.judging ≡ l.fn.self.judging) × ClassAt (library_count p) (count p) (groups p) l.c l.rule l.next

abbrev pub decreases-loop-next : goal.decreases-loop-next
decreases-loop-next l = rank l.next

abbrev pub invariant-loop-number : goal.invariant-loop-number
invariant-loop-number l =
    let p = l.fn.self.judging.now.formed.now.sheets in
    (goal.iterator-loop-number).can_next l.number-iterator
    × (goal.iterator-loop-number).is_finite l.number-iterator
    × RecordAt (library_count p) (groups p) l.rule l.t l.number-iterator.count l.number-iterator.iter
