-- Each call asks lower numbers only, which the memo knows: so just the class that is asked is put into it.
use Rattle.std.proofs.Common.{◌≡◌, ◌+◌, ◌*◌, ◌<◌, map}
use Rattle.spec.specs.Record.{IMPLEMENTS}
use Rattle.spec.specs.Markers.{union, union_all}
use Rattle.spec.specs.Classes.{targets}
use Rattle.laws.proofs.All.{All}
use Rattle.sheets.specs.Sheets.{groups}
use Rattle.overlay.specs.Memo.{raw, with_interfaces}
use Rattle.overlay.proofs.+supertypes.Given as goal

abbrev pub decreases-gathered : goal.decreases-gathered
decreases-gathered l = 2 * l.c + 1

abbrev pub decreases-interfaces : goal.decreases-interfaces
decreases-interfaces l = 2 * l.c

-- the set so far, joined with what the interfaces that are left give, is the whole
abbrev pub invariant-interfaces-loop-record : goal.invariant-interfaces-loop-record
invariant-interfaces-loop-record l =
    (goal.iterator-interfaces-loop-record).can_next l.record-iterator
    × (goal.iterator-interfaces-loop-record).is_finite l.record-iterator
    × (l.memo ≡ l.fn.memo)
    × All (λ e. e < l.fn.c) (targets IMPLEMENTS l.record-iterator)
    × (union l.markers (union_all (map (raw (groups l.fn.falling.sheets.now)) (targets IMPLEMENTS l.record-iterator))) ≡ with_interfaces (groups l.fn.falling.sheets.now) l.fn.c l.fn.mine)
