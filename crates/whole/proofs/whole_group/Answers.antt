-- What is asked of the group is asked of the bytes from the place on.
use Rattle.std.proofs.Common.{arith}
use Rattle.whole.proofs.Walking.{go_start, go_end, go_torn, go_wrong, go_right, stands}
use Rattle.whole.proofs.whole_group.Goals as goal

pub loop-at-init : goal.loop-at-init
loop-at-init c = go_start _

pub returns-in_default : goal.returns-in_default
returns-in_default c = go_torn c.loop-at.invariant c.loop-at-test.true c.in_default.ensures.length

pub word_in-kind-requires : goal.word_in-kind-requires
word_in-kind-requires c = omega (arith, stands c.loop-at.invariant c.in-Some.ensures.length)

pub returns-then-is_class-is_first : goal.returns-then-is_class-is_first
returns-then-is_class-is_first c =
    go_wrong c.loop-at.invariant c.in-Some.ensures.length c.word_in-kind.ensures (rw c.number.ensures at c.if-is_class-is_first.true)

pub loop-at-preserved : goal.loop-at-preserved
loop-at-preserved c =
    go_right c.loop-at.invariant c.in-Some.ensures.length c.word_in-kind.ensures (rw c.number.ensures at c.if-is_class-is_first.false)

pub returns : goal.returns
returns c = go_end c.loop-at.invariant c.loop-at-test.false c.is_empty.ensures
