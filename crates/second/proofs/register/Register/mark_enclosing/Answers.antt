use Rattle.std.proofs.Common.{◌+◌, ◌-◌, arith}
use Rattle.second.proofs.Enclosing.{encloser_is, rising_start, rising_step, rising_stop, rising_none, rising_end}
use Rattle.second.proofs.register.Register.mark_enclosing.Goals as goal

pub loop-init : goal.loop-init
loop-init c = rw c.requires.unmarked (rising_start c.count-n.ensures.passed.few c.requires.there (omega arith))

pub returns-in_default : goal.returns-in_default
returns-in_default c =
    let k = c.args.c + 1 - (c.loop.counter + 1) in
    rising_stop c.count-n.ensures.passed.few c.loop.invariant k (omega arith) (encloser_is c.head.ensures c.group.ensures) c.in-Some.is (omega arith)

pub returns-in_default-2 : goal.returns-in_default-2
returns-in_default-2 c =
    let k = c.args.c + 1 - (c.loop.counter + 1) in
    rising_none c.count-n.ensures.passed.few c.loop.invariant k (omega arith) (encloser_is c.head.ensures c.group.ensures) c.in_default.is

pub loop-preserved : goal.loop-preserved
loop-preserved c =
    let k = c.args.c + 1 - (c.loop.counter + 1) in
    rising_step c.count-n.ensures.passed.few c.loop.invariant k (omega arith) (encloser_is c.head.ensures c.group.ensures) c.in-Some.is (omega arith)

pub returns-after-loop : goal.returns-after-loop
returns-after-loop c = rising_end c.count-n.ensures.passed.few c.loop.invariant (omega arith)
