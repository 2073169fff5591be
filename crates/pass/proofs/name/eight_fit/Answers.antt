-- The three tests of eight bytes at once.
use Rattle.std.proofs.Common.{arith, ne_eqb}
use Rattle.pass.proofs.Words.{Eight, small, over, last, rest}
use Rattle.pass.proofs.name.eight_fit.Goals as goal
use Rattle.pass.proofs.name.eight_fit.Goals.{After-from_le_bytes-word}

read : (c : After-from_le_bytes-word) → Eight c.args.bytes.now c.from_le_bytes-word.result
read c = record { long = c.told-bytes; bytes = c.fits-bytes; is = c.from_le_bytes-word.ensures }

pub returns-then-word-ne0 : goal.returns-then-word-ne0
returns-then-word-ne0 c = over (read (goal.at.returns-then-word-ne0 c).After-from_le_bytes-word) c.if-word-ne0.true

pub overflow_add-word : goal.overflow_add-word
overflow_add-word c = omega (arith, small (read (goal.at.overflow_add-word c).After-from_le_bytes-word) c.if-word-ne0.false)

pub overflow_sub-result : goal.overflow_sub-result
overflow_sub-result c = omega (arith, small (read (goal.at.overflow_sub-result c).After-from_le_bytes-word) c.if-word-ne0.false)

pub returns-then-word-eq0 : goal.returns-then-word-eq0
returns-then-word-eq0 c = rest (read (goal.at.returns-then-word-eq0 c).After-from_le_bytes-word) c.if-word-ne0.false c.if-word-eq0.true

pub returns-else-word-eq0 : goal.returns-else-word-eq0
returns-else-word-eq0 c = rw (ne_eqb _ 0 c.if-word-eq0.false) (last (read (goal.at.returns-else-word-eq0 c).After-from_le_bytes-word) c.if-word-ne0.false c.if-word-eq0.false)
