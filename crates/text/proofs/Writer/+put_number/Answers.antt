-- `put_number` calls itself for the digits before the last; the number is the measure.
use Rattle.std.proofs.Common.{◌/◌, sym, arith}
use Rattle.text.proofs.Digits.{decimal_length, decimal_one, decimal_more}
use Rattle.text.proofs.Texts.{put_then, put_same}
use Rattle.text.proofs.Writer.+put_number.Goals as goal

pub returns-then-x-lt10 : goal.returns-then-x-lt10
returns-then-x-lt10 t c = put_same (sym (decimal_one _ c.if-x-lt10.true)) c.put.ensures

pub put-requires-2 : goal.put-requires-2
put-requires-2 t c = omega (arith, decimal_length (c.args.x / 10), c.put_number.ensures.written.place)

pub returns : goal.returns
returns t c = put_same (sym (decimal_more _ c.if-x-lt10.false (omega arith))) (put_then c.put_number.ensures c.put-2.ensures)
