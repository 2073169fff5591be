-- The function calls itself for the digits before the last; the number is the measure.
use Rattle.text.proofs.Writer.+put_number.Given as goal

abbrev pub decreases-put_number : goal.decreases-put_number
decreases-put_number l = l.x
