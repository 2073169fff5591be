-- After so many moves the reader stands where the record of that number begins.
use Rattle.std.proofs.Common.{◌≡◌}
use Rattle.reader.specs.Reading.{nth_at}
use Rattle.reader.proofs.nth.Given as goal

abbrev pub invariant-loop : goal.invariant-loop
invariant-loop l = (l.reader.bytes.now ≡ l.sheet) × (l.reader.at ≡ nth_at l.sheet l.counter)
