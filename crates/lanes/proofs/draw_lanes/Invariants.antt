-- The lanes below k have been drawn from.
use Rattle.std.proofs.Common.{◌≡◌}
use Rattle.lanes.specs.Lanes.{words, drawn_lanes, drew_lanes}
use Rattle.lanes.proofs.draw_lanes.Given as goal

abbrev pub invariant-loop-k : goal.invariant-loop-k
invariant-loop-k l = record {
  row : words l.row ≡ drawn_lanes l.marks l.m l.t l.k (words l.fn.row);
  answer : l.added ≡ drew_lanes l.marks l.m l.t l.k (words l.fn.row);
}
