-- What is claimed of the canonical form of an accepted sheet, together.
-- Assumes nothing.
use Rattle.meaning.specs.Claims.{CanonicalHolds}
use Rattle.meaning.proofs.Same.{canonical_twice, canonical_short, canonical_means, canonical_ascends}
use Rattle.meaning.proofs.Accepted.{canonical_accepted}

pub canonical_holds : CanonicalHolds
canonical_holds library user used a = record {
  twice = canonical_twice library user used a;
  accepted = canonical_accepted library user used a;
  short = canonical_short library user used a;
  means = canonical_means library user used a;
  ascends = canonical_ascends library user used a;
}
