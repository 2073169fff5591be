-- A bit of the bitwise and is the lesser of the two bits.
use Rattle.std.proofs.Common.{◌≡◌, ◌&&◌, ℕ, ◌<◌, min, eqb, ap, ◌∙◌, arith}
use Rattle.std.proofs.lemmas.Nat.Bits.{bit_at_and, bit_at-lt}
use Rattle.std.proofs.lemmas.Bool.Decides.{nat_tests}
use Rattle.spec.specs.Record.{bit}
use Rattle.markers.proofs.common.Goals as goal

both_set : (x y : ℕ) → x < 2 → y < 2 → eqb (min x y) 1 ≡ (eqb x 1 && eqb y 1)
both_set x y h k = grind (arith, nat_tests)

pub returns : goal.returns
unfolding bit
returns c = λ k. ap (λ (x : ℕ). eqb x 1) (bit_at_and c.args.a c.args.b k) ∙ both_set _ _ (bit_at-lt c.args.a k) (bit_at-lt c.args.b k)
