-- One entry a class.
use Rattle.std.proofs.Common.{◌≡◌, ◌∙◌, ℕ, length, replicate, arith}
use Rattle.std.proofs.lemmas.List.{get_or_append_left, length-take}
use Rattle.laws.proofs.Rows.{set_below}
use Rattle.sheets.specs.Sheets.{groups}
use Rattle.reach.specs.Reach.{nearest}
use Rattle.reach.proofs.note_outers.Goals as goal

pub loop-c-init : goal.loop-c-init
loop-c-init c = λ d h. absurd (omega arith)

pub nearest-requires : goal.nearest-requires
nearest-requires c =
    (omega (arith, c.count.ensures.count, length-take {A = ℕ} c.count.result (replicate 256 0)), omega (arith, length-take {A = ℕ} c.count.result (replicate 256 0)))

pub loop-c-preserved : goal.loop-c-preserved
loop-c-preserved c = set_below 0 (λ d v. v ≡ nearest (groups c.args.formed.now.sheets) d) _ _ _ (omega arith) c.loop-c.invariant c.nearest.ensures

pub returns : goal.returns
returns c =
    let all : length c.loop-c.above-items ≡ c.count.result = omega (arith, length-take {A = ℕ} c.count.result (replicate 256 0), c.count.ensures.passed.few) in
    record {
      few = c.count.ensures.passed.few;
      is = λ d h.
          get_or_append_left c.loop-c.above-items _ 0 d (omega (arith, all, c.count.ensures.count))
          ∙ c.loop-c.invariant d (omega (arith, all, c.count.ensures.count));
    }
