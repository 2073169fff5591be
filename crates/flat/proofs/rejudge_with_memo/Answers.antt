-- What is learnt, then what is written; the scratch is cleared at the end.
use Rattle.std.proofs.Common.{◌++◌, ◌≤◌, length, drop, length-append, length-drop, sym, arith}
use Rattle.std.proofs.lemmas.List.{length-take-le}
use Rattle.spec.specs.Refusals.{scratch_length}
use Rattle.overlay.proofs.Recursion.{formed_falls}
use Rattle.flat.proofs.Clearing.{clear_is}
use Rattle.flat.proofs.rejudge_with_memo.Goals as goal
use Rattle.flat.proofs.rejudge_with_memo.Goals.{After-rewrite}

-- the scratch is as long as before
long : (c : After-rewrite) → scratch_length ≤ length (c.captures-2.new.row ++ drop 1536 c.args.scratch.now)
long c =
    omega (arith, length-append c.captures-2.new.row (drop 1536 c.args.scratch.now), length-drop 1536 c.args.scratch.now, c.captures-2.array_long, c.requires.scratch)

pub slice_bounds-fill-end-2 : goal.slice_bounds-fill-end-2
slice_bounds-fill-end-2 c =
    sym (length-take-le scratch_length (c.captures-2.new.row ++ drop 1536 c.args.scratch.now) (long (goal.at.slice_bounds-fill-end-2 c).After-rewrite))

pub returns-clause-scratch : goal.returns-clause-scratch
returns-clause-scratch c =
    clear_is 1536 c.args.scratch.now c.captures-2.new.row c.captures-2.array_long (omega arith) (long (goal.at.returns-clause-scratch c).After-rewrite) (c.fill.ensures.after (λ y e. e))

pub invariant_of-falling : goal.invariant_of-falling
invariant_of-falling c =
    let formed = c.args.accepted.now.formed in
    record { passed = formed.passed; falls = formed_falls formed.sheets formed.formed }

pub returns-clause-memo : goal.returns-clause-memo
returns-clause-memo c = c.overlays.ensures.memo

pub returns-clause-verdicts : goal.returns-clause-verdicts
returns-clause-verdicts c = c.rewrite.ensures
