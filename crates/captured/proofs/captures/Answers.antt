-- The search along BUILDS from what each class itself uses.
use Rattle.captured.proofs.Meaning.{captures_fit, captures_shown}
use Rattle.captured.proofs.captures.Goals as goal

pub close-requires-clause-seeds_fit : goal.close-requires-clause-seeds_fit
close-requires-clause-seeds_fit c =
    captures_fit c.args.formed.now.passed c.args.formed.now.formed (c.fill.ensures.after (λ y e. e)) c.told-row c.seed.ensures

pub returns : goal.returns
returns c =
    captures_shown c.args.formed.now.passed c.args.formed.now.formed (c.fill.ensures.after (λ y e. e)) c.told-row c.seed.ensures c.close.ensures
