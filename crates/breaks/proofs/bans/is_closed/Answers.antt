use Rattle.breaks.proofs.Banning.{ban_test}
use Rattle.breaks.proofs.bans.is_closed.Goals as goal

pub returns : goal.returns
returns c nlib g w = ban_test w _ c.banned.ensures
