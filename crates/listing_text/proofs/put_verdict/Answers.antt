-- Its six texts one after another.
use Rattle.text.proofs.Texts.{put_then}
use Rattle.listing_text.proofs.put_verdict.Goals as goal

pub returns : goal.returns
returns c = put_then c.put_number.ensures (put_then c.put.ensures (put_then c.put_number-2.ensures (put_then c.put-2.ensures (put_then c.put_number-3.ensures c.put-3.ensures))))
