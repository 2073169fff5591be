-- What is written is the part that fits.
use Rattle.std.proofs.Common.{refl}
use Rattle.text.proofs.Buffer.{put_part}
use Rattle.text.proofs.Writer.put_bytes.Goals as goal

pub returns : goal.returns
returns c = record { same_reference = refl; written = put_part c.args.self.now.at c.min-from.ensures c.min-to.ensures c.copy.ensures }
