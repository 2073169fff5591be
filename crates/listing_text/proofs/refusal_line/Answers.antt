-- Its seven texts one after another.
use Rattle.std.proofs.Common.{ap, ◌∙◌}
use Rattle.listing_text.specs.Listing.{refused_word, sheet_word, byte_word, refusal_text}
use Rattle.text.specs.Text.{decimal}
use Rattle.text.proofs.Texts.{put_same, put_then}
use Rattle.listing_text.proofs.refusal_line.Goals as goal

pub returns : goal.returns
unfolding refused_word sheet_word byte_word refusal_text
returns c =
    put_then c.put_bytes.ensures (put_then (put_same (ap decimal (c.from.ensures ∙ c.number.ensures)) c.put_number.ensures)
    (put_then c.put_bytes-2.ensures (put_then (put_same (ap decimal (c.from-2.ensures ∙ c.number-2.ensures)) c.put_number-2.ensures)
    (put_then c.put_bytes-3.ensures (put_then c.put_number-3.ensures c.put.ensures)))))
