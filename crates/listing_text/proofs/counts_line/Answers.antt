-- Its five texts one after another.
use Rattle.listing_text.specs.Listing.{classes_word, faulted_word, counts_text}
use Rattle.text.proofs.Texts.{put_then}
use Rattle.listing_text.proofs.counts_line.Goals as goal

pub returns : goal.returns
unfolding classes_word faulted_word counts_text
returns c =
    put_then c.put_bytes.ensures (put_then c.put_number.ensures (put_then c.put_bytes-2.ensures (put_then c.put_number-2.ensures c.put.ensures)))
