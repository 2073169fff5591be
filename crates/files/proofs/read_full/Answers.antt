-- Either a read gave bytes, or it was interrupted and gave none.
use Rattle.std.proofs.Common.{arith, length, take, ◌-◌, sym, subst}
use Rattle.std.proofs.lemmas.Slice.{take-put_mid_below}
use Rattle.std.specs.Io.KnownBytes.{Consumes}
use Rattle.files.proofs.Reading.{consumes_more, consumes_kept, front_more, room_more}
use Rattle.files.proofs.read_full.Goals.{in-Ok, in-Err}
use Rattle.files.proofs.read_full.Goals as goal

pub loop-preserved : goal.loop-preserved
loop-preserved g c =
    let row = c.loop.buffer in
    let new = c.read.new.buf in
    let done = c.loop.done in
    let k = length row - done in
    let first = g.R.Read.remaining c.args.reader.now in
    let before = g.R.Read.remaining c.loop.reader in
    let after = g.R.Read.remaining c.read.new.self in
    let fits = c.loop.invariant.0 in
    elim c.match-read.branch [
      | in-Ok w ↦
          let n = w.in-Ok.n in
          rw w.done-is (
            room_more row new done k n fits w.in-Ok.ensures.bound.0,
            subst (Consumes first after) (sym (front_more row new done k n fits w.in-Ok.ensures.bound.0))
                (consumes_more first before after (take done row) (take n new) c.loop.invariant.1 w.in-Ok.ensures.bytes.0),
          )
      | in-Err w ↦
          rw w.done-is (
            omega (arith, room_more row new done k 0 fits (omega arith)),
            subst (Consumes first after) (sym (take-put_mid_below done k row new done (omega arith) fits))
                (consumes_kept first before after (take done row) c.loop.invariant.1 w.in-Err.ensures.bytes),
          )
    ]
