use Rattle.std.proofs.Common.{◌≡◌, ◌∙◌, false, length, drop, replicate, ap, arith}
use lib.Seq.{drop_at}
use Rattle.std.proofs.lemmas.List.{length-take}
use Rattle.laws.proofs.Rows.{set_below}
use Rattle.sheets.specs.Sheets.{count}
use Rattle.second.specs.declared.register.Asked.{Asked}
use Rattle.second.specs.Second.{asked_of}
use Rattle.second.proofs.Asking.{heads_are}
use Rattle.second.proofs.register.note_asked.Goals as goal

pub loop-c-preserved : goal.loop-c-preserved
loop-c-preserved c = λ d e. set_below e (λ i v. v ≡ asked_of c.args.sheets.now i) _ _ _ (omega arith) (λ i h. c.loop-c.invariant i e h) c.asked_of.ensures d

pub returns-clause-heads : goal.returns-clause-heads
returns-clause-heads c =
    let all : length c.loop-c.entry-items ≡ count c.args.sheets.now =
    omega (arith, length-take {A = Asked} c.count.result (replicate 256 (record { interface = false; indexed = 0 })), c.count.ensures.passed.few) in
    heads_are c.count.ensures.passed _ _ all (λ d e h. c.loop-c.invariant d e (omega (arith, all)))

pub returns-clause-rest : goal.returns-clause-rest
returns-clause-rest c =
    let all : length c.loop-c.entry-items ≡ count c.args.sheets.now =
    omega (arith, length-take {A = Asked} c.count.result (replicate 256 (record { interface = false; indexed = 0 })), c.count.ensures.passed.few, c.count.ensures.count) in
    drop_at c.loop-c.entry-items _ (count c.args.sheets.now) all ∙ ap (λ n. drop n c.args.asked.now) c.count.ensures.count
