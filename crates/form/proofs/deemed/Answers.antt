-- In the loop no lower class was refused, and the memo knows the lower classes.
use mathlib.Core.Path.{◌≡◌, ap, ◌∙◌}
use Prim.Native.Nat.{◌+◌, ◌≤◌, ◌<◌, min}
use native.Mathlib.Nat.{le_refl}
use Rattle.sheets.specs.Sheets.{groups, library_count}
use Rattle.overlay.specs.Memo.{memo_of}
use native.Mathlib.Omega.{arith}
use Rattle.overlay.proofs.Memos.{library_low}
use Rattle.overlay.proofs.Recursion.{formed_falls}
use Rattle.form.proofs.Accepting.{deemed_found, deemed_none}
use Rattle.form.proofs.Deeming.{deem_begin, deem_asks, deem_stop, deem_on, deem_end}
use Rattle.form.proofs.deemed.Goals as goal

pub loop-c-init : goal.loop-c-init
loop-c-init c = deem_begin c.requires.memo

pub overlay-requires-clause-there : goal.overlay-requires-clause-there
overlay-requires-clause-there c = omega (arith, c.loop-c-test.true, c.library_count-c-end.ensures.count, library_low c.args.formed.now.sheets)

pub overlay-requires-clause-knows : goal.overlay-requires-clause-knows
overlay-requires-clause-knows c =
    deem_asks c.loop-c.invariant (omega (arith, c.loop-c-test.true, c.library_count-c-end.ensures.count, library_low c.args.formed.now.sheets, c.args.formed.now.passed.few))

pub start-requires : goal.start-requires
start-requires c = omega (arith, c.loop-c-test.true, c.library_count-c-end.ensures.count, library_low c.args.formed.now.sheets)

pub returns-then-deemed_breaks : goal.returns-then-deemed_breaks
returns-then-deemed_breaks c =
    let low : c.loop-c.c < library_count c.args.formed.now.sheets = omega (arith, c.loop-c-test.true, c.library_count-c-end.ensures.count) in
    let few : library_count c.args.formed.now.sheets ≤ 256 = omega (arith, library_low c.args.formed.now.sheets, c.args.formed.now.passed.few) in
    let r = deem_stop c.loop-c.invariant few low c.overlay.ensures.markers c.deemed_breaks.ensures c.overlay.ensures.memo c.if-deemed_breaks.true in
    record { answer = deemed_found c.library_count-c-end.ensures.passed r.0 low c.start.ensures; memo = rw (← r.0) r.1 }

pub loop-c-preserved : goal.loop-c-preserved
loop-c-preserved c =
    deem_on c.loop-c.invariant (omega (arith, library_low c.args.formed.now.sheets, c.args.formed.now.passed.few)) (omega (arith, c.loop-c-test.true, c.library_count-c-end.ensures.count))
    c.overlay.ensures.markers c.deemed_breaks.ensures c.overlay.ensures.memo c.if-deemed_breaks.false

pub returns : goal.returns
returns c =
    let n = library_count c.args.formed.now.sheets in
    let past : c.loop-c.c < n → ⊥ = λ h. omega (arith, c.loop-c-test.false, c.library_count-c-end.ensures.count) in
    let r = deem_end c.loop-c.invariant past in
    let k : min n (n + 1) ≡ n = omega arith in
    record { answer = (deemed_none c.library_count-c-end.ensures.passed r.0 (le_refl n), r.1 ∙ ap (memo_of (groups c.args.formed.now.sheets)) k); memo = rw (← r.0) r.1 }

pub invariant_of-falling : goal.invariant_of-falling
invariant_of-falling c = record { passed = c.args.formed.now.passed; falls = formed_falls c.args.formed.now.sheets c.args.formed.now.formed }
