use Rattle.std.proofs.Common.{◌≡◌, ◌≤◌, ◌∙◌, length, replicate, ap, arith}
use Rattle.std.proofs.lemmas.List.{length-take}
use Rattle.laws.proofs.Rows.{set_below}
use Rattle.sheets.specs.Sheets.{groups, library_count}
use Rattle.overlay.proofs.Memos.{library_low}
use Rattle.breaks.specs.declared.bans.Ban.{Ban}
use Rattle.breaks.specs.Bans.{ban_of, nothing}
use Rattle.breaks.proofs.Banning.{ban_all}
use Rattle.breaks.proofs.bans.note_bans.Goals as goal

pub loop-d-init : goal.loop-d-init
loop-d-init c = λ d h. absurd (omega arith)

pub group-requires : goal.group-requires
group-requires c = omega (arith, library_low c.args.sheets.now, length-take {A = Ban} c.library_count.result (replicate 256 nothing))

pub loop-d-preserved : goal.loop-d-preserved
loop-d-preserved c =
    set_below nothing (λ d b. b ≡ ban_of (groups c.args.sheets.now d)) _ _ _ (omega arith) c.loop-d.invariant (c.of.ensures ∙ ap ban_of c.group.ensures)

pub returns : goal.returns
returns c =
    let few : library_count c.args.sheets.now ≤ 256 = omega (arith, c.library_count.ensures.passed.few, library_low c.args.sheets.now) in
    let all : length c.loop-d.ban-items ≡ library_count c.args.sheets.now = omega (arith, few, length-take {A = Ban} c.library_count.result (replicate 256 nothing)) in
    rw (c.requires.fresh, c.library_count.ensures.count) (ban_all _ few all (λ d h. c.loop-d.invariant d (omega (arith, all))))
