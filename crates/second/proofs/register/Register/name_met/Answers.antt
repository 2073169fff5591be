use Rattle.std.proofs.Common.{ap, ◌∙◌, List, Bool, get_or, false}
use Rattle.sheets.specs.Sheets.{groups}
use Rattle.names.proofs.Filling.{met_entry}
use Rattle.second.proofs.register.Register.name_met.Goals as goal

pub returns : goal.returns
returns c =
    let self = c.args.self.now in
    ap (λ (row : List Bool). get_or row c.args.c false) self.named ∙ met_entry (groups self.sheets.now) _ c.requires self.passed.few
