use Rattle.std.proofs.Common.{◌∙◌, sym, ap, length}
use Rattle.spec.specs.Sheet.{of_kind}
use Rattle.records.proofs.Lined.{all_between, all_lined}
use Rattle.records.proofs.count_in.Goals as goal

pub new-requires : goal.new-requires
new-requires c = all_lined c.requires

pub returns : goal.returns
returns c = c.of_kind.ensures ∙ ap (λ rs. length (of_kind c.args.kind rs)) (c.new.ensures.records ∙ sym (all_between c.args.bytes.now))
