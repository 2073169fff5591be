-- Past the end no record stands.
use Rattle.std.proofs.Common.{◌<◌, length, sym, ◌∙◌, rules, tests}
use Rattle.reader.proofs.Reading.{none_past}
use Rattle.reader.proofs.Reader.length.Goals as goal

pub returns-in_err-get-clause-length : goal.returns-in_err-get-clause-length
returns-in_err-get-clause-length c =
    let past : length c.args.self.now.bytes.now < c.args.self.now.at = search (rules, tests) in
    c.from_residual.ensures ∙ sym (none_past _ _ past)
