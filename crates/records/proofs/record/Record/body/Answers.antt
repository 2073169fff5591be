use mathlib.Core.Path.{sym, ap, ◌∙◌}
use native.Mathlib.Omega.{arith}
use Rattle.std.proofs.Common.{rules}
use Rattle.spec.specs.Record.{kind, flags, field_ty, local_ty}
use Rattle.records.proofs.Fits.{six, long}
use Rattle.records.proofs.record.Record.body.Goals as goal

pub head_in-requires : goal.head_in-requires
head_in-requires c = omega (arith, long c.self.invariant 1 (c.in-Class.ensures ∙ sym (ap kind c.self.view_is)))

pub target_in-requires : goal.target_in-requires
target_in-requires c = six c.self.invariant

pub word_in-requires : goal.word_in-requires
word_in-requires c = omega (arith, six c.self.invariant)

pub ty_in-requires : goal.ty_in-requires
ty_in-requires c = omega (arith, long c.self.invariant 3 (c.in-Field.ensures ∙ sym (ap kind c.self.view_is)))

pub ty_in-requires-in-Local : goal.ty_in-requires-in-Local
ty_in-requires-in-Local c = omega (arith, long c.self.invariant 4 (c.in-Local.ensures ∙ sym (ap kind c.self.view_is)))

pub target_in-requires-in-Uses : goal.target_in-requires-in-Uses
target_in-requires-in-Uses c = six c.self.invariant

pub index_in-requires : goal.index_in-requires
index_in-requires c = long c.self.invariant 5 (c.in-Uses.ensures ∙ sym (ap kind c.self.view_is))

pub target_in-requires-in-Builds : goal.target_in-requires-in-Builds
target_in-requires-in-Builds c = six c.self.invariant

pub word_in-requires-in-Member : goal.word_in-requires-in-Member
word_in-requires-in-Member c = omega (arith, six c.self.invariant)

pub target_in-requires-in-Refers : goal.target_in-requires-in-Refers
target_in-requires-in-Refers c = six c.self.invariant

pub index_in-requires-in-Refers : goal.index_in-requires-in-Refers
index_in-requires-in-Refers c = long c.self.invariant 8 (c.in-Refers.ensures ∙ sym (ap kind c.self.view_is))

pub returns-in-Field : goal.returns-in-Field
unfolding flags field_ty
returns-in-Field c = search rules

pub returns-in-Local : goal.returns-in-Local
unfolding local_ty
returns-in-Local c = search rules

pub returns-in-Member : goal.returns-in-Member
unfolding flags
returns-in-Member c = search rules
