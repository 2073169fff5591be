-- A root, an interface, or a class with its superclass.
use Rattle.std.proofs.Common.{◌≡◌, ◌∙◌, ap, arith, false}
use Rattle.spec.specs.Sheet.{Group, class_record}
use Rattle.records.specs.Kinds.{head_of}
use Rattle.sheets.specs.Sheets.{groups, library_count}
use Rattle.slots.specs.Slots.{HeadSet}
use Rattle.survey.proofs.Lines.{Concrete, class_library, interface_is, class_interface, above_there, above_low, class_user}
use Rattle.survey.proofs.class_set.Goals as goal
use Rattle.survey.proofs.class_set.Goals.{After-head_set-first, After-is_interface}

head_is : (c : After-head_set-first) → c.head-head.result ≡ head_of (class_record (groups c.args.judging.now.formed.now.sheets c.args.t))
head_is c = c.head-head.ensures ∙ ap (λ (h : Group). head_of (class_record h)) c.group-group.ensures

first_is : (c : After-head_set-first) → let j = c.args.judging.now in HeadSet j.markers.now c.head-head.result (library_count j.formed.now.sheets) c.args.t c.head_set-first.result
first_is c = rw c.library_count-nlib.ensures.count at c.head_set-first.ensures

concrete : (c : After-is_interface) → c.head-head.result ≡ head_of (class_record (groups c.args.judging.now.formed.now.sheets c.args.t)) → c.is_interface.result ≡ false
    → Concrete c.args.judging.now.formed.now.sheets c.args.t c.head-head.result
concrete c e i = record {
  passed = c.args.judging.now.formed.now.passed;
  user_class = omega (arith, c.if-t-nlib.false, c.library_count-nlib.ensures.count);
  there = c.requires.there;
  says = e;
  concrete = interface_is _ _ e c.is_interface.ensures ∙ i;
}

pub returns-then-t-nlib : goal.returns-then-t-nlib
returns-then-t-nlib c =
    let j = c.args.judging.now in
    class_library _ j.formed.now.formed (omega (arith, c.if-t-nlib.true, c.library_count-nlib.ensures.count)) j.known (first_is (goal.at.returns-then-t-nlib c).After-head_set-first)

pub returns-then-is_interface : goal.returns-then-is_interface
returns-then-is_interface c =
    let e = head_is (goal.at.returns-then-is_interface c).After-head_set-first in
    class_interface _ _ (interface_is _ _ e c.is_interface.ensures ∙ c.if-is_interface.true)

pub unreachable-requires : goal.unreachable-requires
unreachable-requires c =
    let at = goal.at.unreachable-requires c in
    above_there _ c.args.judging.now.formed.now.formed (concrete at.After-is_interface (head_is at.After-head_set-first) c.if-is_interface.false) c.in_default.is

pub bounds-sets-above : goal.bounds-sets-above
bounds-sets-above c =
    let f = c.args.judging.now.formed.now in
    let at = goal.at.bounds-sets-above c in
    let low = above_low _ f.formed (concrete at.After-is_interface (head_is at.After-head_set-first) c.if-is_interface.false) c.in-Some.is in
    omega (arith, low, c.requires.passing.long, c.requires.there, f.passed.few)

pub returns : goal.returns
returns c =
    let j = c.args.judging.now in
    let at = goal.at.returns c in
    class_user _ j.formed.now.formed (concrete at.After-is_interface (head_is at.After-head_set-first) c.if-is_interface.false) j.known j.shown (first_is at.After-head_set-first)
    c.captured_set.ensures c.common-fixed.result c.common-fixed.ensures (rw (c.records.ensures.records, c.group-group.ensures) at c.fields_set.ensures)
    c.common-own.result c.common-own.ensures c.in-Some.is c.requires.passing c.common.ensures
