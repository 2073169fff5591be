-- One name that opens every definition: a claim by computation says `unfolding evaluation`.
-- Assumes nothing.
use Rattle.spec.specs.Lists.{any, all, keep, concat, count, numbered, only_if, first_of, gather, elem, same_list, span, ascending, fresh, rounds, reach}
use Rattle.spec.specs.Record.{u8, u16, bit, kind, by_kind, flags, own_markers, zero_byte, superclass, encloser, class_name, target, index, ty_at, field_ty, local_ty, is_final, is_transient, is_static}
use Rattle.spec.specs.Record.{unless_none, ty_references, references, kind_fits, with_name, length_fits, name_fits, ty_fits, class_flags_fit, body_fits}
use Rattle.spec.specs.Sheet.{whole_first, records_in, records_of, whole_end, split_groups, groups_of, class_count, group_start, total, group, class_record, group_references, of_kind, is_interface}
use Rattle.spec.specs.Sheet.{is_inner, is_allowed, is_static_field, is_instance_field, locate, located_in, located}
use Rattle.spec.specs.Markers.{markers, gives, implies, is_closed, contains, union, union_all, closures, closure, sets, singles, is_least_in, clash}
use Rattle.spec.specs.Classes.{superclasses, enclosing, targets, supertypes, locals, local_at, used_indexes, class_ty, field_slot, encloser_slot, variable_slot, gathered, overlay, has_marker}
use Rattle.spec.specs.Classes.{satisfies, enclosers_in, enclosers, inside, builds_inside, captured_of, captured, encloser_slots, field_slots, captured_slots, own_slots, lineage_in, lineage, root_in}
use Rattle.spec.specs.Classes.{root, slots}
use Rattle.spec.specs.Rules.{slot_fault, fault_if, faults_at, member_allowed, judged_for, root_fits, base_fits, base_faults, forbidden, slot_faults, root_faults, rule1, rule2, rule3, rule4, rule5}
use Rattle.spec.specs.Rules.{rule6, rule7, rule8, rule9, rule10, rules, first_broken, verdict_of, dependencies}
use Rattle.spec.specs.Refusals.{refuse_if, refuse_plain, refuse_record, size_refusal, torn_refusal, record_tests, record_refusal, no_class_refusal, no_such_class, encloser_fits, no_such_index}
use Rattle.spec.specs.Refusals.{superclass_fits, implements_fits, uses_fits, name_met, form_tests, deemed_tests, form_refusal, deemed_refusal, sheet_refusal, new_refusal, present_refusal}
use Rattle.spec.specs.Refusals.{short_refusal, no_user_refusal, unused_refusal, one_class, whole_group, group_refusal, room_refusal, added_sheet, replaced_sheet, judge_refusal, add_refusal}
use Rattle.spec.specs.Refusals.{replace_refusal, query_refusal, judge_numbers, empty_refusal, last_class, named_refusal, few_lines_refusal, withdrawn_sheet, withdraw_refusal, record_numbers}
use Rattle.spec.specs.Refusals.{few_places_refusal, no_name_refusal, index_refusal, lookup_refusal}
use Rattle.spec.specs.Refusals.{plain_numbers, present_numbers, add_numbers, replace_numbers, withdraw_numbers, query_numbers, index_numbers, lookup_numbers}
use Rattle.spec.specs.Verdicts.{verdict_at, user_verdict, faulted, faulted_count, depends_on, dependent_count, flat_lines, flat_at, bytes_of, map_from, flat_byte, flat_rewritten}
use Rattle.spec.specs.Index.{fingerprint_with, fingerprint, home, is_free, next_place, free_from, entered, name_of, has_name, index_of, found_from, found_in, lowest_named, met_through}
use Rattle.spec.specs.Index.{names_index, class_named}
use Rattle.spec.specs.Promises.{answer_of, afterwards, cleared, counts_of, judged_row, buffer_with, edited, addition, replacement, withdrawal, bytes_at, name_part, indexed}

unfoldable pub evaluation : Unit {0}
unfolding any all keep concat count numbered only_if first_of gather elem same_list span ascending fresh rounds reach u8 u16 bit kind by_kind flags own_markers zero_byte
    superclass encloser class_name target index ty_at field_ty local_ty is_final is_transient is_static unless_none ty_references references kind_fits with_name length_fits name_fits ty_fits
    class_flags_fit body_fits whole_first records_in records_of whole_end split_groups groups_of class_count group_start total group class_record group_references of_kind is_interface is_inner
    is_allowed is_static_field is_instance_field locate located_in located markers gives implies is_closed contains union union_all closures closure sets singles is_least_in clash
    superclasses enclosing targets supertypes locals local_at used_indexes class_ty field_slot encloser_slot variable_slot gathered overlay has_marker satisfies enclosers_in enclosers
    inside builds_inside captured_of captured encloser_slots field_slots captured_slots own_slots lineage_in lineage root_in root slots slot_fault fault_if faults_at member_allowed judged_for
    root_fits base_fits base_faults forbidden slot_faults root_faults rule1 rule2 rule3 rule4 rule5 rule6 rule7 rule8 rule9 rule10 rules first_broken verdict_of dependencies
    refuse_if refuse_plain refuse_record size_refusal torn_refusal record_tests record_refusal no_class_refusal no_such_class encloser_fits no_such_index superclass_fits implements_fits uses_fits
    name_met form_tests deemed_tests form_refusal deemed_refusal sheet_refusal new_refusal present_refusal short_refusal no_user_refusal unused_refusal one_class whole_group group_refusal
    room_refusal empty_refusal last_class named_refusal few_lines_refusal added_sheet replaced_sheet withdrawn_sheet judge_refusal add_refusal replace_refusal withdraw_refusal query_refusal
    record_numbers plain_numbers present_numbers judge_numbers add_numbers replace_numbers withdraw_numbers query_numbers verdict_at user_verdict faulted faulted_count depends_on
    dependent_count flat_lines flat_at bytes_of map_from flat_byte flat_rewritten answer_of afterwards cleared counts_of judged_row buffer_with edited addition replacement withdrawal
    bytes_at name_part few_places_refusal no_name_refusal index_refusal lookup_refusal index_numbers lookup_numbers fingerprint_with fingerprint home is_free next_place free_from entered
    name_of has_name index_of found_from found_in lowest_named met_through names_index class_named indexed
evaluation = tt
