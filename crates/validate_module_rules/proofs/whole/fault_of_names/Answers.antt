use Rattle.std.proofs.Common.{◌∙◌, ap}
use Rattle.validate_module_rules.specs.Faults.{types_fault, tables_fault, memories_fault, global_fault, first_of}
use Rattle.validate_module_rules.proofs.Order.{in_order, both_are}
use Rattle.validate_module_rules.proofs.whole.fault_of_names.Goals as goal

pub returns : goal.returns
returns c =
    let to_memories = in_order c.or-3.result _ _ _ _ c.or-4.ensures c.or-5.ensures in
    let to_tables = in_order c.or-2.result _ _ _ _ c.or-3.ensures to_memories in
    let to_functions = in_order c.or.result _ _ _ _ c.or-2.ensures to_tables in
    let all = in_order c.fault_of_types.result _ _ _ _ c.or.ensures to_functions in
    let types = c.fault_of_types.ensures ∙ ap types_fault c.as_slice.ensures in
    let tables = c.fault_of_tables.ensures ∙ ap tables_fault c.as_slice-2.ensures in
    let memories = c.fault_of_memories.ensures ∙ ap memories_fault (c.deref.ensures.value ∙ c.requires.memories) in
    let globals = c.fault_of_globals.ensures ∙ ap (first_of global_fault) c.as_slice-3.ensures in
    all ∙ both_are types (both_are c.fault_of_imports.ensures (both_are c.fault_of_functions.ensures (both_are tables (both_are memories globals))))
