use Rattle.std.proofs.Common.{◌∙◌}
use Rattle.validate_module_rules.proofs.Order.{in_order, both_are, start_is}
use Rattle.validate_module_rules.proofs.whole.fault_of_uses.Goals as goal

pub returns : goal.returns
returns c =
    let to_data = in_order c.or-2.result _ _ _ _ c.or-3.ensures c.or-4.ensures in
    let to_elements = in_order c.or.result _ _ _ _ c.or-2.ensures to_data in
    let all = in_order c.fault_of_exports.result _ _ _ _ c.or.ensures to_elements in
    let start = start_is c.args.parts.now.start c.is_none.result _ c.is_none.ensures c.unless.ensures in
    all ∙ both_are c.fault_of_exports.ensures
    (both_are start (both_are c.fault_of_elements.ensures (both_are c.fault_of_data.ensures c.fault_of_threads.ensures)))
