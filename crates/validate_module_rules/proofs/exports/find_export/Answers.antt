use Rattle.std.proofs.Common.{◌∙◌, sym, ap, arith}
use Rattle.std.specs.Option.{option_map}
use Rattle.types.specs.declared.parts.Export.{Export}
use Rattle.validate_module_rules.specs.Faults.{is_named}
use Rattle.validate_module_rules.proofs.Names.{found_at, found_later}
use Rattle.validate_module_rules.proofs.exports.find_export.Goals as goal

pub returns-then-is_named : goal.returns-then-is_named
returns-then-is_named c =
    let p = is_named c.args.name.now in
    let found = found_at p c.args.exports.now c.loop-export.export-index c.export-item.result (omega arith) c.export-item.is
    c.loop-export.invariant (sym c.is_named.ensures ∙ c.if-is_named.true) in
    sym (ap (option_map (λ (e : Export). e.desc)) found)

pub loop-export-preserved : goal.loop-export-preserved
loop-export-preserved c =
    let p = is_named c.args.name.now in
    found_later p c.args.exports.now c.loop-export.export-index c.export-item.result (omega arith) c.export-item.is
    c.loop-export.invariant (sym c.is_named.ensures ∙ c.if-is_named.false)
