use Rattle.std.proofs.Common.{◌∙◌, ap, is_some}
use Rattle.types.specs.declared.parts.Export.{Export}
use Rattle.validate_module_rules.specs.Faults.{is_named}
use Rattle.validate_module_rules.proofs.Names.{any_found}
use Rattle.validate_module_rules.proofs.exports.has_name.Goals as goal

pub returns : goal.returns
returns c =
    c.is_some.ensures ∙ ap is_some c.find_export.ensures ∙ any_found (λ (e : Export). e.desc) (is_named c.args.name.now) c.args.exports.now
