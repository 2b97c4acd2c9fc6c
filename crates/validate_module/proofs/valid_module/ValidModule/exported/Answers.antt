use Rattle.std.proofs.Common.{◌∙◌, sym, ap}
use Rattle.validate_module_rules.specs.Faults.{exported_in}
use Rattle.validate_module_rules.proofs.ExportLaws.{exported_from, exported_is}
use Rattle.validate_module.proofs.valid_module.ValidModule.exported.Goals as goal

pub returns : goal.returns
returns c own =
    let is = c.exported_function.ensures ∙ ap (λ m. exported_in m c.args.name.now) c.parts.ensures.parts in (
      λ h. exported_from c.args.self.now.parts c.args.name.now own (sym is ∙ h),
      λ x. is ∙ exported_is c.args.self.now.parts c.args.name.now own c.parts.ensures.validated.valid.export_names x,
    )
