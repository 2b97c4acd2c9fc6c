use Rattle.std.proofs.Common.{◌∙◌, ap}
use Rattle.std.specs.Option.{option_map}
use Rattle.std.proofs.lemmas.Option.{slice_get-map}
use Rattle.types.specs.declared.parts.Global.{Global}
use Rattle.validate_instructions.proofs.scope.Scope.global.Goals as goal

pub returns : goal.returns
returns c =
    slice_get-map (λ (g : Global). g.global_type) c.args.self.now.declared.globals.now c.args.index
    ∙ ap (option_map (λ (g : Global). g.global_type)) c.in_ok-global.ensures
