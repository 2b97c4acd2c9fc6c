use Rattle.std.proofs.Common.{sym, subst}
use Rattle.types.specs.declared.parts.Parts.{Parts}
use Rattle.interp.proofs.Starting.{IsWithin, elements_within}
use Rattle.interp.proofs.opening.program.Goals as goal

pub opening_table-requires : goal.opening_table-requires
opening_table-requires c = subst (λ (m : Parts). IsWithin m) (sym c.parts-parts.ensures.parts)
    (elements_within c.args.valid.now.parts c.parts-parts.ensures.validated.valid)
