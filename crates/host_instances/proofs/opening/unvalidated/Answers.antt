use Rattle.std.proofs.Common.{◌≡◌, length, None, sym, ◌∙◌, ap, subst}
use Rattle.types.specs.declared.parts.Parts.{Parts}
use Rattle.types.specs.Modules.{IsModule}
use Rattle.report_memory.specs.Laid.{unlaid}
use Rattle.host_instances.specs.Instances.{blank}
use Rattle.host_instances.proofs.Begins.{can_be_laid}
use Rattle.host_instances.proofs.Blank.{module_blank}
use Rattle.host_instances.proofs.opening.unvalidated.Goals as goal

pub lay_first-requires : goal.lay_first-requires
lay_first-requires c = λ some.
    let m = c.args.module.now.parts in
    let same : c.in-Ok.module ≡ blank m c.args.pages =
    c.in-Ok.ensures.ok.0 ∙ (c.in_ok-parts.ensures ∙ ap (λ (own : Parts). blank own c.args.pages) c.parts.ensures.parts) in
    subst (λ (n : Parts). unlaid n 0 (length c.args.bytes.now) ≡ None) (sym same)
    (can_be_laid m c.args.pages c.requires.within c.args.bytes.now some c.requires.whole)

-- the parts are those of a module
pub unreachable-requires : goal.unreachable-requires
unreachable-requires c =
    let m = c.args.module.now.parts in
    let same : c.in_ok-parts.parts ≡ blank m c.args.pages = c.in_ok-parts.ensures ∙ ap (λ (own : Parts). blank own c.args.pages) c.parts.ensures.parts in
    c.in-Err.ensures.err.1 (subst IsModule (sym same) (module_blank m c.args.pages c.requires.within c.parts.ensures.tested))
