use Rattle.std.proofs.Common.{◌≡◌, rules, sym, subst}
use Rattle.types.specs.Modules.{IsModule}
use Rattle.report_memory.specs.Laid.{laid}
use Rattle.report_memory.proofs.Lying.{module_laid}
use Rattle.report_memory.proofs.laying.laid.Goals as goal

-- the parts are those of a module
pub unreachable-requires : goal.unreachable-requires
unreachable-requires c =
    let m = c.args.module in
    let same : c.with_segments.result ≡ laid m c.args.addr c.args.bytes.now = search rules in
    c.in-Err.ensures.err.1 (subst IsModule (sym same) (module_laid m c.args.addr c.args.bytes.now c.requires c.into_parts-parts.ensures.tested))
