use Rattle.std.proofs.Common.{subst}
use Rattle.search_race_free.specs.Search.{IsCameFirst}
use Rattle.search_race_free.proofs.Beginning.{begun-known, known-owned}
use Rattle.search_race_free.proofs.trace.step_over.Goals as goal

pub loop-step-init : goal.loop-step-init
loop-step-init g c =
    let m = c.args.system.now in
    let k = g.M.Moves.threads m in
    record {
      owned = known-owned k (g.met.M.Moves.tame m) (g.met.M.Accesses.plain m) c.in-To.first
          (begun-known k (g.met.M.Moves.tame m) (g.met.M.Accesses.plain m) c.in-To.first
          (subst (IsCameFirst k (g.M.Moves.stuck m)) c.in-To.is c.in_ok-first.ensures));
    }
