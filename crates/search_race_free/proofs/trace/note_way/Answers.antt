use Rattle.std.proofs.Common.{subst, sym}
use Rattle.search_settled.proofs.Threads.{if-some-at}
use Rattle.search_race_free.specs.Search.{IsCameFirst, IsOwned}
use Rattle.search_race_free.proofs.Beginning.{begun-known, known-owned}
use Rattle.search_race_free.proofs.trace.note_way.Goals as goal
use Rattle.search_race_free.proofs.trace.note_way.Goals.{in-Some+in_ok-next+in-Some-2, in_default-thread_before}

pub loop-step-init : goal.loop-step-init
loop-step-init g c =
    let m = c.args.system.now in
    let k = g.M.Moves.threads m in
    record {
      owned = known-owned k (g.met.M.Moves.tame m) (g.met.M.Accesses.plain m) c.in-To.first
          (begun-known k (g.met.M.Moves.tame m) (g.met.M.Accesses.plain m) c.in-To.first
          (subst (IsCameFirst k (g.M.Moves.stuck m)) c.in-To.is c.in_ok-first.ensures));
    }

pub note_onward-requires : goal.note_onward-requires
note_onward-requires g c =
    let k = g.M.Moves.threads c.args.system.now in
    elim c.match-thread_before.branch [
      | in-Some+in_ok-next+in-Some-2 w ↦
          subst (IsOwned k) (sym w.at-is) (if-some-at (IsOwned k) w.in_ok-next.field-0 w.in-Some-2.next w.in-Some-2.is w.in_ok-next.ensures)
      | in_default-thread_before w ↦ subst (IsOwned k) (sym w.at-is) c.loop-step.invariant.owned
    ]
