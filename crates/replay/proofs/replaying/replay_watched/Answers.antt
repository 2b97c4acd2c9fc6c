use Rattle.std.proofs.Common.{refl, ◌∙◌, subst, Ok}
use Rattle.spawn_host.specs.declared.end.EndState.{EndState}
use Rattle.std.proofs.lemmas.Result.{err_from_is_err_and}
use Rattle.interp.specs.Threads.{meaning_in}
use Rattle.schedule_runs.specs.Runs.{Start}
use Rattle.replay_text.specs.declared.parts.RecordParts.{RecordParts}
use Rattle.replay_rules.specs.Recorded.{IsRecordedRun}
use Rattle.replay_walk.specs.Walked.{start}
use Rattle.replay.specs.Runs.{IsReplayFault, ShowsNoRun}
use Rattle.replay.proofs.Ready.{can_begin}
use Rattle.replay.proofs.Faults.{is_run, of_scale, of_call, of_walk, no_run}
use Rattle.replay.specs.Watching.{SeesRefused, SeesReplay}
use Rattle.replay.proofs.Seeing.{unseen_scale, unseen_call, seen_fault, seen_end}
use Rattle.replay.proofs.replaying.replay_watched.Goals as goal

pub returns-in_err-check_scale-clause-fault : goal.returns-in_err-check_scale-clause-fault
returns-in_err-check_scale-clause-fault g c =
    let p = err_from_is_err_and c.from_residual.result c.from_residual.ensures.1 in
    let m = c.args.module.now.parts in
    let e = c.in_err-check_scale.field-0.0 in
    rw (p.1, p.2) (subst (λ (r : RecordParts). IsReplayFault m r e) c.parts-parts.ensures.parts
    (of_scale m c.parts-parts.result.now e c.in_err-check_scale.ensures.fault))

pub returns-in_err-check_scale-clause-none : goal.returns-in_err-check_scale-clause-none
returns-in_err-check_scale-clause-none g c =
    let p = err_from_is_err_and c.from_residual.result c.from_residual.ensures.1 in
    let m = c.args.module.now.parts in
    let r = c.parts-parts.result.now in
    let e = c.in_err-check_scale.field-0.0 in
    rw (p.1, p.2) (subst (λ (x : RecordParts). ShowsNoRun m x e) c.parts-parts.ensures.parts
    (no_run m r c.has_distinct_names.ensures e (of_scale m r e c.in_err-check_scale.ensures.fault)))

pub returns-in_err-threads-clause-fault : goal.returns-in_err-threads-clause-fault
returns-in_err-threads-clause-fault g c =
    let p = err_from_is_err_and c.from_residual-in_err-threads.result c.from_residual-in_err-threads.ensures.1 in
    let m = c.args.module.now.parts in
    let fit = c.in_ok-check_scale.ensures.fits in
    let e = c.in_err-threads.field-0.0 in
    rw (p.1, p.2) (subst (λ (r : RecordParts). IsReplayFault m r e) c.parts-parts.ensures.parts
    (of_call m c.parts-parts.result.now fit.0 fit.1 e c.in_err-threads.ensures.fault))

pub returns-in_err-threads-clause-none : goal.returns-in_err-threads-clause-none
returns-in_err-threads-clause-none g c =
    let p = err_from_is_err_and c.from_residual-in_err-threads.result c.from_residual-in_err-threads.ensures.1 in
    let m = c.args.module.now.parts in
    let fit = c.in_ok-check_scale.ensures.fits in
    let r = c.parts-parts.result.now in
    let e = c.in_err-threads.field-0.0 in
    rw (p.1, p.2) (subst (λ (x : RecordParts). ShowsNoRun m x e) c.parts-parts.ensures.parts
    (no_run m r c.has_distinct_names.ensures e (of_call m r fit.0 fit.1 e c.in_err-threads.ensures.fault)))

pub walk-requires-clause-ready : goal.walk-requires-clause-ready
walk-requires-clause-ready g c =
    let m = c.args.module.now.parts in
    let r = c.parts-parts.result.now in
    let b = can_begin meaning_in m r c.has_distinct_names.ensures c.in_ok-threads.threads.items c.in_ok-opening.field-0
    c.in_ok-threads.ensures.threads c.in_ok-opening.ensures.opened in
    (b.run, b.ready)

pub returns-in_err-memory-clause-fault : goal.returns-in_err-memory-clause-fault
returns-in_err-memory-clause-fault g c =
    let p = err_from_is_err_and c.from_residual-in_err-memory.result c.from_residual-in_err-memory.ensures.1 in
    let m = c.args.module.now.parts in
    let fit = c.in_ok-check_scale.ensures.fits in
    let r = c.parts-parts.result.now in
    let e = c.in_err-memory.field-0.0 in
    let b = can_begin meaning_in m r c.has_distinct_names.ensures c.in_ok-threads.threads.items c.in_ok-opening.field-0
    c.in_ok-threads.ensures.threads c.in_ok-opening.ensures.opened in
    rw (p.1, p.2) (subst (λ (x : RecordParts). IsReplayFault m x e) c.parts-parts.ensures.parts
    (of_walk m r fit.0 fit.1 b.beginning (start b.run) b.same e (c.in_err-memory.ensures.fault b.run b.ready)))

pub returns-in_err-memory-clause-none : goal.returns-in_err-memory-clause-none
returns-in_err-memory-clause-none g c =
    let p = err_from_is_err_and c.from_residual-in_err-memory.result c.from_residual-in_err-memory.ensures.1 in
    let m = c.args.module.now.parts in
    let fit = c.in_ok-check_scale.ensures.fits in
    let r = c.parts-parts.result.now in
    let e = c.in_err-memory.field-0.0 in
    let b = can_begin meaning_in m r c.has_distinct_names.ensures c.in_ok-threads.threads.items c.in_ok-opening.field-0
    c.in_ok-threads.ensures.threads c.in_ok-opening.ensures.opened in
    let fault = of_walk m r fit.0 fit.1 b.beginning (start b.run) b.same e (c.in_err-memory.ensures.fault b.run b.ready) in
    rw (p.1, p.2) (subst (λ (x : RecordParts). ShowsNoRun m x e) c.parts-parts.ensures.parts (no_run m r c.has_distinct_names.ensures e fault))

pub returns-clause-run : goal.returns-clause-run
returns-clause-run g c =
    let m = c.args.module.now.parts in
    let fit = c.in_ok-check_scale.ensures.fits in
    let r = c.parts-parts.result.now in
    let b = can_begin meaning_in m r c.has_distinct_names.ensures c.in_ok-threads.threads.items c.in_ok-opening.field-0
    c.in_ok-threads.ensures.threads c.in_ok-opening.ensures.opened in
    is_run m r c.args.record.now c.parts-parts.ensures.parts b.beginning c.in_ok-memory.memory
    (subst (λ (s : Start). IsRecordedRun s r c.in_ok-memory.memory) b.same (c.in_ok-memory.ensures.run b.run b.ready)) fit.0 fit.1 _
    (c.in_ok-ends.ensures.items ∙ c.as_slice.ensures) refl c.into_bytes.ensures

pub returns-in_err-check_scale-clause-seen : goal.returns-in_err-check_scale-clause-seen
returns-in_err-check_scale-clause-seen g c =
    let p = err_from_is_err_and c.from_residual.result c.from_residual.ensures.1 in
    let m = c.args.module.now.parts in
    let e = c.in_err-check_scale.field-0.0 in
    rw (p.1, p.2) (subst (λ (r : RecordParts). SeesRefused g.W.Watch.sees m r e c.args.watch.now c.args.watch.now) c.parts-parts.ensures.parts
    (unseen_scale g.W.Watch.sees m c.parts-parts.result.now e c.in_err-check_scale.ensures.fault c.args.watch.now))

pub returns-in_err-threads-clause-seen : goal.returns-in_err-threads-clause-seen
returns-in_err-threads-clause-seen g c =
    let p = err_from_is_err_and c.from_residual-in_err-threads.result c.from_residual-in_err-threads.ensures.1 in
    let m = c.args.module.now.parts in
    let fit = c.in_ok-check_scale.ensures.fits in
    let e = c.in_err-threads.field-0.0 in
    rw (p.1, p.2) (subst (λ (r : RecordParts). SeesRefused g.W.Watch.sees m r e c.args.watch.now c.args.watch.now) c.parts-parts.ensures.parts
    (unseen_call g.W.Watch.sees m c.parts-parts.result.now fit.0 fit.1 e c.in_err-threads.ensures.fault c.args.watch.now))

pub returns-in_err-memory-clause-seen : goal.returns-in_err-memory-clause-seen
returns-in_err-memory-clause-seen g c =
    let p = err_from_is_err_and c.from_residual-in_err-memory.result c.from_residual-in_err-memory.ensures.1 in
    let m = c.args.module.now.parts in
    let r = c.parts-parts.result.now in
    let e = c.in_err-memory.field-0.0 in
    let b = can_begin meaning_in m r c.has_distinct_names.ensures c.in_ok-threads.threads.items c.in_ok-opening.field-0
    c.in_ok-threads.ensures.threads c.in_ok-opening.ensures.opened in
    rw (p.1, p.2) (subst (λ (x : RecordParts). SeesRefused g.W.Watch.sees m x e c.args.watch.now c.walk.new.watch) c.parts-parts.ensures.parts
    (seen_fault g.W.Watch.sees m r c.in_ok-threads.threads.items c.in_ok-opening.field-0 b e c.args.watch.now c.walk.new.watch
    c.in_err-memory.ensures.seen))

pub returns-clause-seen : goal.returns-clause-seen
returns-clause-seen g c =
    let m = c.args.module.now.parts in
    let r = c.parts-parts.result.now in
    let b = can_begin meaning_in m r c.has_distinct_names.ensures c.in_ok-threads.threads.items c.in_ok-opening.field-0
    c.in_ok-threads.ensures.threads c.in_ok-opening.ensures.opened in
    let end : EndState = record { threads = c.in_ok-ends.ends; pages = r.pages; bytes = c.into_bytes.result } in
    subst (λ (x : RecordParts). SeesReplay g.W.Watch.sees m x (Ok end) c.args.watch.now c.walk.new.watch) c.parts-parts.ensures.parts
    (seen_end g.W.Watch.sees m r c.in_ok-threads.threads.items c.in_ok-opening.field-0 b c.in_ok-memory.memory end c.args.watch.now c.walk.new.watch
    c.in_ok-memory.ensures.seen)
