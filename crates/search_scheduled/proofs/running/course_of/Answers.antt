use Rattle.std.proofs.Common.{sym, ◌∙◌, ap, subst}
use Rattle.types.specs.declared.parts.Parts.{Parts}
use Rattle.validate_typing.specs.Validity.{HasDistinctNames}
use Rattle.interp.specs.Threads.{meaning_in}
use Rattle.spawn_host.specs.Requests.{Requested}
use Rattle.spawn_host.specs.Runs.{opening_memory}
use Rattle.replay.specs.Threads.{AreThreadsFor}
use Rattle.replay.proofs.Ready.{can_begin}
use Rattle.search_scheduled.proofs.Rebased.{requested_is, opens_by}
use Rattle.search_scheduled.proofs.running.course_of.Goals as goal

pub returns-clause-begun : goal.returns-clause-begun
returns-clause-begun c = λ r h.
    let q = c.args.request.now in
    let m = q.parts in
    let of_module = c.module-module.ensures in
    let distinct = subst (λ (p : Parts). HasDistinctNames p.exports) of_module c.show_distinct_names.ensures in
    let opened = opens_by m q.name q.args q.fuel c.args.limit r h c.in_ok-memory.memory (c.in_ok-memory.ensures.memory ∙ ap opening_memory of_module) in
    let threads = subst (λ (x : Requested). AreThreadsFor meaning_in x c.in_ok-threads.threads.items) (sym (requested_is q c.args.limit r h))
    c.in_ok-threads.ensures.threads in
    let b = can_begin meaning_in m r distinct c.in_ok-threads.threads.items c.in_ok-memory.memory threads opened in record {
      beginning = b.beginning;
      run = b.run;
      same = b.same;
      came = c.new.ensures.begins b.run b.ready.ready (b.ready.most ∙ h.threads) (b.ready.budget ∙ (h.fuel ∙ c.call.ensures.call.fuel_is))
          (b.ready.limit ∙ h.limit);
      log = c.new.ensures.log;
      most = b.ready.most;
      budget = b.ready.budget;
      limit = b.ready.limit;
      program = b.program;
      worker = b.worker;
    }
