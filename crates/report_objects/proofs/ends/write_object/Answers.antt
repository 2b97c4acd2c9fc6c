use Rattle.std.proofs.Common.{◌∙◌, ℕ, List, subst, sym}
use Rattle.std.specs.Global.{Vec}
use Rattle.std.proofs.lemmas.Result.{on_ok_weaker}
use Rattle.types.specs.declared.event.Entry.{Entry}
use Rattle.types.specs.declared.outcome.ThreadReport.{ThreadReport}
use Rattle.show_json.specs.declared.moments.EndedThread.{EndedThread}
use Rattle.show_moments.specs.Scenes.{seen}
use Rattle.show_waits.specs.Cycles.{AreToldCycles}
use Rattle.report_objects.specs.Ends.{AreEndedThreads, WritesEndOf}
use Rattle.report_objects.proofs.ends.write_object.Goals as goal

pub returns : goal.returns
returns g c =
    let s = seen c.args.scene.now in
    let r = s.shown.record.now in
    let contents = g.W.Write.contents in
    let cycles = c.in_ok-cycles.cycles.items in
    on_ok_weaker c.write_ended.result
    (λ (w : WritesEndOf s c.as_slice.result.now c.as_slice-2.result.now (contents c.args.out.now) (contents c.write_ended.new.out)). record {
      end = w.end;
      threads = subst (λ (ts : List EndedThread). AreEndedThreads s c.args.ends.now ts) (sym (w.threads_are ∙ c.as_slice.ensures.value))
          c.in_ok-threads.ensures;
      cycles = subst (λ (cs : List (Vec ℕ)). AreToldCycles r.log r.ends s.left_out cs) (sym (w.cycles_are ∙ c.as_slice-2.ensures.value))
          (subst (λ (l : List Entry). AreToldCycles l r.ends s.left_out cycles) c.as_slice-log.ensures
          (subst (λ (es : List ThreadReport). AreToldCycles c.as_slice-log.result.now es s.left_out cycles) c.as_slice-ends_of.ensures
          c.in_ok-cycles.ensures));
      memory = w.memory;
      object = w.object;
    }) c.write_ended.ensures
