use Rattle.std.proofs.Common.{ℕ, ◌<◌, ◌∙◌, All, List, length, subst, sym}
use Rattle.std.specs.List.{AllZip}
use Rattle.std.proofs.lemmas.Result.{on_ok_weaker}
use Rattle.show_json.specs.declared.moments.MomentThread.{MomentThread}
use Rattle.show_json.specs.declared.rows.NamedRow.{NamedRow}
use Rattle.show_moments.specs.Scenes.{seen}
use Rattle.show_moments.specs.declared.told.ToldThread.{ToldThread}
use Rattle.report_objects.specs.Scenes.{AreRows, IsThreadObject, WritesSceneOf}
use Rattle.report_objects.proofs.ObjectParts.{others_within}
use Rattle.report_objects.proofs.scenes.write_seen.Goals as goal

pub rows_in-requires : goal.rows_in-requires
rows_in-requires g c =
    let log = c.args.scene.now.view.shown.record.now.log in
    subst (λ (xs : List ℕ). All (λ k. k < length log) xs) (sym (c.as_slice-2.ensures.value ∙ c.in_ok-told.ensures.others))
    (others_within log c.args.scene.now.moment.now.at c.args.races.now c.requires)

pub returns : goal.returns
returns g c =
    let s = seen c.args.scene.now in
    let contents = g.W.Write.contents in
    on_ok_weaker c.write_shown.result
    (λ (w : WritesSceneOf s c.as_slice-3.result.now c.as_slice-4.result.now (contents c.args.out.now) (contents c.write_shown.new.out)). record {
      told = c.in_ok-told.told;
      is_told = c.in_ok-told.ensures;
      moment_is = w.moment_is;
      object = record {
        line = w.line;
        threads = subst (λ (ts : List ToldThread). AllZip (IsThreadObject s) ts w.moment_is.threads.now) c.as_slice.ensures.value
            (subst (λ (ts : List MomentThread). AllZip (IsThreadObject s) c.as_slice.result.now ts)
            (sym (w.threads_are ∙ c.as_slice-3.ensures.value)) c.in_ok-threads.ensures);
        races = subst (λ (ps : List ℕ). AreRows s ps w.moment_is.races.now) c.as_slice-2.ensures.value
            (subst (λ (rs : List NamedRow). AreRows s c.as_slice-2.result.now rs) (sym (w.races_are ∙ c.as_slice-4.ensures.value))
            c.in_ok-rows.ensures);
        asleep = w.asleep;
        memory = w.memory;
      };
      writes = w.writes;
    }) c.write_shown.ensures
