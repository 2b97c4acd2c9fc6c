use Rattle.std.proofs.Common.{List, subst}
use Rattle.std.proofs.lemmas.Result.{on_ok_weaker}
use Rattle.types.specs.declared.event.Entry.{Entry}
use Rattle.show_named.specs.Lasts.{IsLastIfAny}
use Rattle.show_named.specs.declared.lasts.Act.TheVariants as acts
use Rattle.report_objects.proofs.scenes.write_last_object.Goals as goal

pub returns : goal.returns
returns g c =
    let sought = c.args.sought in
    let place = c.place_in-place.result in
    on_ok_weaker c.write_last.result (λ wrote. record {
      place = place;
      is_last = subst (λ (l : List Entry). IsLastIfAny (acts.Write sought.addrs) l sought.before place) c.as_slice.ensures
          c.place_in-place.ensures;
      last = c.in_ok-last.last;
      row = c.in_ok-last.ensures;
      writes = wrote;
    }) c.write_last.ensures.object
