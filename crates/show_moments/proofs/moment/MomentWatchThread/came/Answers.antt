use Rattle.std.proofs.Common.{◌≡◌, ◌∙◌, ◌-◌, Some, ap, arith, subst, sym}
use Rattle.std.proofs.lemmas.Option.{slice_get-get_or}
use Rattle.std.specs.List.{slice_get}
use Rattle.types.specs.declared.event.Entry.{Entry}
use Rattle.show_moments.specs.Moments.{SeesLeave}
use Rattle.show_moments.proofs.Seen.{last_is}
use Rattle.show_moments.proofs.moment.MomentWatchThread.came.Goals as goal

pub returns : goal.returns
returns c =
    let saw = c.see_left.ensures in
    let found = c.in-Some.ensures.lookup.3 in
    let entry = c.in-Some.entry.now in
    let log = c.args.self.now.log.now in
    let here : slice_get log (c.args.entries - 1) ≡ Some entry =
    slice_get-get_or log (c.args.entries - 1) entry found.0 ∙ ap (λ (e : Entry). Some e) (sym (found.1 entry)) in
    record {
      same = record { log = saw.same.log; at = saw.same.at; wanted = saw.same.wanted; short = saw.same.short };
      came = saw.came;
      there = λ e short. absurd (omega (arith, e, c.if-entries-self-2.false));
      elsewhere = λ ne. record { queue = saw.round.queue; bytes = saw.round.bytes; memory = saw.round.memory; here = saw.round.here };
      before = λ le. absurd (omega (arith, le, c.if-entries-self.false, c.if-entries-self-2.false));
      left = λ last made is at made_there short. subst (λ (e : Entry). SeesLeave c.args.walk.now.threads.items e.thread e.event
          c.args.self.now.next.items c.see_left.new.self.next.items)
          (last_is log c.args.entries last made entry is made_there here) (saw.left short);
    }
