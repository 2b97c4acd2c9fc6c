use Rattle.std.proofs.Common.{◌∙◌, ap}
use Rattle.show_moments.specs.Texts.{dump_text}
use Rattle.show_moments.proofs.Telling.{moment_of}
use Rattle.show_moments.proofs.lines.write_moment.Goals as goal

pub returns-clause-says : goal.returns-clause-says
returns-clause-says g c =
    moment_of c.args.view c.args.moment.now c.args.races.now c.in_ok-story.story c.in_ok-told.told c.as_slice.result.now
    c.as_slice-2.result.now c.as_slice-3.result.now _ _ _ _ _ _ _ c.as_slice.ensures c.in_ok-story.ensures c.in_ok-told.ensures
    c.as_slice-2.ensures.value c.in_ok-write_threads.ensures c.as_slice-3.ensures.value c.in_ok-write_others.ensures
    c.in_ok-queue.ensures (c.in_ok-dump.ensures ∙ ap (dump_text c.args.moment.now.wanted.addr) c.deref.ensures.value)
    c.in_ok-write.ensures.bytes c.in_ok-flush.ensures.bytes
