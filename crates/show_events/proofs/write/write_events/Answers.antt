use Rattle.show_events.proofs.Behind.{whole}
use Rattle.show_events.proofs.Said.{events_of}
use Rattle.show_events.proofs.write.write_events.Goals as goal

pub returns-clause-lines : goal.returns-clause-lines
returns-clause-lines g c =
    let links = c.in_ok-write_links.ensures.lines in
    whole _ _ _ _ _ _ _ _ _ c.in_ok-write_line.ensures.line c.in_ok-write_threads.ensures.lines c.in_ok-write_entries.ensures.lines
    links.1 c.in_ok-write_line-2.ensures.line

pub returns-clause-which : goal.returns-clause-which
returns-clause-which g c = events_of c.args.shown c.args.races.now c.args.chosen.now c.in_ok-story.story c.as_slice-log.result.now
    c.in_ok-links.links.links.items c.deref-3.result.now c.in_ok-threads.threads.items c.deref.result.now c.in_ok-among.among.items
    c.deref-2.result.now _ _ _ _ _ _ c.as_slice-log.ensures c.in_ok-story.ensures c.in_ok-links.ensures.links c.in_ok-threads.ensures
    c.in_ok-among.ensures c.deref-3.ensures.value c.deref.ensures.value c.deref-2.ensures.value c.in_ok-write_line.ensures.text
    c.in_ok-write_threads.ensures.which c.in_ok-write_entries.ensures.which c.in_ok-write_links.ensures.which
    c.in_ok-write_line-2.ensures.text
