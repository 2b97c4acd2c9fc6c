use Rattle.std.proofs.Common.{rules, ◌<◌, length, Some, sym, ◌∙◌, ap}
use Rattle.std.proofs.lemmas.Option.{slice_get-get_or}
use Rattle.replay_walk.proofs.watch.show_event.Goals as goal

pub offset_bounds-threads-entry : goal.offset_bounds-threads-entry
offset_bounds-threads-entry g c = let h : c.args.entry.now.thread < length c.args.threads.now = c.requires.within in search rules

pub event-requires : goal.event-requires
event-requires g c = c.requires.wants _ (slice_get-get_or _ _ _ c.requires.within ∙ ap Some (sym c.index-threads-entry.is))
