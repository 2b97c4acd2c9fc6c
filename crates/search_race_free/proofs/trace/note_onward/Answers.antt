use Rattle.search_race_free.proofs.trace.note_onward.Goals as goal

pub loop-m-init : goal.loop-m-init
loop-m-init g c = record { owned = rw c.in-Some.is at c.in_ok-first.ensures }
