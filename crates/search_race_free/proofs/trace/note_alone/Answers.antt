use Rattle.search_race_free.proofs.trace.note_alone.Goals as goal

pub wanted-requires : goal.wanted-requires
wanted-requires g c = c.requires.somewhere
