use Rattle.search_modules.proofs.hands.HandsMakesAheadSearched.ahead.Goals as goal

pub made_ahead-requires-sync-R : goal.made_ahead-requires-sync-R
made_ahead-requires-sync-R g c κs within = c.requires.ready
