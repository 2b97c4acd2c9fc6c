use Rattle.search_settled.proofs.Rows.{grows-self, grows-then}
use Rattle.search_race_free.proofs.Pieces.{last-found, others-found}
use Rattle.search_race_free.proofs.ahead.keep_turns.Goals as goal

pub loop-turn-init : goal.loop-turn-init
loop-turn-init g c = record { grows = grows-self c.args.parts.now; known = c.requires.known; found = c.requires.found }

pub keep_turn-requires-clause-found : goal.keep_turn-requires-clause-found
keep_turn-requires-clause-found g c =
    let k = g.M.Moves.threads c.args.system.now in
    last-found k c.loop-turn.parts c.loop-turn.turns.items c.pop.new.self.items c.in-Some.turn c.in-Some.ensures.items c.loop-turn.invariant.found

pub loop-turn-preserved : goal.loop-turn-preserved
loop-turn-preserved g c =
    let k = g.M.Moves.threads c.args.system.now in
    let so = c.loop-turn.invariant in
    let kept = c.in_ok-keep_turn.ensures in
    record {
      grows = grows-then c.args.parts.now c.loop-turn.parts c.keep_turn.new.parts so.grows kept.grows;
      known = kept.known;
      found = others-found k c.loop-turn.parts c.keep_turn.new.parts kept.grows c.loop-turn.turns.items c.pop.new.self.items c.in-Some.turn
          c.in-Some.ensures.items so.found;
    }
