-- Threads of a module without budgets that are the same but for dead locals.
use Rattle.std.specs.Prelude.{◌≡◌, ℕ}
use Rattle.types.specs.declared.event.Reply.{Reply}
use Rattle.types.specs.declared.event.Answer.{Answer}
use Rattle.search_threads.specs.Unlimited.{Unlimited.Missing, Unlimited.Going, Unlimited.Leaving, Unlimited.Away}
use Rattle.search_settled.specs.Settled.{Settles, MakesTurns}
use Rattle.search_runs.specs.Accesses.{is_plain}
use Rattle.search_runs.specs.Called.{Called, Walker, system_of}
use Rattle.live_locals.specs.Alike.{AreStatesAlike}

-- Both are gone, or leave or have left with the same outcome, or their states are alike.
abbrev pub AreWalkersAlike : Walker → Walker → Type 0
AreWalkersAlike Missing Missing = Unit {0}
AreWalkersAlike (Going s) (Going t) = AreStatesAlike s t
AreWalkersAlike (Leaving outcome) (Leaving other) = outcome ≡ other
AreWalkersAlike (Away outcome) (Away other) = outcome ≡ other
AreWalkersAlike v u = ⊥

-- They want the same, by an access that is plain for both or for neither; and they are alike again after a turn of
-- their own, a reply, an answer, and where they come to rest, by as many turns.
pub record WalkersGoAlike (b : Called) (v u : Walker) : Type 0 where
  pub wants : (system_of b).wants v ≡ (system_of b).wants u
  pub plain : is_plain v ≡ is_plain u
  pub goes : AreWalkersAlike ((system_of b).own_turn v) ((system_of b).own_turn u)
  pub takes : (reply : Reply) → AreWalkersAlike ((system_of b).takes v reply) ((system_of b).takes u reply)
  pub hears : (answer : Answer) → AreWalkersAlike ((system_of b).hears v answer) ((system_of b).hears u answer)
  pub settles : (z : Walker) (s : Settles (system_of b) v z) → (y : Walker) × (t : Settles (system_of b) u y)
      × AreWalkersAlike z y × (t.turns ≡ s.turns)
  pub turns : (count : ℕ) → MakesTurns (system_of b) count v → MakesTurns (system_of b) count u

-- Of each call of whatever program.
abbrev pub AlikeWalkersGoAlike : Type 0
AlikeWalkersGoAlike = (b : Called) (v u : Walker) → AreWalkersAlike v u → WalkersGoAlike b v u
