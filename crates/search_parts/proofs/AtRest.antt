-- Who is at rest stays there, and who awaits an answer is at rest.
use Rattle.std.specs.Prelude.{ℕ, zero, suc, ◌≡◌, ◌<◌, Option, Some, None}
use Rattle.std.proofs.Common.{refl, sym, subst, arith}
use Rattle.validate_typing.specs.Tabled.{WithTables}
use Rattle.types.specs.declared.event.Answer.{Answer}
use Rattle.schedule.specs.System.{Want.Turns, Want.Awaits}
use Rattle.schedule.specs.Scheduled.{hears_any}
use Rattle.search_settled.specs.Settled.{ComesTo, Settles, MakesTurns}
use Rattle.search_runs.specs.Called.{Called, Walker, system_of}
use Rattle.search_parts.specs.Walkers.{RestsAt, patience}
use Rattle.search_parts.specs.declared.walker.RestingThread.{RestingThread}
use Rattle.search_parts.specs.Parts.{IsRested}

pub at_rest : (w : WithTables) (b : Called) (s : RestingThread) (v : Walker) → IsRested w b s v → RestsAt w b v s
at_rest w b s v is = record {
  rested = v;
  settles = record { turns = 0; comes = refl; rests = is.rests };
  stands = is.stands;
}

pub rested_so : (w : WithTables) (b : Called) (s : RestingThread) (v : Walker) (at : RestsAt w b v s) → IsRested w b s at.rested
rested_so w b s v at = record { stands = at.stands; rests = at.settles.rests }

stays_by : (b : Called) (count : ℕ) (v u : Walker) → ComesTo (system_of b) count v u → (system_of b).wants v ≡ Awaits → v ≡ u
stays_by b zero v u comes awaits = comes
stays_by b (suc count) v u comes awaits = let turns = comes.0 in absurd (cc (turns, awaits))

pub stays : (b : Called) (v u : Walker) → Settles (system_of b) v u → (system_of b).wants v ≡ Awaits → v ≡ u
stays b v u settles awaits = stays_by b settles.turns v u settles.comes awaits

-- who is at rest comes to rest where it is
same_by : (b : Called) (count : ℕ) (v u : Walker) → ComesTo (system_of b) count v u → ((system_of b).wants v ≡ Turns → ⊥) → v ≡ u
same_by b zero v u comes rests = comes
same_by b (suc count) v u comes rests = absurd (rests comes.0)

-- who came to rest, and comes to rest with the answer that it is given, comes to rest there from the first
pub joined : (w : WithTables) (b : Called) (v : Walker) (own s : RestingThread) (at : RestsAt w b v own) (o : Option Answer)
    → ((a : Answer) → o ≡ Some a → (system_of b).wants v ≡ Awaits) → RestsAt w b (hears_any (system_of b) at.rested o) s
    → RestsAt w b (hears_any (system_of b) v o) s
joined w b v own s at None awaits then = record {
  rested = then.rested;
  settles = subst (λ (u : Walker). Settles (system_of b) v u)
      (same_by b then.settles.turns at.rested then.rested then.settles.comes at.settles.rests) at.settles;
  stands = then.stands;
}
joined w b v own s at (Some a) awaits then =
    subst (λ (u : Walker). RestsAt w b ((system_of b).hears u a) s) (sym (stays b v at.rested at.settles (awaits a refl))) then

-- who makes turns of its own wants one, so it is given no answer
turns_at_once : (b : Called) (count : ℕ) (v : Walker) → 0 < count → MakesTurns (system_of b) count v → (system_of b).wants v ≡ Turns
turns_at_once b zero v some makes = absurd (omega (arith, some))
turns_at_once b (suc count) v some makes = makes.comes.0

some_patience : 0 < patience
unfolding patience
some_patience = omega arith

pub never_told : (b : Called) (v : Walker) (o : Option Answer) → ((a : Answer) → o ≡ Some a → (system_of b).wants v ≡ Awaits)
    → MakesTurns (system_of b) patience v → MakesTurns (system_of b) patience (hears_any (system_of b) v o)
never_told b v None awaits makes = makes
never_told b v (Some a) awaits makes =
    let turns = turns_at_once b patience v some_patience makes in
    let waits = awaits a refl in absurd (cc (turns, waits))

-- who came to rest, and makes so many turns with the answer that it is given, makes them from the first
pub joined_turns : (w : WithTables) (b : Called) (v : Walker) (own : RestingThread) (at : RestsAt w b v own) (o : Option Answer)
    → ((a : Answer) → o ≡ Some a → (system_of b).wants v ≡ Awaits) → MakesTurns (system_of b) patience (hears_any (system_of b) at.rested o)
    → MakesTurns (system_of b) patience (hears_any (system_of b) v o)
joined_turns w b v own at None awaits makes = absurd (at.settles.rests (turns_at_once b patience at.rested some_patience makes))
joined_turns w b v own at (Some a) awaits makes =
    subst (λ (u : Walker). MakesTurns (system_of b) patience ((system_of b).hears u a)) (sym (stays b v at.rested at.settles (awaits a refl))) makes
