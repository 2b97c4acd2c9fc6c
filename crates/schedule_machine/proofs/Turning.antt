-- What a turn says of how its thread ended.
use Rattle.std.proofs.Common.{◌≡◌, Option, Some, None, refl, sym, ◌∙◌, ap}
use Rattle.types.specs.declared.event.Event.{Event}
use Rattle.types.specs.declared.event.Reply.{Reply}
use Rattle.types.specs.declared.outcome.Outcome.{Outcome}
use Rattle.schedule.specs.System.{Want, Want.Turns, Want.Calls, Want.Awaits, Want.Gone}
use Rattle.interp_machine.specs.Program.{Program}
use Rattle.interp_trait.specs.Turns.{Running, outcome_of, wants_of, after_turn, answer_of, answer_by}
use Rattle.interp_trait.specs.Turns.{wanted_before}
use Rattle.interp_trait.specs.declared.turn.Given.{Given}
use Rattle.interp_trait.specs.declared.turn.Given.TheVariants as given
use Rattle.interp_trait.specs.declared.turn.Turn.{Turn}
use Rattle.schedule_machine.specs.Threads.{end_in}

-- a turn says how the thread ended just where it has

no_end_before : (g : Given) (w : Want Event) → end_in (wanted_before g w) ≡ None
no_end_before given.Nothing (Calls e) = refl
no_end_before given.Nothing Turns = refl
no_end_before given.Nothing Awaits = refl
no_end_before given.Nothing Gone = refl
no_end_before (given.Reply reply) w = refl
no_end_before (given.Told answer) w = refl

end_said : (o : Option Outcome) (w : Want Event) (turn : Turn) → end_in turn ≡ None → o ≡ end_in (answer_by o w turn)
end_said (Some outcome) w turn none = refl
end_said None Awaits turn none = refl
end_said None Turns turn none = sym none
end_said None (Calls e) turn none = sym none
end_said None Gone turn none = sym none

pub ended_says : (p : Program) (t : Running) (g : Given) (turn : Turn) → turn ≡ answer_of p t g → outcome_of (after_turn p t g) ≡ end_in turn
ended_says p t g turn is =
    end_said (outcome_of (after_turn p t g)) (wants_of p (after_turn p t g)) (wanted_before g (wants_of p t))
    (no_end_before g (wants_of p t)) ∙ ap end_in (sym is)
