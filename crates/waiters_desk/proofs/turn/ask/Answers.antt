use Rattle.std.proofs.Common.{refl, sym, ◌∙◌}
use Rattle.waiters_desk.proofs.Turning.{may_enter, gains_beside, answers_beside, value_reply, done_reply, asks_with, asks_step, asks_outside, asks_refused}
use Rattle.waiters_desk.proofs.turn.ask.Goals as goal

pub access-requires-clause-allowed : goal.access-requires-clause-allowed
access-requires-clause-allowed g c is = may_enter _ _ _ _ c.requires.turn.beside c.requires.free

pub returns-in-Value-clause-step : goal.returns-in-Value-clause-step
returns-in-Value-clause-step g c =
    rw (c.ask-asleep.ensures.after, c.name-name.ensures)
    (sym (asks_step _ _ _ _ _ c.args.question _ _ c.requires.turn.right c.requires.turn.beside c.requires.free _ c.in-Value.loaded
    (λ m. value_reply m c.args.question c.in-Value.loaded) c.in-Value.ensures.outcome))

pub returns-in-Value-clause-asked : goal.returns-in-Value-clause-asked
returns-in-Value-clause-asked g c =
    asks_with _ _ _ _ _ c.args.question _ _ c.requires.turn.right c.requires.turn.beside c.requires.free _ c.in-Value.loaded
    (λ m. value_reply m c.args.question c.in-Value.loaded) c.in-Value.ensures.outcome

pub returns-in-Done-clause-step : goal.returns-in-Done-clause-step
returns-in-Done-clause-step g c =
    rw (c.ask-asleep-in-Done.ensures.after, c.name-name.ensures)
    (sym (asks_step _ _ _ _ _ c.args.question _ _ c.requires.turn.right c.requires.turn.beside c.requires.free _ 0
    (λ m. done_reply m c.args.question) c.in-Done.ensures.outcome))

pub returns-in-Done-clause-asked : goal.returns-in-Done-clause-asked
returns-in-Done-clause-asked g c =
    asks_with _ _ _ _ _ c.args.question _ _ c.requires.turn.right c.requires.turn.beside c.requires.free _ 0 (λ m. done_reply m c.args.question)
    c.in-Done.ensures.outcome

pub returns-in-OutOfBounds-clause-asked : goal.returns-in-OutOfBounds-clause-asked
returns-in-OutOfBounds-clause-asked g c = asks_outside _ _ _ _ _ _ _ _ c.requires.turn.right c.requires.turn.beside c.requires.free
    c.in-OutOfBounds.ensures.outcome

pub returns-in-Full-clause-full : goal.returns-in-Full-clause-full
returns-in-Full-clause-full g c = asks_refused _ _ _ _ _ c.args.question _ _ c.requires.turn.right c.requires.turn.beside c.requires.free
    c.in-Full.ensures.outcome

pub access-requires-clause-event : goal.access-requires-clause-event
access-requires-clause-event g c = c.requires.question

pub returns-in-Value-clause-full : goal.returns-in-Value-clause-full
returns-in-Value-clause-full g c = tt

pub returns-in-Value-clause-unchanged : goal.returns-in-Value-clause-unchanged
returns-in-Value-clause-unchanged g c = tt

pub returns-in-Value-clause-exempt : goal.returns-in-Value-clause-exempt
returns-in-Value-clause-exempt g c = tt

pub returns-in-Done-clause-full : goal.returns-in-Done-clause-full
returns-in-Done-clause-full g c = tt

pub returns-in-Done-clause-unchanged : goal.returns-in-Done-clause-unchanged
returns-in-Done-clause-unchanged g c = tt

pub returns-in-Done-clause-exempt : goal.returns-in-Done-clause-exempt
returns-in-Done-clause-exempt g c = tt

pub returns-in-OutOfBounds-clause-asleep : goal.returns-in-OutOfBounds-clause-asleep
returns-in-OutOfBounds-clause-asleep g c = tt

pub returns-in-OutOfBounds-clause-full : goal.returns-in-OutOfBounds-clause-full
returns-in-OutOfBounds-clause-full g c = tt

pub returns-in-OutOfBounds-clause-unchanged : goal.returns-in-OutOfBounds-clause-unchanged
returns-in-OutOfBounds-clause-unchanged g c = tt

pub returns-in-OutOfBounds-clause-exempt : goal.returns-in-OutOfBounds-clause-exempt
returns-in-OutOfBounds-clause-exempt g c = tt

pub returns-in-Full-clause-step : goal.returns-in-Full-clause-step
returns-in-Full-clause-step g c = tt

pub returns-in-Full-clause-asleep : goal.returns-in-Full-clause-asleep
returns-in-Full-clause-asleep g c = tt

pub returns-in-Full-clause-asked : goal.returns-in-Full-clause-asked
returns-in-Full-clause-asked g c = tt

pub access-requires-clause-right : goal.access-requires-clause-right
access-requires-clause-right g c is = c.requires.turn.right

pub returns-in-Value-clause-turn : goal.returns-in-Value-clause-turn
returns-in-Value-clause-turn g c = record {
  right = c.access.ensures.right ∙ c.requires.turn.right;
  beside =
      rw (c.ask-asleep.ensures.after, c.name-name.ensures)
      (answers_beside _ _ _ _ _ _ _ _ _ refl c.requires.turn.right c.requires.turn.beside c.requires.free
      c.in-Value.ensures.outcome);
}

pub returns-in-Value-clause-stays : goal.returns-in-Value-clause-stays
returns-in-Value-clause-stays g c = record {
  same = record { name_is = c.access.ensures.name; right_is = c.access.ensures.right };
  lost_is = c.in-Value.ensures.tries;
}

pub returns-in-Done-clause-turn : goal.returns-in-Done-clause-turn
returns-in-Done-clause-turn g c = record {
  right = c.access.ensures.right ∙ c.requires.turn.right;
  beside =
      rw (c.ask-asleep-in-Done.ensures.after, c.name-name.ensures)
      (answers_beside _ _ _ _ _ _ _ _ _ refl c.requires.turn.right c.requires.turn.beside c.requires.free
      c.in-Done.ensures.outcome);
}

pub returns-in-Done-clause-stays : goal.returns-in-Done-clause-stays
returns-in-Done-clause-stays g c = record {
  same = record { name_is = c.access.ensures.name; right_is = c.access.ensures.right };
  lost_is = c.in-Done.ensures.tries;
}

pub returns-in-OutOfBounds-clause-turn : goal.returns-in-OutOfBounds-clause-turn
returns-in-OutOfBounds-clause-turn g c = record {
  right = c.access.ensures.right ∙ c.requires.turn.right;
  beside =
      answers_beside _ _ _ _ _ _ _ _ _ refl c.requires.turn.right c.requires.turn.beside c.requires.free
      c.in-OutOfBounds.ensures.outcome;
}

pub returns-in-OutOfBounds-clause-stays : goal.returns-in-OutOfBounds-clause-stays
returns-in-OutOfBounds-clause-stays g c = record {
  same = record { name_is = c.access.ensures.name; right_is = c.access.ensures.right };
  lost_is = c.in-OutOfBounds.ensures.tries;
}

pub returns-in-Full-clause-turn : goal.returns-in-Full-clause-turn
returns-in-Full-clause-turn g c =
    let full = c.in-Full.ensures.outcome in record {
      right = c.access.ensures.right ∙ c.requires.turn.right;
      beside = gains_beside _ _ _ _ _ _ c.requires.turn.right c.requires.turn.beside full.gains;
    }

pub returns-in-Full-clause-stays : goal.returns-in-Full-clause-stays
returns-in-Full-clause-stays g c = record {
  same = record { name_is = c.access.ensures.name; right_is = c.access.ensures.right };
  lost_is = c.in-Full.ensures.tries;
}
