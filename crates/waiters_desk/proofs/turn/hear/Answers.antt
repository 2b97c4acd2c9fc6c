use Rattle.std.proofs.Common.{sym, ◌∙◌}
use Rattle.waiters_desk.proofs.Turning.{may_enter, told_beside, told_enters, told_loses}
use Rattle.waiters_desk.proofs.turn.hear.Goals as goal

pub access-requires-clause-allowed : goal.access-requires-clause-allowed
access-requires-clause-allowed g c is =
    let due = rw (c.name-name.ensures) at (c.in-Some.ensures.answer) in
    may_enter _ _ _ _ c.requires.turn.beside (sym due)

pub returns-clause-heard : goal.returns-clause-heard
returns-clause-heard g c =
    let due = rw (c.name-name.ensures) at (c.in-Some.ensures.answer) in
    told_enters _ _ _ _ _ _ _ _ _ _ c.requires.turn.right c.requires.turn.beside (sym due) c.access.ensures.outcome

pub access-requires-clause-right : goal.access-requires-clause-right
access-requires-clause-right g c is = c.requires.turn.right

pub returns-clause-turn : goal.returns-clause-turn
returns-clause-turn g c =
    let due = rw (c.name-name.ensures) at (c.in-Some.ensures.answer) in record {
      right = c.access.ensures.right ∙ c.requires.turn.right;
      beside = rw (c.in-Some.ensures.after, c.name-name.ensures)
          (told_beside _ _ _ _ _ _ _ _ _ _ c.requires.turn.right c.requires.turn.beside (sym due) c.access.ensures.outcome);
    }

pub returns-clause-stays : goal.returns-clause-stays
returns-clause-stays g c = record {
  same = record { name_is = c.access.ensures.name; right_is = c.access.ensures.right };
  lost_is = c.access.ensures.tries ∙ told_loses _ _ _ _ _ _ _ _ _ _ c.access.ensures.outcome;
}
