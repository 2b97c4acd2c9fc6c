use Rattle.std.proofs.Common.{◌+◌, sym, subst, refl, Some, None, length}
use Rattle.show_text.specs.Contexts.{AreOpen}
use Rattle.show_text.proofs.Opened.{IsTold, contexts_keep, opens_keep, opens_set, open_after, closed, no_answer, no_call, no_told}
use Rattle.show_text.proofs.context.note.Goals as goal

pub returns-in-Ask-clause-opens : goal.returns-in-Ask-clause-opens
returns-in-Ask-clause-opens c =
    subst (AreOpen c.args.log.now (c.args.at + 1)) (sym c.set.ensures)
    (opens_set c.args.log.now c.args.at c.args.made c.requires.stands c.args.asked.now.places.items (Some c.args.at)
    (open_after c.args.log.now c.args.at c.args.made c.requires.stands _ c.in-Ask.is) c.requires.opens)

pub returns-in-Ask-clause-contexts : goal.returns-in-Ask-clause-contexts
returns-in-Ask-clause-contexts c =
    contexts_keep c.args.log.now c.args.at c.args.made c.requires.stands (length c.args.asked.now.places.items) c.args.contexts.now
    (λ t asked q a within. no_answer c.args.log.now c.args.at c.args.made c.requires.stands (length c.args.asked.now.places.items)
    (λ told. subst IsTold c.in-Ask.is told) t asked q a) c.requires.contexts

pub returns-in-Told-clause-opens : goal.returns-in-Told-clause-opens
returns-in-Told-clause-opens c =
    subst (AreOpen c.args.log.now (c.args.at + 1)) (sym c.set-in-Told.ensures)
    (opens_set c.args.log.now c.args.at c.args.made c.requires.stands c.args.asked.now.places.items None
    (closed c.args.log.now c.args.at c.args.made c.requires.stands c.in-Told.answer c.in-Told.is) c.requires.opens)

pub returns-in_default : goal.returns-in_default
returns-in_default c =
    let none = no_call c.args.made.event c.in_default.not-Ask c.in_default.not-Told in
    record {
      threads = refl;
      opens = opens_keep c.args.log.now c.args.at c.args.made c.requires.stands c.args.asked.now.places.items none c.requires.opens;
      contexts = contexts_keep c.args.log.now c.args.at c.args.made c.requires.stands (length c.args.asked.now.places.items)
          c.args.contexts.now (λ t asked q a within. no_answer c.args.log.now c.args.at c.args.made c.requires.stands
          (length c.args.asked.now.places.items) (no_told c.args.made.event none) t asked q a) c.requires.contexts;
    }
