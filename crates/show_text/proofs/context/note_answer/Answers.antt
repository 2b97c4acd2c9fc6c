use Rattle.std.proofs.Common.{◌∙◌, sym, arith, length}
use Rattle.std.proofs.lemmas.List.{length-set}
use Rattle.show_text.specs.declared.context.Context.TheVariants.{Answered}
use Rattle.show_text.proofs.Opened.{answered_none, answered_nothing, answered_some, room, room_before}
use Rattle.show_text.proofs.context.note_answer.Goals as goal

pub returns-in_default : goal.returns-in_default
returns-in_default c = answered_none c.args.log.now c.args.at c.args.thread c.args.answer c.args.asked.now.places.items
    c.args.contexts.now c.requires.tells c.requires.opens c.requires.contexts (sym c.of.ensures ∙ c.in_default.is)

pub returns-in_default-question_at : goal.returns-in_default-question_at
returns-in_default-question_at c = absurd (answered_nothing c.args.log.now c.args.at c.args.thread c.args.answer
    c.args.asked.now.places.items c.args.contexts.now c.requires.tells c.requires.opens c.requires.contexts c.in-Some.place
    (sym c.of.ensures ∙ c.in-Some.is) (sym c.question_at.ensures ∙ c.in_default-question_at.is))

pub returns : goal.returns
returns c = answered_some c.args.log.now c.args.at c.args.thread c.args.answer c.args.asked.now.places.items c.args.contexts.now
    c.requires.tells c.requires.opens c.requires.contexts c.in-Some.place (sym c.of.ensures ∙ c.in-Some.is) _
    (sym c.question_at.ensures ∙ c.in-Some-question_at.is)

pub bounds-contexts-place : goal.bounds-contexts-place
bounds-contexts-place c = room_before c.args.log.now c.args.at c.args.thread c.in-Some.place c.args.answer
    c.args.asked.now.places.items c.args.contexts.now c.requires.tells c.requires.opens c.requires.contexts
    (sym c.of.ensures ∙ c.in-Some.is)

pub bounds-contexts-at : goal.bounds-contexts-at
bounds-contexts-at c =
    let lt = room c.args.log.now c.args.at c.args.thread (length c.args.asked.now.places.items) c.args.answer c.args.contexts.now
    c.requires.tells c.requires.contexts in
    omega (arith, lt, length-set c.args.contexts.now c.in-Some.place (Answered c.args.answer))
