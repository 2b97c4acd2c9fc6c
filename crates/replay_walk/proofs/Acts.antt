-- The acts of the entries of a record.
use Rattle.std.proofs.Common.{◌≡◌, true, false, refl, sym, ◌∙◌, ap}
use Rattle.types.specs.declared.event.Event.{Event}
use Rattle.types.specs.declared.event.Event.TheVariants as events
use Rattle.types.specs.declared.event.Question.TheVariants.{Leave}
use Rattle.types.specs.declared.event.Reply.{Reply}
use Rattle.types.specs.declared.event.Reply.TheVariants as replies
use Rattle.types.specs.declared.event.Entry.{Entry}
use Rattle.shared_memory.specs.Events.{is_exempt}
use Rattle.schedule.specs.System.{Act.Made}
use Rattle.schedule_threads.specs.Shared.{act_by, act_of}
use Rattle.types.specs.declared.limits.TheConstants.{MOST_THREADS}
use Rattle.replay_text.specs.Conditions.{ReplyFits, is_reply_to, IsEntry}
use Rattle.replay_walk.specs.Standing.{IsAnswered}

leave_reply : (v : Reply) → is_reply_to (events.Ask Leave) v ≡ true → v ≡ replies.Done
leave_reply (replies.Value n) h = absurd (cc h)
leave_reply replies.Done h = refl
leave_reply replies.OutOfBounds h = absurd (cc h)
leave_reply replies.Again h = absurd (cc h)
leave_reply replies.Full h = absurd (cc h)

pub leave_act : (e : Entry) → IsEntry MOST_THREADS e → e.event ≡ events.Ask Leave → act_of e ≡ Made (events.Ask Leave) replies.Done
leave_act e is kind = ap (λ (x : Event). act_by x e.reply) kind
    ∙ ap (λ (v : Reply). Made (events.Ask Leave) v)
    (leave_reply e.reply (ap (λ (x : Event). is_reply_to x e.reply) (sym kind) ∙ is.reply))

pub event_act : (e : Event) (v : Reply) → is_exempt e ≡ false → act_by e v ≡ Made e v
event_act (events.Told a) v h = absurd (cc h)
event_act events.Size v h = refl
event_act (events.Grow more) v h = refl
event_act (events.Load addr width reach) v h = refl
event_act (events.Store addr width reach value) v h = refl
event_act (events.Rmw op addr width value) v h = refl
event_act (events.Cmpxchg addr width expected replacement) v h = refl
event_act (events.Ask question) v h = refl

pub answered : (v : Reply) → ReplyFits v → IsAnswered v
answered (replies.Value n) h = tt
answered replies.Done h = tt
answered replies.OutOfBounds h = tt
answered replies.Again h = h
answered replies.Full h = h
