-- What a turn makes of a thread that stands for one of the thread machine.
use Rattle.std.proofs.Common.{◌≡◌, ℕ, zero, suc, Bool, Some, None, refl, ap, subst}
use Rattle.types.specs.declared.event.Event.{Event}
use Rattle.types.specs.declared.event.Event.TheVariants as events
use Rattle.types.specs.declared.event.Question.TheVariants as questions
use Rattle.types.specs.declared.event.Reply.{Reply}
use Rattle.types.specs.declared.event.Reply.TheVariants as replies
use Rattle.types.specs.declared.event.Answer.{Answer}
use Rattle.types.specs.declared.outcome.Outcome.{Outcome}
use Rattle.schedule.specs.System.{Want, Want.Turns, Want.Calls, Want.Awaits, Want.Gone}
use Rattle.schedule.specs.Machine.{Wish.Goes, Wish.Asks, Thread.Absent, Thread.Runs, Thread.Over, Thread.Leaves}
use Rattle.schedule.specs.Machine.{Thread.Left, wanted, wants_a, takes_by, thread_takes, thread_hears, thread_lost}
use Rattle.schedule.specs.Machine.{thread_full, thread_wants_a}
use Rattle.interp_machine.specs.Program.{Program}
use Rattle.interp_machine.specs.Config.{Config, Next, Stuck, Goes, Traps, Finishes, Asks, Hears}
use Rattle.interp_machine.specs.Step.{next}
use Rattle.interp_machine.specs.State.{At, Over as Ended}
use Rattle.schedule_threads.specs.Threads.{machine_of, wish_of}
use Rattle.interp_trait.specs.Turns.{Running, outcome_of, wants_of, own_turn_if, after_turn}
use Rattle.interp_trait.specs.Turns.{IsTurned, Meaning, IsHere, spawn_types}
use Rattle.interp_trait.specs.declared.turn.Given.TheVariants as given
use Rattle.interp_trait.specs.declared.turn.Turn.{Turn}
use Rattle.schedule_machine.specs.Threads.{Setting, IsMadeReply, called}
use Rattle.schedule_program.specs.Threads.{StandsBy}
use Rattle.schedule_program.specs.declared.stepped.Stage.{Stage}
use Rattle.schedule_program.specs.declared.stepped.Stage.TheVariants as stages

-- where it is still here

pub here_own : (p : Program) (t : Running) (w : Want Event) → IsHere t → IsHere (own_turn_if p t w)
here_own p t (Calls e) h = h
here_own p t Awaits h = h
here_own p t Gone h = h
here_own p Absent Turns h = absurd h
here_own p (Runs c zero) Turns h = tt
here_own p (Runs c (suc n)) Turns h = tt
here_own p (Over o left) Turns h = tt
here_own p (Leaves o left) Turns h = absurd h
here_own p (Left o left) Turns h = absurd h

pub here_hears : (p : Program) (t : Running) (a : Answer) → IsHere t → IsHere (thread_hears (machine_of p) t a)
here_hears p Absent a h = absurd h
here_hears p (Runs c left) a h = tt
here_hears p (Over o left) a h = tt
here_hears p (Leaves o left) a h = absurd h
here_hears p (Left o left) a h = absurd h

pub here_lost : (p : Program) (t : Running) → IsHere t → IsHere (thread_lost (machine_of p) t)
here_lost p Absent h = absurd h
here_lost p (Runs c left) h = tt
here_lost p (Over o left) h = tt
here_lost p (Leaves o left) h = absurd h
here_lost p (Left o left) h = absurd h

pub here_full : (p : Program) (t : Running) → IsHere t → IsHere (thread_full (machine_of p) t)
here_full p Absent h = absurd h
here_full p (Runs c left) h = tt
here_full p (Over o left) h = tt
here_full p (Leaves o left) h = absurd h
here_full p (Left o left) h = absurd h

here_takes_by : (p : Program) (c : Config) (left : ℕ) (v : Reply) (x : Next) → IsHere (takes_by (machine_of p) (wish_of x) (At c) left v)
here_takes_by p c left v Stuck = tt
here_takes_by p c left v (Goes d) = tt
here_takes_by p c left v (Traps trap) = tt
here_takes_by p c left v (Finishes result) = tt
here_takes_by p c left v (Asks event go) = tt
here_takes_by p c left v (Hears go) = tt

pub here_takes : (p : Program) (t : Running) (v : Reply) → IsHere t → outcome_of t ≡ None → IsHere (thread_takes (machine_of p) t v)
here_takes p Absent v h none = absurd h
here_takes p (Runs (At c) left) v h none = here_takes_by p c left v (next p c)
here_takes p (Runs (Ended o) left) v h none = absurd (cc none)
here_takes p (Over o left) v h none = absurd (cc none)
here_takes p (Leaves o left) v h none = absurd h
here_takes p (Left o left) v h none = absurd h

pub made_reply : (p : Program) (t : Running) (v : Reply) → IsMadeReply v → after_turn p t (given.Reply v) ≡ thread_takes (machine_of p) t v
made_reply p t (replies.Value n) m = refl
made_reply p t replies.Done m = refl
made_reply p t replies.OutOfBounds m = refl
made_reply p t replies.Again m = absurd m
made_reply p t replies.Full m = absurd m

-- the events that it wants to make

wants_by : (p : Program) (f : Event → Bool) (left : ℕ) (x : Next) (e : Event)
    → wanted (machine_of p) left (wish_of x) ≡ Calls e → wants_a (machine_of p) f left (wish_of x) ≡ f e
wants_by p f left Stuck e w = absurd (cc w)
wants_by p f left (Goes d) e w = absurd (cc w)
wants_by p f left (Traps trap) e w = absurd (cc w)
wants_by p f left (Finishes result) e w = absurd (cc w)
wants_by p f zero (Asks event go) e w = absurd (cc w)
wants_by p f (suc left) (Asks event go) e w = let same : event ≡ e = cc w in ap f same
wants_by p f left (Hears go) e w = absurd (cc w)

pub wants_such : (p : Program) (f : Event → Bool) (t : Running) (e : Event) → outcome_of t ≡ None
    → wants_of p t ≡ Calls e → thread_wants_a (machine_of p) f t ≡ f e
wants_such p f Absent e none w = absurd (cc w)
wants_such p f (Runs (At c) left) e none w = wants_by p f left (next p c) e w
wants_such p f (Runs (Ended o) left) e none w = absurd (cc none)
wants_such p f (Over o left) e none w = absurd (cc none)
wants_such p f (Leaves o left) e none w = absurd (cc w)
wants_such p f (Left o left) e none w = absurd (cc w)

-- one that has ended wants to leave
pub ended_wants : (p : Program) (t : Running) (o : Outcome) → IsHere t → outcome_of t ≡ Some o → wants_of p t ≡ Calls (events.Ask questions.Leave)
ended_wants p Absent o h is = absurd h
ended_wants p (Runs (At c) left) o h is = absurd (cc is)
ended_wants p (Runs (Ended x) left) o h is = refl
ended_wants p (Over x left) o h is = refl
ended_wants p (Leaves x left) o h is = absurd h
ended_wants p (Left x left) o h is = absurd h

pub called_is : (w : Want Event) (e : Event) → called w ≡ Some e → w ≡ Calls e
called_is Turns e is = absurd (cc is)
called_is (Calls x) e is = let same : x ≡ e = cc is in ap Calls same
called_is Awaits e is = absurd (cc is)
called_is Gone e is = absurd (cc is)

-- a thread that wants an event which isn't to leave has made no turn of its own since
pub record IsCalling (p : Program) (t : Running) (e : Event) (Stands : Running → Type 0) : Type 0 where
  pub here : IsHere t
  pub none : outcome_of t ≡ None
  pub wants : wants_of p t ≡ Calls e
  pub stands : Stands t

pub stands_still : (p : Program) (t : Running) (turn : Turn) (Stands : Running → Type 0) (w : Want Event)
    → wants_of p t ≡ w → (w ≡ Turns → ⊥) → IsTurned p t given.Nothing turn Stands → Stands t
stands_still p t turn Stands Turns is apart turned = absurd (apart refl)
stands_still p t turn Stands (Calls e) is apart turned = subst (λ w. Stands (own_turn_if p t w)) is turned.after
stands_still p t turn Stands Awaits is apart turned = subst (λ w. Stands (own_turn_if p t w)) is turned.after
stands_still p t turn Stands Gone is apart turned = subst (λ w. Stands (own_turn_if p t w)) is turned.after

module _ {S : Type 0} (meaning : S → Meaning) (s : Setting) (x : S) where
  abbrev By : Stage → Running → Type 0
  By stage t = StandsBy meaning s x stage t

  pub calling : (stage : Stage) (t : Running) (e : Event) → By stage t → called (wants_of s.program t) ≡ Some e
      → (e ≡ events.Ask questions.Leave → ⊥) → IsCalling s.program t e (meaning x).stands
  calling stages.Absent t e by is stays = let w : called (wants_of s.program t) ≡ None =
      ap (λ (u : Running). called (wants_of s.program u)) by.0 in absurd (cc (is, w))
  calling (stages.Runs turn) t e by is stays =
      let w = called_is (wants_of s.program t) e is in
      record { here = by.0; none = by.1; wants = w; stands = stands_still s.program t turn (meaning x).stands (Calls e) w (λ bad. absurd (cc bad)) by.2 }
  calling (stages.Ended o) t e by is stays =
      let w : called (wants_of s.program t) ≡ Some (events.Ask questions.Leave) = ap called (ended_wants s.program t o by.0 by.1) in
      let same : e ≡ events.Ask questions.Leave = cc (is, w) in absurd (stays same)
  calling (stages.Leaves o) t e by is stays = let w : called (wants_of s.program t) ≡ None =
      ap (λ (u : Running). called (wants_of s.program u)) by.2 in absurd (cc (is, w))
  calling (stages.Left o) t e by is stays = let w : called (wants_of s.program t) ≡ None =
      ap (λ (u : Running). called (wants_of s.program u)) by.2 in absurd (cc (is, w))

  pub ready : (stage : Stage) → By stage Absent → (meaning x).begins spawn_types s.worker
  ready stages.Absent by = by.1
  ready (stages.Runs turn) by = absurd by.0
  ready (stages.Ended o) by = absurd by.0
  ready (stages.Leaves o) by = absurd (cc by.2)
  ready (stages.Left o) by = absurd (cc by.2)
