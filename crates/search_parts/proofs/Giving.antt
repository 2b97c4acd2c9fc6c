-- What a thread makes of a reply or of an answer, the one without a budget makes too.
use Rattle.std.proofs.Common.{◌≡◌, ◌⊎◌, inl, inr, ℕ, suc, ◌-◌, Option, None, refl, sym, ◌∙◌, ap, subst, arith}
use Rattle.types.specs.declared.event.Event.{Event}
use Rattle.types.specs.declared.event.Reply.{Reply}
use Rattle.types.specs.declared.event.Reply.TheVariants as replies
use Rattle.types.specs.declared.outcome.Outcome.{Outcome}
use Rattle.validate_typing.specs.Tabled.{WithTables}
use Rattle.interp.specs.declared.kept.Kept.{Kept}
use Rattle.schedule.specs.System.{Want.Calls, Want.Awaits}
use Rattle.schedule.specs.Machine.{Wish, Wish.Goes, Wish.Asks, Wish.Waits, Wish.Ends, wanted, takes_by, thread_takes, Thread.Runs}
use Rattle.schedule_threads.specs.Threads.{machine_of, wishes, wish_of}
use Rattle.interp_machine.specs.Config.{Config, Next, Stuck, Goes as GoesTo, Traps, Finishes, Asks as AsksFor, Hears}
use Rattle.interp_machine.specs.Program.{Program}
use Rattle.interp_machine.specs.Step.{next}
use Rattle.interp_machine.specs.State as states
use Rattle.interp_machine.specs.State.{State, At}
use Rattle.interp_trait.specs.declared.turn.Given.{Given}
use Rattle.interp_trait.specs.declared.turn.Given.TheVariants as given
use Rattle.interp_trait.specs.declared.turn.Turn.{Turn}
use Rattle.interp_trait.specs.declared.turn.Turn.TheVariants as turns
use Rattle.interp_trait.specs.Turns.{Running, after_turn, after_reply, IsGiven, IsTurned, outcome_of, outcome_in}
use Rattle.schedule_machine.proofs.Turning.{ended_says}
use Rattle.schedule_machine.specs.Threads.{IsMadeReply, end_in}
use Rattle.search_threads.specs.Unlimited.{Unlimited.Going, reply_by}
use Rattle.search_settled.specs.Settled.{Settles}
use Rattle.search_runs.specs.Called.{Called, Walker, system_of}
use Rattle.search_parts.specs.Walkers.{IsSomething, StandsForThread, given_to}
use Rattle.search_parts.specs.declared.walker.RestingThread.{RestingThread}
use Rattle.search_parts.specs.declared.walker.RestingThread.TheVariants as standings

made_reply : (p : Program) (t : Running) (v : Reply) → IsMadeReply v → after_reply p t v ≡ thread_takes (machine_of p) t v
made_reply p t (replies.Value n) made = refl
made_reply p t replies.Done made = refl
made_reply p t replies.OutOfBounds made = refl
made_reply p t replies.Again made = absurd made
made_reply p t replies.Full made = absurd made

never_ends : (n : Next) (o : Outcome) → wish_of n ≡ Ends o → ⊥
never_ends Stuck o h = cc h
never_ends (GoesTo c) o h = cc h
never_ends (Traps t) o h = cc h
never_ends (Finishes r) o h = cc h
never_ends (AsksFor e go) o h = cc h
never_ends (Hears go) o h = cc h

-- the configuration after it, with the units that are left: all but one at least
pub record After (b : Called) (x : State) (r : ℕ) (t : Running) (v : Walker) : Type 0 where
  pub state : State
  pub left : ℕ
  pub few : (left ≡ r) ⊎ (left ≡ suc r)
  pub is : t ≡ Runs state left
  pub same : v ≡ Going state

taken : (b : Called) (c : Config) (r : ℕ) (v : Reply) (e : Event) (w : Wish Event Outcome) → wishes b.program (At c) ≡ w
    → wanted (machine_of b.program) (suc r) w ≡ Calls e
    → After b (At c) r (takes_by (machine_of b.program) w (At c) (suc r) v) (reply_by (machine_of b.program) w (At c) v)
taken b c r v e Goes is wants = absurd (cc wants)
taken b c r v e Waits is wants = absurd (cc wants)
taken b c r v e (Asks event) is wants = record {
  state = (machine_of b.program).takes (At c) v;
  left = suc r - 1;
  few = inl (omega arith);
  is = refl;
  same = refl;
}
taken b c r v e (Ends o) is wants = absurd (never_ends (next b.program c) o is)

pub after_given : (b : Called) (c : Config) (r : ℕ) (g : Given) → IsSomething g → IsGiven b.program (Runs (At c) (suc r)) g
    → After b (At c) r (after_turn b.program (Runs (At c) (suc r)) g) (given_to b (Going (At c)) g)
after_given b c r given.Nothing some may = absurd some
after_given b c r (given.Told answer) some may = record {
  state = (machine_of b.program).hears (At c) answer;
  left = suc r;
  few = inr refl;
  is = refl;
  same = refl;
}
after_given b c r (given.Reply reply) some may =
    let k = taken b c r reply may.1 (wishes b.program (At c)) refl may.2 in
    record { state = k.state; left = k.left; few = k.few; is = made_reply b.program (Runs (At c) (suc r)) reply some ∙ k.is; same = k.same }

-- who has ended is at rest
pub over_rests : (b : Called) (v : Walker) (y : State) (o : Outcome) → v ≡ Going y → y ≡ states.Over o → Settles (system_of b) v (Going (states.Over o))
over_rests b v y o same is = record { turns = 0; comes = same ∙ ap Going is; rests = λ h. cc h }

pub no_end : (turn : Turn) → ((o : Outcome) → turn ≡ turns.Ended o → ⊥) → end_in turn ≡ None
no_end turns.Moved other = refl
no_end (turns.Wants e) other = refl
no_end turns.Awaits other = refl
no_end (turns.Ended o) other = absurd (other o refl)

-- what a turn has made of it, and how it has ended
pub record Gave (r : ℕ) (v : Walker) (turn : Turn) (Stands : Running → Type 0) : Type 0 where
  pub state : State
  pub left : ℕ
  pub few : (left ≡ r) ⊎ (left ≡ suc r)
  pub same : v ≡ Going state
  pub stands : Stands (Runs state left)
  pub says : outcome_in state ≡ end_in turn

pub gave : (b : Called) (p : Program) → p ≡ b.program → (c : Config) (r : ℕ) (g : Given) → IsSomething g → IsGiven b.program (Runs (At c) (suc r)) g
    → (turn : Turn) (Stands : Running → Type 0) → IsTurned p (Runs (At c) (suc r)) g turn Stands → Gave r (given_to b (Going (At c)) g) turn Stands
gave b p same c r g some may turn Stands turned =
    let q : IsTurned b.program (Runs (At c) (suc r)) g turn Stands = subst (λ z. IsTurned z (Runs (At c) (suc r)) g turn Stands) same turned in
    let k = after_given b c r g some may in
    record {
      state = k.state;
      left = k.left;
      few = k.few;
      same = k.same;
      stands = subst Stands k.is q.after;
      says = ap outcome_of (sym k.is) ∙ ended_says b.program (Runs (At c) (suc r)) g turn q.answer;
    }

-- who is missing, leaves or is away wants no event, and who has ended, is missing or away awaits no answer
pub no_taker : (w : WithTables) (b : Called) (s : RestingThread) (v : Walker) (e : Event) → StandsForThread w s v → (system_of b).wants v ≡ Calls e
    → ((k : Kept) (p : Option Event) → s ≡ standings.Going k p → ⊥) → ((o : Outcome) → s ≡ standings.Ended o → ⊥) → ⊥
no_taker w b standings.Missing v e stands wants going ended = let none = ap (λ u. (system_of b).wants u) stands in cc (none, wants)
no_taker w b (standings.Going k p) v e stands wants going ended = going k p refl
no_taker w b (standings.Ended o) v e stands wants going ended = ended o refl
no_taker w b (standings.Leaving o) v e stands wants going ended = let waits = ap (λ u. (system_of b).wants u) stands in cc (waits, wants)
no_taker w b (standings.Away o) v e stands wants going ended = let none = ap (λ u. (system_of b).wants u) stands in cc (none, wants)

pub no_hearer : (w : WithTables) (b : Called) (s : RestingThread) (v : Walker) → StandsForThread w s v → (system_of b).wants v ≡ Awaits
    → ((k : Kept) (p : Option Event) → s ≡ standings.Going k p → ⊥) → ((o : Outcome) → s ≡ standings.Leaving o → ⊥) → ⊥
no_hearer w b standings.Missing v stands wants going leaving = let none = ap (λ u. (system_of b).wants u) stands in cc (none, wants)
no_hearer w b (standings.Going k p) v stands wants going leaving = going k p refl
no_hearer w b (standings.Ended o) v stands wants going leaving = let calls = ap (λ u. (system_of b).wants u) stands in cc (calls, wants)
no_hearer w b (standings.Leaving o) v stands wants going leaving = leaving o refl
no_hearer w b (standings.Away o) v stands wants going leaving = let none = ap (λ u. (system_of b).wants u) stands in cc (none, wants)
