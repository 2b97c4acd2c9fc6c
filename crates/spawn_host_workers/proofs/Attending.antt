-- A thread is given what its event came to.
use Rattle.std.proofs.Common.{◌≡◌, ◌-◌, ℕ, arith, Bool, List, Option, None, refl, sym, subst}
use Rattle.types.specs.declared.event.Event.{Event}
use Rattle.types.specs.declared.event.Reply.{Reply}
use Rattle.types.specs.declared.event.Reply.TheVariants as replies
use Rattle.types.specs.declared.event.Answer.{Answer}
use Rattle.types.specs.declared.event.Entry.{Entry}
use Rattle.shared_memory.specs.Memory.{Memory}
use Rattle.shared_memory.specs.Access.{lost_after}
use Rattle.schedule.specs.System.{Act.Made, Act.Heard, Step.Acts, Want.Calls}
use Rattle.schedule.specs.Machine.{Thread.Runs}
use Rattle.interp_machine.specs.Program.{Program}
use Rattle.interp_machine.specs.State.{At, heard}
use Rattle.schedule_threads.specs.Seeing.{Sees, SeesAct}
use Rattle.interp_trait.specs.Turns.{Running, outcome_of, left_of, wants_of, after_reply, IsGiven, IsTurned, SaysWhy, IsHere}
use Rattle.interp_trait.specs.declared.gate.Gate.{Ghosts}
use Rattle.interp_trait.specs.declared.turn.Given.TheVariants as given
use Rattle.interp_trait.specs.declared.turn.Turn.{Turn}
use Rattle.interp_trait.specs.declared.turn.Turn.TheVariants as turns
use Rattle.interp_trait.specs.Comes.{Comes, IsCalledFor, IsSpent, Pauses, Watched}
use Rattle.interp_trait.specs.Comes.{MayTry, try_of}
use Rattle.spawn_host_workers.specs.Serving.{IsOpen, IsEndOf, IsPaid, Attends, Steps}
use Rattle.interp_trait.proofs.Coming.{comes_none, comes_by, comes_then}
use Rattle.interp_trait.proofs.Trying.{called_for, comes_reply, here_try, less_after}
use Rattle.spawn_host_workers.proofs.Turning.{Opening, opening, open_done, ended_by}
use Rattle.spawn_host_workers.proofs.Paying.{paid_reply, paid_answer, paid_then}

module _ {G : Type 0} (gate : Ghosts G) (budget : ℕ) (p : Program) (loses : Bool) (opening_memory : Memory) (limit : Option ℕ) (n : ℕ)
    (t : Running) (e : Event) (none : outcome_of t ≡ None) (want : wants_of p t ≡ Calls e) (before after : Watched G)
    (between : G) (wanted : gate.sees before.gate n (budget - left_of t) between) where
  -- a reply
  abbrev attends_reply : (reply : Reply) (turn : Turn) (Stands : Running → Type 0) → MayTry e reply
      → Sees loses opening_memory limit n (try_of e reply) before.seen after.seen → after.lost ≡ lost_after reply before.lost
      → gate.sees between n (budget - left_of t) after.gate
      → IsTurned p t (given.Reply reply) turn Stands → Attends gate budget p loses opening_memory limit n t turn Stands before after
  attends_reply reply turn Stands may sees tries called turned = record {
    now = after_reply p t reply;
    stands = turned.after;
    here = here_try p t e none want reply;
    comes = comes_reply gate budget p loses opening_memory limit n t e none want before after between wanted reply may sees tries called;
    ended = ended_by p t (given.Reply reply) turn turned.answer;
  }

  pub steps_reply : (reply : Reply) (turn : Turn) (Stands : Running → Type 0) → MayTry e reply → Sees loses opening_memory limit n
      (try_of e reply) before.seen after.seen
      → after.lost ≡ lost_after reply before.lost → gate.sees between n (budget - left_of t) after.gate
      → IsTurned p t (given.Reply reply) turn Stands → Steps gate budget p loses opening_memory limit n t turn Stands before after
  steps_reply reply turn Stands may sees tries called turned = record {
    attends = attends_reply reply turn Stands may sees tries called turned;
    paid = paid_reply p t reply turn turned.answer (less_after p t e none want reply);
  }

-- a question, of which the thread is told that it was asked
module _ (p : Program) (t : Running) (e : Event) (none : outcome_of t ≡ None) (want : wants_of p t ≡ Calls e)
    (reply : Reply) (opened : IsOpen e reply) (asked_turn : Turn) (Asked : Running → Type 0)
    (asked : IsTurned p t (given.Reply replies.Done) asked_turn Asked) where
  abbrev open_now : Opening p t e
  open_now = opening p t e reply opened none want

  abbrev pub awaiting : Running
  awaiting = Runs (At open_now.config) open_now.left

  pub awaiting_stands : Asked awaiting
  awaiting_stands = subst Asked (open_now.takes replies.Done (open_done e reply opened)) asked.after

  pub awaiting_given : (answer : Answer) → IsGiven p awaiting (given.Told answer)
  awaiting_given answer = (refl, open_now.awaits)

  pub may_be_told : (q : Program) → q ≡ p → (answer : Answer) → (x : Running) × Asked x × IsGiven q x (given.Told answer)
  may_be_told q same answer = (awaiting, awaiting_stands, subst (λ z. IsGiven z awaiting (given.Told answer)) (sym same) (awaiting_given answer))

  -- and its answer
  module _ {G : Type 0} (gate : Ghosts G) (budget : ℕ) (loses : Bool) (opening_memory : Memory) (limit : Option ℕ) (n : ℕ)
      (before after : Watched G) (between replied : G) (wanted : gate.sees before.gate n (budget - left_of t) between)
      (replying : gate.sees between n (budget - left_of t) replied) (hearing : gate.sees replied n (budget - left_of awaiting) after.gate) where
    abbrev attends_answer : (answer : Answer) (middle : List Entry) (turn : Turn) (Stands : Running → Type 0)
        → SeesAct limit n (Made e reply) before.seen middle → SeesAct limit n (Heard answer) middle after.seen → after.lost ≡ before.lost
        → IsTurned p awaiting (given.Told answer) turn Stands → Attends gate budget p loses opening_memory limit n t turn Stands before after
    attends_answer answer middle turn Stands sees_asked sees_heard tries turned =
        let asked_at : Watched G = record { seen = middle; lost = before.lost; gate = replied } in
        let done : Running = Runs (heard p (At open_now.config) answer) open_now.left in record {
          now = done;
          stands = turned.after;
          here = tt;
          comes = comes_then loses opening_memory limit n gate budget p t awaiting done before asked_at after
              (comes_by loses opening_memory limit n gate budget p t awaiting (Acts (Made e reply)) before asked_at
              (λ start fuel. (want, open_now.takes reply opened)) sees_asked (omega arith)
              (called_for gate.sees n (outcome_of t) _ before.gate replied none (between, wanted, (replied, replying, refl))))
              (comes_by loses opening_memory limit n gate budget p awaiting done (Acts (Heard answer)) asked_at after
              (λ start fuel. (open_now.awaits, refl)) sees_heard (omega (arith, tries)) (after.gate, hearing, refl));
          ended = ended_by p awaiting (given.Told answer) turn turned.answer;
        }

    pub steps_answer : (answer : Answer) (middle : List Entry) (turn : Turn) (Stands : Running → Type 0)
        → SeesAct limit n (Made e reply) before.seen middle → SeesAct limit n (Heard answer) middle after.seen → after.lost ≡ before.lost
        → IsTurned p awaiting (given.Told answer) turn Stands → Steps gate budget p loses opening_memory limit n t turn Stands before after
    steps_answer answer middle turn Stands sees_asked sees_heard tries turned = record {
      attends = attends_answer answer middle turn Stands sees_asked sees_heard tries turned;
      paid = paid_answer p t awaiting answer turn turned.answer open_now.less;
    }

-- turns of its own and tries

ended_why : (p : Program) (x : Running) (turn : Turn) → SaysWhy p x turn → IsEndOf turn x
ended_why p x turns.Moved h = absurd h
ended_why p x (turns.Wants event) h = tt
ended_why p x turns.Awaits h = tt
ended_why p x (turns.Ended outcome) h = h

module _ {G : Type 0} (gate : Ghosts G) (budget : ℕ) (p : Program) (loses : Bool) (opening_memory : Memory) (limit : Option ℕ) (n : ℕ) (t : Running)
    (Stands : Running → Type 0) where
  not_called : (turn : Turn) (units : ℕ) (old new : G) → ((event : Event) → turn ≡ turns.Wants event → ⊥) → IsCalledFor gate n turn units old new → new ≡ old
  not_called turns.Moved units old new other h = h
  not_called (turns.Wants event) units old new other h = absurd (other event refl)
  not_called turns.Awaits units old new other h = h
  not_called (turns.Ended outcome) units old new other h = h

  paid_pause : (turn : Turn) (now : Running) → ((event : Event) → turn ≡ turns.Wants event → ⊥) → IsSpent p t turn now → IsPaid p t turn now
  paid_pause turns.Moved now other h = absurd h
  paid_pause (turns.Wants event) now other h = absurd (other event refl)
  paid_pause turns.Awaits now other h = h
  paid_pause (turns.Ended outcome) now other h = tt

  -- where it pauses for an event
  pub pauses_for : (turn : Turn) (event : Event) (before after : Watched G) → turn ≡ turns.Wants event
      → Pauses gate budget p loses opening_memory limit n t turn Stands before after
      → Pauses gate budget p loses opening_memory limit n t (turns.Wants event) Stands before after
  pauses_for turn event before after is g = subst (λ x. Pauses gate budget p loses opening_memory limit n t x Stands before after) is g

  pub steps_own : (turn : Turn) (before after : Watched G) → ((event : Event) → turn ≡ turns.Wants event → ⊥)
      → Pauses gate budget p loses opening_memory limit n t turn Stands before after
      → Steps gate budget p loses opening_memory limit n t turn Stands before after
  steps_own turn before after other g = record {
    attends = record {
      now = g.now;
      stands = g.stands;
      here = g.here;
      comes = subst (λ x. Comes gate budget p loses opening_memory limit n t g.now before (record after { gate = x }))
          (sym (not_called turn (budget - left_of g.now) g.last after.gate other g.called)) g.comes;
      ended = ended_why p g.now turn g.why;
    };
    paid = paid_pause turn g.now other g.spent;
  }

  -- and then an event, before which the gate was called once more
  pub steps_then : (event : Event) (turn : Turn) (Stands' : Running → Type 0) (before middle after : Watched G)
      → (g : Pauses gate budget p loses opening_memory limit n t (turns.Wants event) Stands before middle)
      → ((earlier : G) → gate.sees earlier n (budget - left_of g.now) middle.gate
      → Steps gate budget p loses opening_memory limit n g.now turn Stands' (record middle { gate = earlier }) after)
      → Steps gate budget p loses opening_memory limit n t turn Stands' before after
  steps_then event turn Stands' before middle after g attends =
      let h = attends g.last g.called in record {
        attends = record {
          now = h.attends.now;
          stands = h.attends.stands;
          here = h.attends.here;
          comes = comes_then loses opening_memory limit n gate budget p t g.now h.attends.now before (record middle { gate = g.last }) after g.comes
              h.attends.comes;
          ended = h.attends.ended;
        };
        paid = paid_then p t g.now event g.spent g.why.1 turn h.attends.now h.paid;
      }

-- one after the other
module _ {G : Type 0} (gate : Ghosts G) (budget : ℕ) (p : Program) (loses : Bool) (opening_memory : Memory) (limit : Option ℕ) (n : ℕ) (t : Running) where
  pub attends_none : (Stands : Running → Type 0) (before : Watched G) → Stands t → IsHere t
      → Attends gate budget p loses opening_memory limit n t turns.Moved Stands before before
  attends_none Stands before stands here = record {
    now = t;
    stands = stands;
    here = here;
    comes = comes_none loses opening_memory limit n gate budget p t before;
    ended = tt;
  }

  pub attends_then : (first turn : Turn) (Stands Stands' : Running → Type 0) (before middle after : Watched G)
      → Attends gate budget p loses opening_memory limit n t first Stands before middle
      → ((x : Running) → Stands x → IsHere x → Attends gate budget p loses opening_memory limit n x turn Stands' middle after)
      → Attends gate budget p loses opening_memory limit n t turn Stands' before after
  attends_then first turn Stands Stands' before middle after h more =
      let k = more h.now h.stands h.here in record {
        now = k.now;
        stands = k.stands;
        here = k.here;
        comes = comes_then loses opening_memory limit n gate budget p t h.now k.now before middle after h.comes k.comes;
        ended = k.ended;
      }

  pub attends_moved : (turn : Turn) (Stands : Running → Type 0) (before after : Watched G)
      → Attends gate budget p loses opening_memory limit n t turn Stands before after
      → Attends gate budget p loses opening_memory limit n t turns.Moved Stands before after
  attends_moved turn Stands before after h = record { now = h.now; stands = h.stands; here = h.here; comes = h.comes; ended = tt }
