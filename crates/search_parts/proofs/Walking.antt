-- Turns of a thread with units left are turns of the thread without a budget.
use Rattle.std.specs.Prelude.{IfSome}
use Rattle.std.proofs.Common.{◌≡◌, ◌⊎◌, inl, inr, ℕ, zero, suc, ◌<◌, ◌-◌, Some, None, refl, sym, ◌∙◌, ap, subst, arith}
use Rattle.types.specs.declared.event.Event.{Event}
use Rattle.types.specs.declared.outcome.Outcome.{Outcome}
use Rattle.shared_memory.specs.Events.{IsEvent}
use Rattle.validate_typing.specs.Tabled.{WithTables}
use Rattle.schedule.specs.System.{Want.Turns}
use Rattle.schedule.specs.Machine.{Wish, Wish.Goes, Wish.Asks, Wish.Waits, Wish.Ends, wanted, thread_goes}
use Rattle.schedule.specs.Machine.{Thread.Absent, Thread.Runs, Thread.Over, Thread.Leaves, Thread.Left}
use Rattle.schedule_threads.specs.Threads.{machine_of, wishes}
use Rattle.interp_machine.specs.Config.{Config}
use Rattle.interp_machine.specs.Program.{Program}
use Rattle.interp_machine.specs.State as states
use Rattle.interp_machine.specs.State.{State, At}
use Rattle.interp_trait.specs.declared.turn.Turn.{Turn}
use Rattle.interp_trait.specs.declared.turn.Turn.TheVariants as turns
use Rattle.interp_trait.specs.Turns.{Running, wants_of, left_of, outcome_in, after_own, SaysWhy, IsPaused}
use Rattle.interp_trait.specs.Turns.{IsWanted}
use Rattle.schedule_machine.specs.Threads.{called}
use Rattle.search_threads.specs.Unlimited.{Unlimited.Going, want_by, unlimited_wants}
use Rattle.search_settled.specs.Settled.{ComesTo, Settles, MakesTurns}
use Rattle.search_runs.specs.Called.{Called, Walker, system_of}
use Rattle.search_parts.specs.Walkers.{IsOf}
use Rattle.search_parts.specs.Rests.{event_in}

wish_same : (p : Program) (r : ℕ) (w : Wish Event Outcome) → wanted (machine_of p) (suc r) w ≡ want_by (machine_of p) w
wish_same p r Waits = refl
wish_same p r (Ends o) = refl
wish_same p r Goes = refl
wish_same p r (Asks e) = refl

-- with units left it wants what the one without a budget does
pub same_wants : (b : Called) (x : State) (r : ℕ) → wants_of b.program (Runs x (suc r)) ≡ (system_of b).wants (Going x)
same_wants b x r = wish_same b.program r (wishes b.program x)

-- one more turn behind others
pub one_more : (b : Called) (n : ℕ) (v u : Walker) → ComesTo (system_of b) n v u → (system_of b).wants u ≡ Turns
    → ComesTo (system_of b) (suc n) v ((system_of b).own_turn u)
one_more b zero v u comes wants = (ap (λ z. (system_of b).wants z) comes ∙ wants, ap (λ z. (system_of b).own_turn z) comes)
one_more b (suc n) v u comes wants = (comes.0, one_more b n ((system_of b).own_turn v) u comes.1 wants)

-- where it has come to with units left
pub record Walked (b : Called) (n : ℕ) (x : State) (z : Running) (r : ℕ) : Type 0 where
  pub state : State
  pub is : z ≡ Runs state (suc r)
  pub comes : ComesTo (system_of b) n (Going x) (Going state)

step : (b : Called) (n : ℕ) (x : State) (z : Running) (r : ℕ) → wants_of b.program z ≡ Turns → left_of (thread_goes (machine_of b.program) z) ≡ suc r
    → ((k : ℕ) → left_of z ≡ suc k → Walked b n x z k) → Walked b (suc n) x (thread_goes (machine_of b.program) z) r
step b n x Absent r wants left before = absurd (cc wants)
step b n x (Over o l) r wants left before = absurd (cc wants)
step b n x (Leaves o l) r wants left before = absurd (cc wants)
step b n x (Left o l) r wants left before = absurd (cc wants)
step b n x (Runs c zero) r wants left before = absurd (cc left)
step b n x (Runs c (suc l)) r wants left before =
    let walked = before l refl in
    let same : c ≡ walked.state = cc walked.is in
    let goes : (system_of b).wants (Going walked.state) ≡ Turns = ap (λ y. (system_of b).wants (Going y)) (sym same) ∙ (sym (same_wants b c l) ∙ wants) in
    record {
      state = (machine_of b.program).goes walked.state;
      is = ap (λ y. Runs ((machine_of b.program).goes y) l) same ∙ ap (Runs ((machine_of b.program).goes walked.state)) left;
      comes = one_more b n (Going x) (Going walked.state) walked.comes goes;
    }

pub walked : (b : Called) (n : ℕ) (x : State) (l r : ℕ) → ((k : ℕ) → k < n → wants_of b.program (after_own b.program k (Runs x l)) ≡ Turns)
    → left_of (after_own b.program n (Runs x l)) ≡ suc r → Walked b n x (after_own b.program n (Runs x l)) r
walked b zero x l r each left = record { state = x; is = ap (Runs x) left; comes = refl }
walked b (suc n) x l r each left =
    step b n x (after_own b.program n (Runs x l)) r (each n (omega arith)) left
    (λ k here. walked b n x l k (λ j low. each j (omega (arith, low))) here)

-- who says why makes no turn of its own
pub rests : (b : Called) (x : State) (r : ℕ) (turn : Turn) → SaysWhy b.program (Runs x (suc r)) turn → (system_of b).wants (Going x) ≡ Turns → ⊥
rests b x r turns.Moved says wants = says
rests b x r (turns.Wants e) says wants = let w = same_wants b x r in let h = says.1 in cc (w, h, wants)
rests b x r turns.Awaits says wants = let w = same_wants b x r in let h = says.1 in cc (w, h, wants)
rests b (At c) r (turns.Ended o) says wants = cc says
rests b (states.Over u) r (turns.Ended o) says wants = cc wants

-- where it has come to, and why it makes no further turn
pub record Came (b : Called) (x : State) (turn : Turn) (Stands : Running → Type 0) : Type 0 where
  pub state : State
  pub left : ℕ
  pub settles : Settles (system_of b) (Going x) (Going state)
  pub stands : Stands (Runs state (suc left))
  pub says : SaysWhy b.program (Runs state (suc left)) turn

-- whatever else is known of the turns
pub only_stands : (p : Program) (t : Running) (turn : Turn) (Stands : Running → Type 0) (Also : ℕ → Running → Type 0)
    → IsPaused p t turn (λ k now. Stands now × Also k now) → IsPaused p t turn (λ k. Stands)
only_stands p t turn Stands Also q = record { turns = q.turns; each = q.each; after = q.after.0; answer = q.answer; wanted = q.wanted }

pub came : (b : Called) (p : Program) → p ≡ b.program → (x : State) (l : ℕ) (turn : Turn) (Stands : Running → Type 0) → IsPaused p (Runs x l) turn (λ k. Stands)
    → ((t : Running) → Stands t → left_of t ≡ suc (left_of t - 1)) → Came b x turn Stands
came b p same x l turn Stands paused some =
    let q : IsPaused b.program (Runs x l) turn (λ k. Stands) = subst (λ z. IsPaused z (Runs x l) turn (λ k. Stands)) same paused in
    let end : Running = after_own b.program q.turns (Runs x l) in
    let w = walked b q.turns x l (left_of end - 1) q.each (some end q.after) in
    let says : SaysWhy b.program (Runs w.state (suc (left_of end - 1))) turn = subst (λ z. SaysWhy b.program z turn) w.is q.answer in
    record {
      state = w.state;
      left = left_of end - 1;
      settles = record { turns = q.turns; comes = w.comes; rests = rests b w.state (left_of end - 1) turn says };
      stands = subst Stands w.is q.after;
      says = says;
    }

-- who has no units left has made as many turns as it had units
first_own : (p : Program) (n : ℕ) (t : Running) → after_own p n (thread_goes (machine_of p) t) ≡ after_own p (suc n) t
first_own p zero t = refl
first_own p (suc n) t = ap (thread_goes (machine_of p)) (first_own p n t)

spends : (b : Called) (l n : ℕ) (x : State) → ((k : ℕ) → k < n → wants_of b.program (after_own b.program k (Runs x l)) ≡ Turns)
    → left_of (after_own b.program n (Runs x l)) ≡ 0 → MakesTurns (system_of b) l (Going x)
spends b zero n x each none = record { last = Going x; comes = refl }
spends b (suc l) zero x each none = absurd (cc none)
spends b (suc l) (suc n) x each none =
    let start : Running = Runs x (suc l) in
    let k = spends b l n ((machine_of b.program).goes x)
    (λ j low. ap (wants_of b.program) (first_own b.program j start) ∙ each (suc j) (omega (arith, low)))
    (ap left_of (first_own b.program n start) ∙ none) in
    record { last = k.last; comes = (sym (same_wants b x l) ∙ each 0 (omega arith), k.comes) }

pub spent_all : (b : Called) (p : Program) → p ≡ b.program → (x : State) (l : ℕ) (turn : Turn) (Stands : Running → Type 0) → IsPaused p (Runs x l) turn
    (λ k. Stands)
    → ((t : Running) → Stands t → left_of t ≡ 0) → MakesTurns (system_of b) l (Going x)
spent_all b p same x l turn Stands paused none =
    let q : IsPaused b.program (Runs x l) turn (λ k. Stands) = subst (λ z. IsPaused z (Runs x l) turn (λ k. Stands)) same paused in
    spends b l q.turns x q.each (none (after_own b.program q.turns (Runs x l)) q.after)

-- and as many as it had but for one
pub fewer : (b : Called) (n : ℕ) (t : Walker) → MakesTurns (system_of b) (suc n) t → MakesTurns (system_of b) n t
fewer b zero t m = record { last = t; comes = refl }
fewer b (suc n) t m =
    let k = fewer b n ((system_of b).own_turn t) (record { last = m.last; comes = m.comes.1 }) in
    record { last = k.last; comes = (m.comes.0, k.comes) }

pub enough : (b : Called) (n l : ℕ) (t : Walker) → (l ≡ n) ⊎ (l ≡ suc n) → MakesTurns (system_of b) l t → MakesTurns (system_of b) n t
enough b n l t (inl is) m = subst (λ k. MakesTurns (system_of b) k t) is m
enough b n l t (inr is) m = fewer b n t (subst (λ k. MakesTurns (system_of b) k t) is m)

pub is_over : (y : State) (o : Outcome) → outcome_in y ≡ Some o → y ≡ states.Over o
is_over (At c) o h = absurd (cc h)
is_over (states.Over u) o h = ap states.Over (cc h)

pub is_at : (y : State) → outcome_in y ≡ None → (c : Config) × (y ≡ At c)
is_at (At c) h = (c, refl)
is_at (states.Over u) h = absurd (cc h)

pub says_end : (p : Program) (y : State) (r : ℕ) (turn : Turn) (o : Outcome) → turn ≡ turns.Ended o → SaysWhy p (Runs y r) turn → y ≡ states.Over o
says_end p y r turn o is says = is_over y o (subst (λ t. SaysWhy p (Runs y r) t) is says)

pub says_none : (p : Program) (y : State) (r : ℕ) (turn : Turn) → SaysWhy p (Runs y r) turn → ((o : Outcome) → turn ≡ turns.Ended o → ⊥) → outcome_in y ≡ None
says_none p y r turns.Moved says other = absurd says
says_none p y r (turns.Wants e) says other = says.0
says_none p y r turns.Awaits says other = says.0
says_none p y r (turns.Ended o) says other = absurd (other o refl)

-- who says why wants the event of which it speaks, or none
pub why_wanted : (b : Called) (x : State) (r : ℕ) (turn : Turn) → ((o : Outcome) → turn ≡ turns.Ended o → ⊥) → SaysWhy b.program (Runs x (suc r)) turn
    → event_in turn ≡ called ((system_of b).wants (Going x))
why_wanted b x r turns.Moved other says = absurd says
why_wanted b x r (turns.Wants e) other says = ap called (sym says.1 ∙ same_wants b x r)
why_wanted b x r turns.Awaits other says = ap called (sym says.1 ∙ same_wants b x r)
why_wanted b x r (turns.Ended o) other says = absurd (other o refl)

pub event_wanted : (turn : Turn) → IsWanted turn → IfSome (event_in turn) IsEvent
event_wanted turns.Moved is = tt
event_wanted (turns.Wants e) is = is
event_wanted turns.Awaits is = tt
event_wanted (turns.Ended o) is = tt

-- a thread wants the same whatever is called of its module
pub wants_by : (w : WithTables) (b d : Called) → IsOf b w → IsOf d w → (v : Walker) → (system_of b).wants v ≡ (system_of d).wants v
wants_by w b d of is v = ap (λ p. unlimited_wants (machine_of p) v) (of ∙ sym is)
