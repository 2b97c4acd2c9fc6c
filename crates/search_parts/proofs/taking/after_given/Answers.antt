use Rattle.std.proofs.Common.{[], sym, ◌∙◌, ap, subst, refl}
use Rattle.schedule.specs.Machine.{Thread.Runs}
use Rattle.interp_machine.specs.Program.{program_of}
use Rattle.interp_machine.specs.State as states
use Rattle.interp_machine.specs.State.{State, At}
use Rattle.interp_trait.specs.Turns.{IsGiven}
use Rattle.schedule_machine.specs.Threads.{end_in}
use Rattle.interp.specs.Kept.{RunsBy}
use Rattle.interp.specs.Threads.{StandsFor}
use Rattle.search_threads.specs.Unlimited.{Unlimited.Going}
use Rattle.search_settled.specs.Settled.{MakesTurns}
use Rattle.search_runs.specs.Called.{Called, system_of}
use Rattle.search_parts.specs.Walkers.{RestsAt, given_to, patience}
use Rattle.search_parts.proofs.Walking.{enough, is_at, is_over}
use Rattle.search_parts.proofs.Giving.{gave, no_end, over_rests}
use Rattle.search_parts.proofs.taking.after_given.Goals as goal

pub turn-requires : goal.turn-requires
turn-requires c =
    let r = c.in_ok-thread.ensures.resumed in
    record {
      given = (
        Runs (At c.requires.given.0) 1000001,
        r.stands c.requires.given.0 c.requires.given.1.kept,
        subst (λ p. IsGiven p (Runs (At c.requires.given.0) 1000001) c.args.given) (sym (ap program_of r.runs_by.parts)) c.requires.given.1.given,
      );
    }

pub returns-in-Ended-clause-rests : goal.returns-in-Ended-clause-rests
returns-in-Ended-clause-rests c = λ b x of may.
    let r = c.in_ok-thread.ensures.resumed in
    let module_is = ap program_of r.runs_by.parts in
    let here = subst (λ p. IsGiven p (Runs (At x) 1000001) c.args.given) (sym module_is) may.given in
    let called = subst (λ p. IsGiven p (Runs (At x) 1000001) c.args.given) (sym of) may.given in
    let k = gave b (program_of c.in_ok-thread.thread.parts.now) (module_is ∙ sym of) x 1000000 c.args.given may.something called c.turn.result
    (StandsFor c.turn.new.self) (c.turn.ensures.turned (Runs (At x) 1000001) (r.stands x may.kept) here) in
    record {
      rested = Going (states.Over c.in-Ended.outcome);
      settles = over_rests b (given_to b (Going (At x)) c.args.given) k.state c.in-Ended.outcome k.same
          (is_over k.state c.in-Ended.outcome (k.says ∙ ap end_in c.in-Ended.is));
      stands = refl;
    }

pub rest-requires : goal.rest-requires
rest-requires c =
    let r = c.in_ok-thread.ensures.resumed in
    let module_is = ap program_of r.runs_by.parts in
    let x = c.requires.given.0 in
    let may = c.requires.given.1 in
    let b : Called = record {
      program = program_of c.args.valid.now.parts;
      main = x;
      worker = λ args. x;
      opening = record { bytes = []; max = 0 };
    } in
    let here = subst (λ p. IsGiven p (Runs (At x) 1000001) c.args.given) (sym module_is) may.given in
    let k = gave b (program_of c.in_ok-thread.thread.parts.now) module_is x 1000000 c.args.given may.something may.given c.turn.result
    (StandsFor c.turn.new.self) (c.turn.ensures.turned (Runs (At x) 1000001) (r.stands x may.kept) here) in
    record { fuel = c.turn.ensures.stays.fuel ∙ r.budget; stands = (k.state, k.left, k.stands) }

pub returns-in-Ended-clause-gives_up : goal.returns-in-Ended-clause-gives_up
returns-in-Ended-clause-gives_up c none = absurd (cc none)

pub returns-clause-gives_up : goal.returns-clause-gives_up
returns-clause-gives_up c none = absurd (cc none)

pub returns-in_default-2 : goal.returns-in_default-2
unfolding patience
returns-in_default-2 c = record {
  rests = tt;
  gives_up = λ none b x of may.
      let w = c.args.valid.now in
      let n = c.turn.new.self in
      let r = c.in_ok-thread.ensures.resumed in
      let module_is = ap program_of r.runs_by.parts in
      let here = subst (λ p. IsGiven p (Runs (At x) 1000001) c.args.given) (sym module_is) may.given in
      let called = subst (λ p. IsGiven p (Runs (At x) 1000001) c.args.given) (sym of) may.given in
      let k = gave b (program_of c.in_ok-thread.thread.parts.now) (module_is ∙ sym of) x 1000000 c.args.given may.something called c.turn.result
      (StandsFor n) (c.turn.ensures.turned (Runs (At x) 1000001) (r.stands x may.kept) here) in
      let at = is_at k.state (k.says ∙ no_end c.turn.result c.in_default.not-Ended) in
      let st : StandsFor n (Runs (At at.0) k.left) = subst (λ y. StandsFor n (Runs y k.left)) at.1 k.stands in
      let runs_by : RunsBy w n = record {
        parts = c.turn.ensures.kept.parts ∙ r.runs_by.parts;
        tables = c.turn.ensures.tables st.1.0 ∙ r.runs_by.tables;
      } in
      let turns = c.in_ok-standing.ensures.gives_up c.in_default-2.is w b k.state k.left of runs_by k.stands in
      subst (λ v. MakesTurns (system_of b) 1000000 v) (sym k.same) (enough b 1000000 k.left (Going k.state) k.few turns);
}

pub returns-clause-rests : goal.returns-clause-rests
returns-clause-rests c = λ b x of may.
    let w = c.args.valid.now in
    let n = c.turn.new.self in
    let r = c.in_ok-thread.ensures.resumed in
    let module_is = ap program_of r.runs_by.parts in
    let here = subst (λ p. IsGiven p (Runs (At x) 1000001) c.args.given) (sym module_is) may.given in
    let called = subst (λ p. IsGiven p (Runs (At x) 1000001) c.args.given) (sym of) may.given in
    let k = gave b (program_of c.in_ok-thread.thread.parts.now) (module_is ∙ sym of) x 1000000 c.args.given may.something called c.turn.result
    (StandsFor n) (c.turn.ensures.turned (Runs (At x) 1000001) (r.stands x may.kept) here) in
    let at = is_at k.state (k.says ∙ no_end c.turn.result c.in_default.not-Ended) in
    let st : StandsFor n (Runs (At at.0) k.left) = subst (λ y. StandsFor n (Runs y k.left)) at.1 k.stands in
    let runs_by : RunsBy w n = record {
      parts = c.turn.ensures.kept.parts ∙ r.runs_by.parts;
      tables = c.turn.ensures.tables st.1.0 ∙ r.runs_by.tables;
    } in
    let rested = rw c.in-Some.is at c.in_ok-standing.ensures.rests in
    subst (λ v. RestsAt w b v c.in-Some.standing) (sym k.same) (rested w b k.state k.left of runs_by k.stands c.requires.sound)
