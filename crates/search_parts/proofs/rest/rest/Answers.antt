use Rattle.std.proofs.Common.{◌≡◌, ◌-◌, suc, sym, ◌∙◌, ap, subst, arith}
use Rattle.std.specs.Prelude.{IfSome}
use Rattle.shared_memory.specs.Events.{IsEvent}
use Rattle.schedule_machine.specs.Threads.{called}
use Rattle.schedule.specs.Machine.{Thread.Runs}
use Rattle.interp_machine.specs.Program.{program_of}
use Rattle.interp_machine.specs.State.{At}
use Rattle.interp_trait.specs.Turns.{Running, left_of}
use Rattle.interp.specs.Kept.{RunsBy}
use Rattle.interp.specs.Threads.{StandsFor}
use Rattle.live_locals.proofs.Both.{itself}
use Rattle.search_threads.specs.Unlimited.{Unlimited.Going}
use Rattle.search_parts.proofs.Walking.{only_stands, came, spent_all, is_at, says_end, says_none, why_wanted, event_wanted, wants_by}
use Rattle.search_parts.proofs.rest.rest.Goals as goal

pub own_turns-turn-requires : goal.own_turns-turn-requires
own_turns-turn-requires c = (Runs c.requires.stands.0 c.requires.stands.1, c.requires.stands.2, tt)

pub returns-then-spent-ge-FUEL-clause-gives_up : goal.returns-then-spent-ge-FUEL-clause-gives_up
returns-then-spent-ge-FUEL-clause-gives_up c _ = λ w b x left of by s.
    let n = c.own_turns-turn.new.self in
    let none : (t : Running) → StandsFor n t → left_of t ≡ 0 = λ t st.
    let spent = c.spent.ensures t st in
    let same = c.own_turns-turn.ensures.stays.fuel in
    let budget = c.requires.fuel in
    let high = c.if-spent-ge-FUEL.true in omega (arith, spent, same, budget, high) in
    spent_all b (program_of c.args.thread.parts.now) (ap program_of by.parts ∙ sym of) x left _ (StandsFor n)
    (only_stands _ (Runs x left) _ (StandsFor n) _ (c.own_turns-turn.ensures.turned (Runs x left) s tt)) none

pub returns-in-Ended-clause-rests : goal.returns-in-Ended-clause-rests
returns-in-Ended-clause-rests c = λ w b x left of by s sound.
    let n = c.own_turns-turn.new.self in
    let some : (t : Running) → StandsFor n t → left_of t ≡ suc (left_of t - 1) = λ t st.
    let spent = c.spent.ensures t st in
    let same = c.own_turns-turn.ensures.stays.fuel in
    let budget = c.requires.fuel in
    let low = c.if-spent-ge-FUEL.false in omega (arith, spent, same, budget, low) in
    let k = came b (program_of c.args.thread.parts.now) (ap program_of by.parts ∙ sym of) x left _ (StandsFor n)
    (only_stands _ (Runs x left) _ (StandsFor n) _ (c.own_turns-turn.ensures.turned (Runs x left) s tt)) some in
    record {
      rested = Going k.state;
      settles = k.settles;
      stands = ap Going (says_end b.program k.state (suc k.left) _ c.in-Ended.outcome c.in-Ended.is k.says);
    }

pub returns-clause-rests : goal.returns-clause-rests
returns-clause-rests c = λ w b x left of by s sound.
    let n = c.own_turns-turn.new.self in
    let some : (t : Running) → StandsFor n t → left_of t ≡ suc (left_of t - 1) = λ t st.
    let spent = c.spent.ensures t st in
    let same = c.own_turns-turn.ensures.stays.fuel in
    let budget = c.requires.fuel in
    let low = c.if-spent-ge-FUEL.false in omega (arith, spent, same, budget, low) in
    let k = came b (program_of c.args.thread.parts.now) (ap program_of by.parts ∙ sym of) x left _ (StandsFor n)
    (only_stands _ (Runs x left) _ (StandsFor n) _ (c.own_turns-turn.ensures.turned (Runs x left) s tt)) some in
    let at = is_at k.state (says_none b.program k.state (suc k.left) _ k.says c.in_default.not-Ended) in
    let st : StandsFor n (Runs (At at.0) (suc k.left)) = subst (λ y. StandsFor n (Runs y (suc k.left))) at.1 k.stands in
    let runs_by : RunsBy w n = record {
      parts = c.own_turns-turn.ensures.kept.parts ∙ by.parts;
      tables = c.own_turns-turn.ensures.tables st.1.0 ∙ by.tables;
    } in
    let kept = c.in_ok-kept.ensures.kept w at.0 (suc k.left) runs_by st in
    record {
      rested = Going k.state;
      settles = k.settles;
      stands = (
        at.0,
        ap Going at.1,
        c.clear_dead.ensures.alike w at.0 sound (at.0, kept, itself at.0),
        record {
          wanted = λ d is. c.event_in.ensures
              ∙ why_wanted b k.state k.left _ c.in_default.not-Ended k.says ∙ ap called (wants_by w b d of is (Going k.state));
          event = subst (λ o. IfSome o IsEvent) (sym c.event_in.ensures)
              (event_wanted _ (c.own_turns-turn.ensures.turned (Runs x left) s tt).wanted);
        },
      );
    }

pub returns-clause-cleared : goal.returns-clause-cleared
returns-clause-cleared c = (c.in_ok-kept.kept, c.clear_dead.ensures.cleared)
