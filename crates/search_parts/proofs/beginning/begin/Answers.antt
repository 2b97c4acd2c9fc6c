use Rattle.interp_machine.specs.State.{At}
use Rattle.interp.specs.Starts.{start_of}
use Rattle.search_threads.specs.Unlimited.{Unlimited.Going}
use Rattle.search_parts.specs.Walkers.{patience}
use Rattle.search_parts.proofs.Walking.{fewer}
use Rattle.search_parts.proofs.beginning.begin.Goals as goal

pub rest-requires : goal.rest-requires
rest-requires c =
    let r = c.requires.begins in
    record {
      fuel = c.in_ok-thread.ensures.budget;
      stands = (At (start_of c.args.valid.now.parts r.0 r.1 c.args.args.now), 1000001, c.in_ok-thread.ensures.stands r.0 r.1 r.2);
    }

pub returns-clause-rests : goal.returns-clause-rests
returns-clause-rests c = λ b t body of is.
    let r = c.in_ok-thread.ensures in
    let rested = rw c.in-Some.is at c.in_ok-standing.ensures.rests in
    rested c.args.valid.now b (At (start_of c.args.valid.now.parts t body c.args.args.now)) 1000001 of r.runs_by (r.stands t body is) c.requires.sound

pub returns-in_default-clause-gives_up : goal.returns-in_default-clause-gives_up
unfolding patience
returns-in_default-clause-gives_up c _ = λ b t body of is.
    let r = c.in_ok-thread.ensures in
    let x = At (start_of c.args.valid.now.parts t body c.args.args.now) in
    fewer b 1000000 (Going x) (c.in_ok-standing.ensures.gives_up c.in_default.is c.args.valid.now b x 1000001 of r.runs_by (r.stands t body is))

pub returns-clause-gives_up : goal.returns-clause-gives_up
returns-clause-gives_up c none = absurd (cc none)
