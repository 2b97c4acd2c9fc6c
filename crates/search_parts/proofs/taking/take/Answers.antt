use Rattle.std.proofs.Common.{◌≡◌, ◌∙◌, subst, refl}
use Rattle.schedule.specs.System.{Want.Calls}
use Rattle.schedule.specs.Machine.{Thread.Runs}
use Rattle.interp_machine.specs.State.{At}
use Rattle.interp_trait.specs.declared.turn.Given.TheVariants as given
use Rattle.interp_trait.specs.Turns.{wants_of}
use Rattle.search_threads.specs.Unlimited.{Unlimited.Going}
use Rattle.live_kept.proofs.Walking.{walkers}
use Rattle.search_runs.specs.Called.{system_of}
use Rattle.search_parts.specs.Walkers.{StandsForThread, MayBeGiven}
use Rattle.search_parts.proofs.Walking.{same_wants}
use Rattle.search_parts.proofs.Alike.{kept_alike, rests_alike, runs_alike}
use Rattle.search_parts.proofs.Giving.{no_taker}
use Rattle.search_parts.proofs.taking.take.Goals as goal

pub after_given-requires-clause-given : goal.after_given-requires-clause-given
after_given-requires-clause-given c =
    let w = c.args.valid.now in
    let r = c.requires.wants in
    let is = subst (λ s. StandsForThread w s r.1) c.in-Going.is r.3 in
    let both = walkers r.0 (Going (At is.2.0)) r.1 (kept_alike w c.in-Going.kept _ r.1 is) in
    let wanted = same_wants r.0 (At is.2.0) 1000000 ∙ (both.wants ∙ r.5) in (
      is.2.0,
      record {
        kept = is.2.1;
        given = (refl, r.4, subst (λ p. wants_of p (Runs (At is.2.0) 1000001) ≡ Calls r.4) r.2 wanted);
        something = c.requires.made;
      },
    )

pub returns-in-Some-clause-rests : goal.returns-in-Some-clause-rests
returns-in-Some-clause-rests c = λ b v e of stands wants.
    let w = c.args.valid.now in
    let is = subst (λ s. StandsForThread w s v) c.in-Going.is stands in
    let both = walkers b (Going (At is.2.0)) v (kept_alike w c.in-Going.kept _ v is) in
    let wanted = same_wants b (At is.2.0) 1000000 ∙ (both.wants ∙ wants) in
    let may : MayBeGiven w c.in-Going.kept 1000001 (given.Reply c.args.reply) is.2.0 = record {
      kept = is.2.1;
      given = (refl, e, subst (λ p. wants_of p (Runs (At is.2.0) 1000001) ≡ Calls e) of wanted);
      something = c.requires.made;
    } in
    let rested = rw c.in-Some.is at c.in_ok-after-in-Going.ensures.rests in
    rests_alike w b ((system_of b).takes (Going (At is.2.0)) c.args.reply) ((system_of b).takes v c.args.reply) c.in-Some.after
    (both.takes c.args.reply) (rested b is.2.0 of may)

pub returns-in_default-2-clause-gives_up : goal.returns-in_default-2-clause-gives_up
returns-in_default-2-clause-gives_up c _ = λ b v e of stands wants.
    let w = c.args.valid.now in
    let is = subst (λ s. StandsForThread w s v) c.in-Going.is stands in
    let both = walkers b (Going (At is.2.0)) v (kept_alike w c.in-Going.kept _ v is) in
    let wanted = same_wants b (At is.2.0) 1000000 ∙ (both.wants ∙ wants) in
    let may : MayBeGiven w c.in-Going.kept 1000001 (given.Reply c.args.reply) is.2.0 = record {
      kept = is.2.1;
      given = (refl, e, subst (λ p. wants_of p (Runs (At is.2.0) 1000001) ≡ Calls e) of wanted);
      something = c.requires.made;
    } in
    runs_alike b ((system_of b).takes (Going (At is.2.0)) c.args.reply) ((system_of b).takes v c.args.reply) (both.takes c.args.reply)
    (c.in_ok-after-in-Going.ensures.gives_up c.in_default-2.is b is.2.0 of may)

pub returns-in_default : goal.returns-in_default
returns-in_default c = record {
  rests = tt;
  gives_up = λ none b v e of stands wants.
      absurd (no_taker c.args.valid.now b c.args.standing.now v e stands wants c.in_default.not-Going c.in_default.not-Ended);
}

pub returns-in-Some-clause-gives_up : goal.returns-in-Some-clause-gives_up
returns-in-Some-clause-gives_up c none = absurd (cc none)

pub returns-in-Ended-clause-gives_up : goal.returns-in-Ended-clause-gives_up
returns-in-Ended-clause-gives_up c none = absurd (cc none)
