use Rattle.std.proofs.Common.{sym, subst}
use Rattle.schedule.specs.System.{put}
use Rattle.schedule.proofs.Basics.{put-same, put-other}
use Rattle.search_settled.specs.Settled.{MakesTurns}
use Rattle.search_parts.specs.Walkers.{RestsAt, StandsForThread, patience}
use Rattle.search_runs.specs.Called.{system_of, reply_by}
use Rattle.search_parts.specs.Parts.{IsRested}
use Rattle.search_parts.proofs.AtRest.{at_rest}
use Rattle.search_parts.proofs.resting.replied.Goals as goal

pub returns-then-n-m-clause-rests : goal.returns-then-n-m-clause-rests
returns-then-n-m-clause-rests c = λ b z e after.
    let w = c.args.valid.now in
    let n = c.args.event.now.n in
    let taken = (system_of b).takes (z.threads n) (reply_by z.shared n e) in
    let rested = rw c.in-Some.is at c.in_ok-taken.ensures.rests in
    let stands = subst (λ k. StandsForThread w c.args.standing.now (z.threads k)) (sym c.if-n-m.true) after.rested.stands in
    let here = rested b (z.threads n) e after.of stands after.calls in
    let same = subst (λ r. RestsAt w b ((system_of b).takes (z.threads n) r) c.in-Some.taken) after.makes.reply here in
    subst (λ k. RestsAt w b (put z.threads n taken k) c.in-Some.taken) c.if-n-m.true
    (subst (λ v. RestsAt w b v c.in-Some.taken) (sym (put-same z.threads n taken)) same)

pub returns-clause-rests : goal.returns-clause-rests
returns-clause-rests c = λ b z e after.
    let w = c.args.valid.now in
    let n = c.args.event.now.n in
    let taken = (system_of b).takes (z.threads n) (reply_by z.shared n e) in
    let copy : IsRested w b c.in_ok-copy.field-0 (z.threads c.args.m) = record {
      stands = c.in_ok-copy.ensures w (z.threads c.args.m) after.rested.stands;
      rests = after.rested.rests;
    } in
    subst (λ v. RestsAt w b v c.in_ok-copy.field-0) (sym (put-other z.threads n taken c.args.m (λ same. c.if-n-m.false (sym same))))
    (at_rest w b c.in_ok-copy.field-0 (z.threads c.args.m) copy)

pub returns-in_default-clause-gives_up : goal.returns-in_default-clause-gives_up
returns-in_default-clause-gives_up c _ = λ b z e after.
    let w = c.args.valid.now in
    let n = c.args.event.now.n in
    let taken = (system_of b).takes (z.threads n) (reply_by z.shared n e) in
    let stands = subst (λ k. StandsForThread w c.args.standing.now (z.threads k)) (sym c.if-n-m.true) after.rested.stands in
    let here = c.in_ok-taken.ensures.gives_up c.in_default.is b (z.threads n) e after.of stands after.calls in
    let same = subst (λ r. MakesTurns (system_of b) patience ((system_of b).takes (z.threads n) r)) after.makes.reply here in
    subst (λ k. MakesTurns (system_of b) patience (put z.threads n taken k)) c.if-n-m.true
    (subst (λ v. MakesTurns (system_of b) patience v) (sym (put-same z.threads n taken)) same)
