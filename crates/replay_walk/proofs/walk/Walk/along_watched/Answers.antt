use Rattle.std.proofs.Common.{◌≡◌, ℕ, length, refl, subst, take, arith}
use Rattle.std.proofs.lemmas.List.{length-take-le}
use Rattle.replay_walk.specs.Walked.{IsFirstMisfit, standing_in}
use Rattle.replay_walk.proofs.Apart.{isnt_none, isnt_some, same_some}
use Rattle.replay_walk.proofs.Along.{goes_in, stops_in, ends_in}
use Rattle.replay_walk.proofs.Seen.{goes_on_seen, stops_seen, ends_seen}
use Rattle.replay_walk.proofs.walk.Walk.along_watched.Goals as goal

pub loop-at-init : goal.loop-at-init
loop-at-init g c = record { walked = λ r walked limit. walked; seen = refl }

pub take-requires-clause-standing : goal.take-requires-clause-standing
take-requires-clause-standing g c =
    let new = c.requires.new in
    let w = c.loop-at.invariant.walked new.0 new.1 new.2 in
    (standing_in new.0 c.loop-at.self.memory w.state w.places, w.standing, refl, w.count)

pub returns-then-not-take-clause-misfit : goal.returns-then-not-take-clause-misfit
returns-then-not-take-clause-misfit g c = λ k is r walked limit.
    let w = c.loop-at.invariant.walked r walked limit in
    let here : c.loop-at.at ≡ k = same_some is in
    subst (λ (j : ℕ). IsFirstMisfit r c.args.log.now j) here
    (stops_in g.T.TakesTurns.meaning r c.args.log.now c.loop-at.self.threads.items c.loop-at.self.memory
    c.loop-at.self.stage.queue c.loop-at.self.stage.started c.loop-at.self.stage.ends c.loop-at.at
    c.args.limit limit w _ c.loop-at-test.true
    (c.take.ensures.refused c.if-not-take.true (standing_in r c.loop-at.self.memory w.state w.places) w.standing refl))

pub loop-at-preserved : goal.loop-at-preserved
loop-at-preserved g c = record {
  seen = goes_on_seen g.T.TakesTurns.meaning g.W.Watch.sees c.args.self.now c.args.limit c.args.log.now c.loop-at.at _ c.take.result
      c.loop-at.self c.args.watch.now c.loop-at.watch c.came.new.self c.take.new.watch c.loop-at-test.true c.loop-at.invariant.seen
      c.loop-at.invariant.walked c.came.ensures c.take.ensures.seen c.if-not-take.false;
  walked = λ r walked limit.
      let w = c.loop-at.invariant.walked r walked limit in
      goes_in g.T.TakesTurns.meaning r c.args.log.now c.loop-at.self.threads.items c.loop-at.self.memory
      c.loop-at.self.stage.queue c.loop-at.self.stage.started c.loop-at.self.stage.ends c.loop-at.at
      c.args.limit limit w _ c.loop-at-test.true c.take.new.self.threads.items c.take.new.self.memory
      c.take.new.self.stage.queue c.take.new.self.stage.started c.take.new.self.stage.ends
      c.take.ensures.count
      (c.take.ensures.taken c.if-not-take.false (standing_in r c.loop-at.self.memory w.state w.places) w.standing refl);
}

pub returns-clause-whole : goal.returns-clause-whole
returns-clause-whole g c = λ none r walked limit.
    let w = c.loop-at.invariant.walked r walked limit in
    ends_in g.T.TakesTurns.meaning r c.args.log.now c.loop-at.self.threads.items c.loop-at.self.memory
    c.loop-at.self.stage.queue c.loop-at.self.stage.started c.loop-at.self.stage.ends c.loop-at.at
    c.args.limit limit w c.loop-at.auto.at-end c.loop-at-test.false

pub came-requires : goal.came-requires
came-requires g c =
    let new = c.requires.new in
    let w = c.loop-at.invariant.walked new.0 new.1 new.2 in
    (new.0, take c.loop-at.at c.args.log.now, length-take-le c.loop-at.at c.args.log.now (omega (arith, c.loop-at-test.true)), w)

pub take-requires-clause-entry : goal.take-requires-clause-entry
take-requires-clause-entry g c = c.requires.entries c.loop-at.at _ c.loop-at-test.true

pub returns-then-not-take-clause-whole : goal.returns-then-not-take-clause-whole
returns-then-not-take-clause-whole g c = λ whole. isnt_none whole

pub returns-clause-misfit : goal.returns-clause-misfit
returns-clause-misfit g c = λ k misfit. isnt_some misfit

pub came-requires-2 : goal.came-requires-2
came-requires-2 g c =
    let new = c.requires.new in
    let w = c.loop-at.invariant.walked new.0 new.1 new.2 in
    let inside = c.loop-at.auto.at-end in
    let none = c.loop-at-test.false in
    let taken = length-take-le c.loop-at.at c.args.log.now (omega arith) in
    let long : length (take c.loop-at.at c.args.log.now) ≡ length c.args.log.now = omega arith in
    (new.0, take c.loop-at.at c.args.log.now, long, w)

pub returns-then-not-take-clause-stopped : goal.returns-then-not-take-clause-stopped
returns-then-not-take-clause-stopped g c = λ k is.
    stops_seen g.T.TakesTurns.meaning g.W.Watch.sees c.args.self.now c.args.limit c.args.log.now c.loop-at.at _ c.take.result
    c.loop-at.self c.args.watch.now c.loop-at.watch c.came.new.self c.take.new.watch c.loop-at-test.true c.loop-at.invariant.seen
    c.loop-at.invariant.walked c.came.ensures c.take.ensures.seen c.if-not-take.true k (same_some is)

pub returns-then-not-take-clause-seen : goal.returns-then-not-take-clause-seen
returns-then-not-take-clause-seen g c = λ none. isnt_none none

pub returns-clause-seen : goal.returns-clause-seen
returns-clause-seen g c = λ none.
    ends_seen g.T.TakesTurns.meaning g.W.Watch.sees c.args.self.now c.args.limit c.args.log.now c.loop-at.at c.loop-at.self
    c.args.watch.now c.loop-at.watch c.came-2.new.self c.loop-at.auto.at-end c.loop-at-test.false c.loop-at.invariant.seen c.came-2.ensures

pub returns-clause-stopped : goal.returns-clause-stopped
returns-clause-stopped g c = λ k misfit. isnt_some misfit
