use Rattle.std.proofs.Common.{ℕ, length, inl, ap, refl, sym, subst, ◌∙◌}
use Rattle.std.specs.List.{AllZip}
use Rattle.std.proofs.lemmas.Slice.Zip.{AllZip-long}
use Rattle.search_reach.specs.Search.{IsMarkedSo, IsAll, IsSound, HasAllEnds, AreEnds, CanGetStuck}
use Rattle.search_reach.specs.Found.{IsFound}
use Rattle.search_reach.specs.Moved.{ArePathsTo}
use Rattle.search_reach.specs.Ways.{AreNumbered}
use Rattle.search_reach.proofs.Leading.{ways-are}
use Rattle.search_reach.proofs.Gathering.{endings-of_all}
use Rattle.search_reach.proofs.Living.{moves-within, live, found-after, live-after, leads-endless, leads-round}
use Rattle.search_reach.proofs.Living.{numbered-before, all-back, sought-back, sought-forth}
use Rattle.search_reach.proofs.Leveling.{gone-within}
use Rattle.search_reach.proofs.Passing.{seeks-in}
use Rattle.search_reach.specs.Told.{Obeys}
use Rattle.search_reach.proofs.ending.conclude.Goals as goal

pub endings-requires : goal.endings-requires
endings-requires g c = let r = c.requires in (r.states, r.held, r.found.sound)

pub judged-requires-clause-within : goal.judged-requires-clause-within
judged-requires-clause-within g c v =
    let m = c.args.system.now in
    let r = c.requires in
    moves-within (g.T.Meets.system m) (g.T.Meets.equal m) r.states c.args.reached.moves.items c.count-states.result
    (c.count-states.ensures.len r.states r.held) (r.whole v)

pub judged-requires-clause-marks : goal.judged-requires-clause-marks
judged-requires-clause-marks g c =
    let k = g.T.Meets.system c.args.system.now in
    let r = c.requires in
    let gathered = c.in_ok-endings.ensures.gathered r.states r.held r.found.sound in
    let long = AllZip-long (IsMarkedSo k) _ _ gathered.marks_are in
    ap (λ l. length l) c.as_slice-2.ensures.value ∙ (long ∙ sym (c.count-states.ensures.len r.states r.held))

pub returns-clause-found : goal.returns-clause-found
returns-clause-found g c =
    let k = g.T.Meets.system c.args.system.now in
    let r = c.requires in
    let gathered = c.in_ok-endings.ensures.gathered r.states r.held r.found.sound in
    found-after _ _ _ _ _ _ _ c.in_ok-verdict.ensures.judged
    (record { complete = IsAll k; sound = IsSound k; lost = CanGetStuck k })
    (record { complete = HasAllEnds k g.T.Ending.PartialEq.eq; sound = AreEnds k; lost = CanGetStuck k })
    c.args.plan.now.most c.count-states.result r.states c.in_ok-endings.field-0.endings.keys
    (subst (λ (n : ℕ). IsFound (record { complete = IsAll k; sound = IsSound k; lost = CanGetStuck k })
    c.args.plan.now.most (g.F.Follows.wish c.args.follower.now)
    c.args.reached.verdict n r.states) (sym (c.count-states.ensures.len r.states r.held)) r.found)
    (λ all. endings-of_all k g.T.Ending.PartialEq.eq r.states r.states c.in_ok-endings.field-0.endings.keys refl all gathered.all)
    gathered.sound (λ lost. lost)

pub returns-clause-count : goal.returns-clause-count
returns-clause-count g c =
    let r = c.requires in (
      r.states,
      record {
        len = sym (c.count-states.ensures.len r.states r.held);
        distinct = c.count-states.ensures.distinct r.states r.held;
        sound = r.found.sound;
      },
    )

pub returns-clause-live : goal.returns-clause-live
returns-clause-live g c =
    let m = c.args.system.now in
    let k = g.T.Meets.system m in
    let r = c.requires in
    let gathered = c.in_ok-endings.ensures.gathered r.states r.held r.found.sound in
    live-after k (g.T.Meets.equal m) c.count-states.result _ _ _ _ _ _ _ c.in_ok-verdict.ensures.judged
    (λ v l said. live k (g.T.Meets.equal m) r.states (record { states = c.count-states.result; moves = c.args.reached.moves })
    (g.met.T.Meets.alike m) (r.whole v) c.as_slice-2.result.now (c.count-states.ensures.len r.states r.held)
    (c.count-states.ensures.distinct r.states r.held)
    (subst (λ l. AllZip (IsMarkedSo k) r.states l) (sym c.as_slice-2.ensures.value) gathered.marks_are) (r.moved (inl v)) l said)

pub returns-clause-obeys : goal.returns-clause-obeys
returns-clause-obeys g c before so =
    let r = c.requires in
    let f = c.args.follower.now in
    c.in_ok-verdict.ensures.obeys before
    (subst (λ (n : ℕ). Obeys before (g.F.Follows.wish f) (g.F.Follows.told_at f) c.args.reached.verdict n)
    (sym (c.count-states.ensures.len r.states r.held)) (so r.states r.held))

pub returns-clause-seeks : goal.returns-clause-seeks
returns-clause-seeks g c =
    let k = g.T.Meets.system c.args.system.now in
    let r = c.requires in
    let gathered = c.in_ok-endings.ensures.gathered r.states r.held r.found.sound in
    seeks-in k (g.Q.Seeks.sought c.args.plan.now.sought) g.T.Ending.PartialEq.eq c.args.reached.verdict c.in_ok-verdict.verdict r.states
    c.in_ok-endings.field-0.endings.keys r.found.sound r.seeks gathered.all gathered.of
    (sought-back _ _ _ _ _ _ _ c.in_ok-verdict.ensures.judged) (sought-forth _ _ _ _ _ _ _ c.in_ok-verdict.ensures.judged)

pub returns-clause-levels : goal.returns-clause-levels
returns-clause-levels g c =
    let k = g.T.Meets.system c.args.system.now in
    let r = c.requires in
    let gathered = c.in_ok-endings.ensures.gathered r.states r.held r.found.sound in
    gone-within k g.T.Ending.PartialEq.eq r.states c.in_ok-endings.field-0.endings.keys c.args.reached.levels r.gone_through gathered.all

pub returns-clause-ways : goal.returns-clause-ways
returns-clause-ways g c =
    let m = c.args.system.now in
    let k = g.T.Meets.system m in
    let eq = g.T.Meets.equal m in
    let r = c.requires in
    let len = c.count-states.ensures.len r.states r.held in
    let moves = c.args.reached.moves.items in
    record {
      endings = λ few. ways-are k eq r.states moves
          (r.moved (numbered-before _ _ _ _ _ _ _ c.in_ok-verdict.ensures.judged (length r.states)
          (subst (λ (n : ℕ). AreNumbered c.in_ok-verdict.verdict n) len few)))
          c.in_ok-paths.paths.items c.in_ok-endings.field-0.firsts.items c.in_ok-endings.field-0.endings.keys
          (subst (λ (n : ℕ). ArePathsTo moves n c.in_ok-paths.paths.items c.in_ok-endings.field-0.firsts.items) len
          (subst (ArePathsTo moves c.count-states.result c.in_ok-paths.paths.items) c.as_slice.ensures.value c.in_ok-paths.ensures.paths))
          (c.in_ok-endings.ensures.firsts r.states r.held r.found.sound);
      endless = leads-endless k eq c.count-states.result c.in_ok-verdict.verdict c.in_ok-verdict.liveness (returns-clause-live g c);
      round = leads-round k eq c.count-states.result c.in_ok-verdict.verdict c.in_ok-verdict.liveness (returns-clause-live g c);
    }

pub returns-clause-all : goal.returns-clause-all
returns-clause-all g c = all-back _ _ _ _ _ _ _ c.in_ok-verdict.ensures.judged
