use Rattle.std.proofs.Common.{◌≡◌, ◌+◌, ◌<◌, ◌≤◌, [], ◌∷◌, ◌++◌, length, arith, sym, ap, subst, ◌∙◌}
use Rattle.std.specs.Option.{is_some}
use Rattle.std.proofs.lemmas.Option.{get_or_from_slice_get}
use Rattle.std.proofs.lemmas.Slice.Zip.{AllZip-long}
use Rattle.search_reach.specs.Search.{IsEnding, Ended}
use Rattle.search_reach.specs.Moved.{HasEndedAt, AreFirsts}
use Rattle.search_reach.proofs.Searching.{here}
use Rattle.search_reach.proofs.Meeting.{at-some}
use Rattle.search_reach.proofs.Leading.{firsts-more}
use Rattle.search_reach.proofs.Gathering.{ended-some, ended-none, ended-all, marks-all}
use Rattle.search_reach.proofs.ending.endings.Goals as goal
use Rattle.search_reach.proofs.ending.endings.Goals.{in-Some+in_ok-add_ending, in_default}

pub ending-requires : goal.ending-requires
ending-requires g c =
    let r = c.requires in
    let len = c.count-at-end.ensures.len r.0 r.1 in
    let s = at-some r.0 c.loop-at.at (omega (arith, len)) in
    (r.0, s.0, r.1, s.1, r.2 s.0 (here r.0 c.loop-at.at s.0 s.1))

pub loop-at-preserved : goal.loop-at-preserved
loop-at-preserved g c =
    let k = g.T.Meets.system c.args.system.now in
    let at = c.loop-at.at in
    let pushed : c.push.new.self.items ≡ c.loop-at.ended.items ++ is_some c.in_ok-ending.ending ∷ [] = cc (c.in_ok-push.ensures.items, c.is_some.ensures) in
    elim c.match-ending-2.branch [
      | in-Some+in_ok-add_ending w ↦ record {
        ended = λ ks held sound. (
            let len = c.count-at-end.ensures.len ks held in
            let low : at < length ks = omega (arith, len) in
            let s = at-some ks at low in
            let met = sound s.0 (here ks at s.0 s.1) in
            subst (λ l. Ended k g.T.Ending.PartialEq.eq ks (at + 1) c.match-ending-2.endings.keys l) (sym pushed)
            (ended-some g.T.Ending.PartialEq.eq g.met.T.Ending.Eq.laws.refl k ks at s.0 c.in_ok-ending.ending w.in-Some.ending c.loop-at.endings.keys
            c.match-ending-2.endings.keys c.loop-at.ended.items low (sym (get_or_from_slice_get ks at s.0 s.0 s.1))
            (c.loop-at.invariant.ended ks held sound) met
            (c.in_ok-ending.ensures ks s.0 held s.1 met) w.in-Some.is (ap (λ s. s.keys) w.endings-is ∙ w.in_ok-add_ending.ensures.added)));
        firsts = λ ks held sound. (
            let len = c.count-at-end.ensures.len ks held in
            let s = at-some ks at (omega (arith, len)) in
            let met = sound s.0 (here ks at s.0 s.1) in
            firsts-more k g.T.Ending.PartialEq.eq ks c.loop-at.endings.keys c.match-ending-2.endings.keys c.loop-at.firsts.items
            c.match-ending-2.firsts.items at w.in-Some.ending (c.loop-at.invariant.firsts ks held sound)
            (record { state = s.0; at = s.1; ended = subst (IsEnding k s.0) w.in-Some.is (c.in_ok-ending.ensures ks s.0 held s.1 met) })
            (ap (λ s. s.keys) w.endings-is ∙ w.in_ok-add_ending.ensures.added)
            (ap (λ v. v.items) w.firsts-is ∙ w.in_ok-add_ending.ensures.firsts));
      }
      | in_default w ↦ record {
        ended = λ ks held sound. (
            let len = c.count-at-end.ensures.len ks held in
            let low : at < length ks = omega (arith, len) in
            let s = at-some ks at low in
            let met = sound s.0 (here ks at s.0 s.1) in
            subst (λ l. Ended k g.T.Ending.PartialEq.eq ks (at + 1) c.match-ending-2.endings.keys l) (sym pushed)
            (ended-none g.T.Ending.PartialEq.eq g.met.T.Ending.Eq.laws.refl k ks at s.0 c.in_ok-ending.ending c.loop-at.endings.keys
            c.match-ending-2.endings.keys c.loop-at.ended.items low (sym (get_or_from_slice_get ks at s.0 s.0 s.1)) (c.loop-at.invariant.ended ks held sound)
            (c.in_ok-ending.ensures ks s.0 held s.1 met) w.in_default.is (ap (λ s. s.keys) w.endings-is)));
        firsts = λ ks held sound.
            subst (λ l. AreFirsts k ks l c.match-ending-2.endings.keys) (sym (ap (λ v. v.items) w.firsts-is))
            (subst (AreFirsts k ks c.loop-at.firsts.items) (sym (ap (λ s. s.keys) w.endings-is)) (c.loop-at.invariant.firsts ks held sound));
      }
    ]

pub returns-clause-gathered : goal.returns-clause-gathered
returns-clause-gathered g c ks held sound =
    let k = g.T.Meets.system c.args.system.now in
    let so = c.loop-at.invariant.ended ks held sound in
    let len = c.count-at-end.ensures.len ks held in
    let past : length ks ≤ c.loop-at.at = omega (arith, len) in
    record {
      all = ended-all g.T.Ending.PartialEq.eq g.met.T.Ending.Eq.laws.refl k ks c.loop-at.at c.loop-at.endings.keys c.loop-at.ended.items so past;
      sound = so.sound;
      of = so.of;
      marks_are = marks-all g.T.Ending.PartialEq.eq g.met.T.Ending.Eq.laws.refl k ks c.loop-at.at c.loop-at.endings.keys c.loop-at.ended.items so past;
    }

pub returns-clause-len : goal.returns-clause-len
returns-clause-len g c =
    let k = g.T.Meets.system c.args.system.now in
    let r = c.requires in
    let long = AllZip-long (HasEndedAt k r.0) c.loop-at.firsts.items c.loop-at.endings.keys (c.loop-at.invariant.firsts r.0 r.1 r.2) in
    omega (arith, long, c.loop-at.firsts.ok)
