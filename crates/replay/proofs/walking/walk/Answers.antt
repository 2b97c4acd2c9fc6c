use Rattle.std.proofs.Common.{◌≡◌, ◌≤◌, List, length, refl, subst, ap, arith}
use Rattle.types.specs.declared.event.Entry.{Entry}
use Rattle.types.specs.declared.limits.TheConstants.{MOST_THREADS}
use Rattle.replay_text.specs.declared.parts.RecordParts.{RecordParts}
use Rattle.replay_text.specs.declared.version.Version.{Version}
use Rattle.replay_text.specs.declared.version.Version.TheVariants as versions
use Rattle.replay_text.specs.Versions.{header_count}
use Rattle.replay_text.specs.Text.{IsRecord}
use Rattle.replay_text.proofs.Whole.{counted}
use Rattle.replay_walk.specs.Walked as walked
use Rattle.replay_walk.specs.Seen.{SeesUpTo}
use Rattle.replay.proofs.Deciding.{wider, first_misfit, within_log, none_left, is_recorded, is_wrong, within_ends}
use Rattle.replay.proofs.Seeing.{seen_all}
use Rattle.replay.proofs.walking.walk.Goals as goal

few : (r : RecordParts) → IsRecord r → (1 ≤ r.threads) × (r.threads ≤ MOST_THREADS)
few r kept = (counted r.version r.module_len r.threads r.max_pages kept.numbers.scale).0

small : (v : Version) → header_count v ≤ 8
small versions.One = omega arith
small versions.Two = omega arith

pub new-walk-requires-clause-some : goal.new-walk-requires-clause-some
new-walk-requires-clause-some g c = (few c.args.parts.now c.requires.ranges).0

pub new-walk-requires-clause-few : goal.new-walk-requires-clause-few
new-walk-requires-clause-few g c = (few c.args.parts.now c.requires.ranges).1

pub along_watched-requires-clause-entries : goal.along_watched-requires-clause-entries
along_watched-requires-clause-entries g c =
    rw (c.as_slice-log.ensures) (wider c.args.parts.now.threads (few c.args.parts.now c.requires.ranges).1 c.args.parts.now.log c.requires.ranges.log)

pub along_watched-requires-clause-new : goal.along_watched-requires-clause-new
along_watched-requires-clause-new g c = let ready = c.requires.ready.1 in
    (c.requires.ready.0, c.new-walk.ensures c.requires.ready.0 ready.ready ready.most, ready.limit)

pub line_at-requires : goal.line_at-requires
line_at-requires g c =
    let run = c.requires.ready.0 in
    let ready = c.requires.ready.1 in
    let misfit = c.in-Some.ensures.misfit c.in-Some.at refl run (c.new-walk.ensures run ready.ready ready.most) ready.limit in
    let below = within_log run c.as_slice-log.result.now c.in-Some.at misfit in
    let same : length c.as_slice-log.result.now ≡ length c.args.parts.now.log = ap length c.as_slice-log.ensures in
    let numbers = c.requires.ranges.numbers in
    omega (arith, below, same, numbers.log, numbers.limit, few c.args.parts.now c.requires.ranges, c.header_lines-first.ensures, small c.args.parts.now.version)

pub returns-in-Some-clause-fault : goal.returns-in-Some-clause-fault
returns-in-Some-clause-fault g c = λ run ready.
    let misfit = c.in-Some.ensures.misfit c.in-Some.at refl run (c.new-walk.ensures run ready.ready ready.most) ready.limit in
    let line = c.line_at.ensures in (
      c.in-Some.at,
      omega (arith, line, c.header_lines-first.ensures),
      first_misfit run c.args.parts.now c.in-Some.at ready.limit ready.most
          (subst (λ (l : List Entry). walked.IsFirstMisfit run l c.in-Some.at) c.as_slice-log.ensures misfit),
    )

pub line_at-requires-in-Some-first_wrong_end : goal.line_at-requires-in-Some-first_wrong_end
line_at-requires-in-Some-first_wrong_end g c =
    let run = c.requires.ready.0 in
    let ready = c.requires.ready.1 in
    let w = c.along_watched.ensures.whole (none_left c.along_watched.result c.in_default.not-Some) run (c.new-walk.ensures run ready.ready ready.most)
    ready.limit in
    let below = within_ends run c.args.parts.now ready.limit ready.most ready.budget c.as_slice-log.ensures c.deref.ensures.value w
    c.pages-held.ensures c.first_wrong_end.result c.first_wrong_end.ensures
    c.in-Some-first_wrong_end.at c.in-Some-first_wrong_end.is in
    let same : length c.as_slice-log.result.now ≡ length c.args.parts.now.log = ap length c.as_slice-log.ensures in
    let numbers = c.requires.ranges.numbers in
    omega (
      arith,
      below,
      same,
      numbers.log,
      numbers.limit,
      numbers.ends,
      few c.args.parts.now c.requires.ranges,
      c.header_lines-first.ensures,
      small c.args.parts.now.version,
    )

pub returns-in-Some-first_wrong_end-clause-fault : goal.returns-in-Some-first_wrong_end-clause-fault
returns-in-Some-first_wrong_end-clause-fault g c = λ run ready.
    let w = c.along_watched.ensures.whole (none_left c.along_watched.result c.in_default.not-Some) run (c.new-walk.ensures run ready.ready ready.most)
    ready.limit in
    let wrong = is_wrong run c.args.parts.now ready.limit ready.most ready.budget c.as_slice-log.ensures c.deref.ensures.value w
    c.pages-held.ensures c.first_wrong_end.result c.first_wrong_end.ensures
    c.in-Some-first_wrong_end.at c.in-Some-first_wrong_end.is in
    let same : length c.as_slice-log.result.now ≡ length c.args.parts.now.log = ap length c.as_slice-log.ensures in
    let line = c.line_at-in-Some-first_wrong_end.ensures in
    (c.in-Some-first_wrong_end.at, omega (arith, line, same, c.header_lines-first.ensures), wrong)

pub returns-in-None-clause-run : goal.returns-in-None-clause-run
returns-in-None-clause-run g c = λ run ready.
    let w = c.along_watched.ensures.whole (none_left c.along_watched.result c.in_default.not-Some) run (c.new-walk.ensures run ready.ready ready.most)
    ready.limit in
    is_recorded run c.args.parts.now ready.limit ready.most ready.budget c.as_slice-log.ensures c.deref.ensures.value w
    c.pages-held.ensures c.first_wrong_end.result c.first_wrong_end.ensures c.in-None.is

pub returns-in-Some-clause-seen : goal.returns-in-Some-clause-seen
returns-in-Some-clause-seen g c =
    let line = c.line_at.ensures in (
      c.new-walk.result,
      λ run ready. c.new-walk.ensures run ready.ready ready.most,
      (
        c.in-Some.at,
        omega (arith, line, c.header_lines-first.ensures),
        subst (λ (l : List Entry). SeesUpTo g.T.TakesTurns.meaning g.W.Watch.sees c.new-walk.result c.args.parts.now.limit l c.in-Some.at
            c.args.watch.now c.along_watched.new.watch) c.as_slice-log.ensures (c.in-Some.ensures.stopped c.in-Some.at refl),
      ),
    )

pub returns-in-Some-first_wrong_end-clause-seen : goal.returns-in-Some-first_wrong_end-clause-seen
returns-in-Some-first_wrong_end-clause-seen g c =
    let none = none_left c.along_watched.result c.in_default.not-Some in (
      c.new-walk.result,
      λ run ready. c.new-walk.ensures run ready.ready ready.most,
      seen_all g.T.TakesTurns.meaning g.W.Watch.sees c.args.parts.now c.new-walk.result c.along_watched.new.self
          c.as_slice-log.result.now _ _ c.as_slice-log.ensures (c.along_watched.ensures.whole none) (c.along_watched.ensures.seen none),
    )

pub returns-in-None-clause-seen : goal.returns-in-None-clause-seen
returns-in-None-clause-seen g c =
    let none = none_left c.along_watched.result c.in_default.not-Some in (
      c.new-walk.result,
      λ run ready. c.new-walk.ensures run ready.ready ready.most,
      seen_all g.T.TakesTurns.meaning g.W.Watch.sees c.args.parts.now c.new-walk.result c.along_watched.new.self
          c.as_slice-log.result.now _ _ c.as_slice-log.ensures (c.along_watched.ensures.whole none) (c.along_watched.ensures.seen none),
    )
