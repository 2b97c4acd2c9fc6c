-- What is seen of a replay by a watch that is a part of another one, where the whole sees what the part sees.
use Rattle.std.proofs.Common.{◌+◌, ℕ, true, List, [], ◌∷◌, Ok, ap}
use Rattle.types.specs.declared.event.Event.{Event}
use Rattle.types.specs.declared.event.Event.TheVariants as events
use Rattle.types.specs.declared.event.Question.TheVariants as questions
use Rattle.types.specs.declared.event.Entry.{Entry}
use Rattle.types.specs.declared.parts.Parts.{Parts}
use Rattle.replay_text.specs.declared.parts.RecordParts.{RecordParts}
use Rattle.interp.specs.declared.thread.Thread.{Thread}
use Rattle.interp.specs.Threads.{meaning_in}
use Rattle.spawn_host.specs.declared.end.EndState.{EndState}
use Rattle.replay.specs.Watching.{SeesReplay}
use Rattle.replay_walk.specs.declared.walk.Walk.{Walk}
use Rattle.replay_walk.specs.Seen.{Sight, SeesBy, SeesLog, IsToldOf, IsShown}

module _ {W V : Type 0} (sees : V → Sight Thread → V → Type 0) (of : W → V) where
  abbrev whole : W → Sight Thread → W → Type 0
  whole old moment new = sees (of old) moment (of new)

  told : (w : Walk Thread) (n : ℕ) (turn : _) (old new : W) → IsToldOf meaning_in whole w n turn old new
      → IsToldOf meaning_in sees w n turn (of old) (of new)
  told w n turn old new t = record { settled = t.settled; settles = t.settles; tells = t.tells }

  shown : (w : Walk Thread) (e : Entry) (old new : W) → IsShown meaning_in whole w e old new
      → IsShown meaning_in sees w e (of old) (of new)
  unfolding told
  shown w e old new s = record {
    between = of s.between;
    told = told w e.thread _ old s.between s.told;
    thread = s.thread;
    at = s.at;
    shows = s.shows;
  }

  -- an entry that is taken
  taken : (event : Event) (limit count : ℕ) (w : Walk Thread) (e : Entry) (old new : W)
      → SeesBy meaning_in whole event limit count w e true old new
      → SeesBy meaning_in sees event limit count w e true (of old) (of new)
  taken (events.Told answer) limit count w e old new s = ap of s
  taken (events.Ask questions.Leave) limit count w e old new s = (s.0, told w e.thread s.0 old new s.1)
  taken (events.Ask (questions.Wait a b c d)) limit count w e old new s = shown w e old new s
  taken (events.Ask (questions.Notify a b)) limit count w e old new s = shown w e old new s
  taken (events.Ask (questions.Spawn a)) limit count w e old new s = shown w e old new s
  taken events.Size limit count w e old new s = shown w e old new s
  taken (events.Grow pages) limit count w e old new s = shown w e old new s
  taken (events.Load a b c) limit count w e old new s = shown w e old new s
  taken (events.Store a b c d) limit count w e old new s = shown w e old new s
  taken (events.Rmw a b c d) limit count w e old new s = shown w e old new s
  taken (events.Cmpxchg a b c d) limit count w e old new s = shown w e old new s

  logged : (near : ℕ → Walk Thread → Type 0) (limit count : ℕ) (log : List Entry) (old new : W)
      → SeesLog meaning_in whole near limit count log old new
      → SeesLog meaning_in sees near limit count log (of old) (of new)
  logged near limit count [] old new same = ap of same
  logged near limit count (e ∷ log) old new s =
      let n = s.1 in (
        of s.0,
        record {
          walk = n.walk;
          stands = n.stands;
          between = of n.between;
          came = n.came;
          entry = taken e.event limit count n.walk e n.between s.0 n.entry;
        },
        logged near limit (count + 1) log s.0 new s.2,
      )

  -- a record that is replayed
  pub replayed : (m : Parts) (r : RecordParts) (end : EndState) (old new : W) → SeesReplay whole m r (Ok end) old new
      → SeesReplay sees m r (Ok end) (of old) (of new)
  replayed m r end old new s =
      let along = s.2.2 in
      (s.0, s.1, (s.2.0, s.2.1, (of along.0, logged _ r.limit 0 r.log old along.0 along.1, along.2)))
