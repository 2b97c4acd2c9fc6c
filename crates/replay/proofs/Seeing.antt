-- From what a watch sees of a walk to what it sees of a replay.
use Rattle.std.proofs.Common.{◌≡◌, List, Result, Ok, Err, refl, inl, inr, subst}
use Rattle.types.specs.declared.event.Entry.{Entry}
use Rattle.types.specs.declared.parts.Parts.{Parts}
use Rattle.shared_memory.specs.Memory.{Memory}
use Rattle.interp_trait.specs.Turns.{Meaning}
use Rattle.interp.specs.declared.thread.Thread.{Thread}
use Rattle.interp.specs.Threads.{meaning_in}
use Rattle.spawn_host.specs.declared.end.EndState.{EndState}
use Rattle.replay_text.specs.declared.parts.RecordParts.{RecordParts}
use Rattle.replay_walk.specs.declared.walk.Walk.{Walk}
use Rattle.replay_walk.specs.Seen.{Sight, SeesWhole}
use Rattle.replay_walk.specs.Walked.{ComesAlong}
use Rattle.replay.specs.Runs.{HasLength, HasPages, OfScale}
use Rattle.replay.specs.Threads.{OfCall}
use Rattle.replay.specs.Watching.{SeesAll, SeesWalk, SeesRun, SeesRefused, SeesReplay}
use Rattle.replay.specs.declared.fault.ReplayFault.{ReplayFault}
use Rattle.replay.specs.declared.fault.ReplayFault.TheVariants.{Line, EndLine, NoMemory}
use Rattle.replay.proofs.Ready.{CanBegin}

pub seen_all : {T W : Type 0} (meaning : T → Meaning) (sees : W → Sight T → W → Type 0) (r : RecordParts) (first last : Walk T)
    (log : List Entry) (old new : W) → log ≡ r.log → ComesAlong meaning first r.limit log last
    → SeesWhole meaning sees first r.limit log last old new → SeesAll meaning sees r first old new
seen_all meaning sees r first last log old new same comes whole = (
  last,
  subst (λ (l : List Entry). ComesAlong meaning first r.limit l last) same comes,
  subst (λ (l : List Entry). SeesWhole meaning sees first r.limit l last old new) same whole,
)

module _ {W : Type 0} (sees : W → Sight Thread → W → Type 0) (m : Parts) (r : RecordParts) where
  pub unseen_scale : (fault : ReplayFault) → OfScale m r fault → (w : W) → SeesRefused sees m r fault w w
  unseen_scale (Line line) h w = inl (inl h, refl)
  unseen_scale (EndLine line) h w = absurd h
  unseen_scale NoMemory h w = absurd h

  pub unseen_call : HasLength m r → HasPages m r → (fault : ReplayFault) → OfCall m r fault → (w : W) → SeesRefused sees m r fault w w
  unseen_call len within (Line line) (inl h) w = inl (inr (inl (h.0, len, within, h.1)), refl)
  unseen_call len within (Line line) (inr h) w = inl (inr (inr (h.0, len, within, h.1)), refl)
  unseen_call len within (EndLine line) h w = absurd h
  unseen_call len within NoMemory h w = refl

  module _ (threads : List Thread) (memory : Memory) (b : CanBegin meaning_in m r threads memory) where
    pub seen_run : {M : Type 0} → (result : Result M ReplayFault) (old new : W) → SeesWalk meaning_in sees r threads memory result old new
        → SeesRun sees m r result old new
    seen_run result old new seen = (
      seen.0,
      record {
        run = b.run;
        beginning = b.beginning;
        same = b.same;
        limit = b.ready.limit;
        came = seen.1 b.run b.ready;
      },
      seen.2,
    )

    pub seen_fault : (fault : ReplayFault) (old new : W) → SeesWalk meaning_in sees {M = Memory} r threads memory (Err fault) old new
        → SeesRefused sees m r fault old new
    seen_fault (Line line) old new seen = inr (seen_run {M = Memory} (Err (Line line)) old new seen)
    seen_fault (EndLine line) old new seen = seen_run {M = Memory} (Err (EndLine line)) old new seen
    seen_fault NoMemory old new seen = absurd seen.2

    pub seen_end : (last : Memory) (end : EndState) (old new : W) → SeesWalk meaning_in sees r threads memory (Ok last) old new
        → SeesReplay sees m r (Ok end) old new
    seen_end last end old new seen = seen_run (Ok last) old new seen
