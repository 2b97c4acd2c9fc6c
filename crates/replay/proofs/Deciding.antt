-- What a walk and the comparison behind it say of a record.
use Rattle.std.proofs.Common.{◌≡◌, ℕ, ◌<◌, ◌≤◌, List, length, Option, Some, None, refl, sym, ap, subst, false, arith}
use Rattle.std.specs.List.{All}
use Rattle.std.proofs.lemmas.List.{length-map}
use Rattle.types.specs.declared.limits.TheConstants.{MOST_THREADS}
use Rattle.replay_text.specs.Conditions.{IsEntry}
use Rattle.types.specs.declared.event.Entry as entries
use Rattle.types.specs.declared.outcome.Outcome.{Outcome}
use Rattle.shared_memory.specs.Memory.{Memory, pages}
use Rattle.shared_memory.specs.WaitQueue.{WaitQueue}
use Rattle.schedule_threads.specs.Shared.{Shared, try_rules}
use Rattle.schedule_runs.specs.Runs.{system_of, state_for, first_places, as_acts, acted}
use Rattle.interp_trait.specs.Turns.{Meaning}
use Rattle.replay_text.specs.declared.parts.RecordParts.{RecordParts}
use Rattle.replay_rules.specs.Recorded.{IsRecordedRun, IsFirstMisfit, IsFirstWrongEnd}
use Rattle.replay_rules.specs.Walk.{Walks}
use Rattle.replay_rules.specs.Logs as logs
use Rattle.replay_walk.specs.Walked.{Run, start, standing_in, HasWalked}
use Rattle.replay_walk.specs.Walked as walked
use Rattle.replay_walk.specs.Standing.{Standing}
use Rattle.replay.specs.Ends.{Ends, AllAgree, IsFirstWrong, IsVerdict}
use Rattle.replay.specs.Verdicts.{WalksAlong}
use Rattle.replay.proofs.Schedules.{agreeing_records_are_of_runs, wrong_ends_are_of_no_run}

-- The walk's first misfit is the record's.
pub first_misfit : (run : Run) (r : RecordParts) (k : ℕ) → run.limit ≡ r.limit → run.threads ≡ r.threads → walked.IsFirstMisfit run r.log k
    → IsFirstMisfit (start run) r k
first_misfit run r k limit most h =
    subst (λ (t : ℕ). logs.IsFirstMisfit (system_of (start run)) (try_rules false (Some r.limit)) (state_for t (start run)) first_places (as_acts r.log) k) most
    (subst (λ (l : ℕ). logs.IsFirstMisfit (system_of (start run)) (try_rules false (Some l)) (state_for run.threads (start run)) first_places (as_acts r.log) k)
    limit h)

-- It lies within the log.
pub within_log : (run : Run) (log : List entries.Entry) (k : ℕ) → walked.IsFirstMisfit run log k → k < length log
within_log run log k h = let below = h.below in let same = length-map log acted in omega (arith, below, same)

pub none_left : {A : Type 0} (o : Option A) → ((x : A) → o ≡ Some x → ⊥) → o ≡ None
none_left None none = refl
none_left (Some x) none = absurd (none x refl)

module _ {T : Type 0} (meaning : T → Meaning)
    (run : Run) (r : RecordParts) (limit : run.limit ≡ r.limit) (most : run.threads ≡ r.threads) (budget : run.budget ≡ r.fuel)
    (threads : List T) (memory : Memory) (queue : WaitQueue) (begun : ℕ) (ends : List (Option Outcome))
    (w : HasWalked meaning run r.log threads memory queue begun ends) where
  pub along : WalksAlong (start run) r w.state w.places
  along =
      subst (λ (t : ℕ). Walks (system_of (start run)) (try_rules false (Some r.limit)) (as_acts r.log)
      (state_for t (start run)) first_places 0 w.state w.places) most
      (subst (λ (l : ℕ). Walks (system_of (start run)) (try_rules false (Some l)) (as_acts r.log)
      (state_for run.threads (start run)) first_places 0 w.state w.places) limit w.walks)

  -- It stands where its log ends;
  pub ended : Ends meaning (standing_in run memory w.state w.places) threads queue begun ends r.fuel
  ended = record { standing = w.standing; budget = budget }

  -- where all lines agree, the record is of a run that ends with its memory,
  recorded : AllAgree r w.state w.places → IsRecordedRun (start run) r memory
  recorded all = subst (IsRecordedRun (start run) r) (ap (λ (x : Shared). x.memory) w.standing.shared)
      (agreeing_records_are_of_runs (start run) r w.state w.places along all)

  -- and the first that doesn't agree is the record's first wrong end.
  wrong_end : (k : ℕ) → IsFirstWrong r w.state w.places k → IsFirstWrongEnd (start run) r k
  wrong_end k h = wrong_ends_are_of_no_run (start run) r w.state w.places along k h

-- The walk came along a log, which is the record's. Behind it the lines were compared, and the answer is what they say.
module _ {T : Type 0} {meaning : T → Meaning}
    (run : Run) (r : RecordParts) (limit : run.limit ≡ r.limit) (most : run.threads ≡ r.threads) (budget : run.budget ≡ r.fuel) {log : List entries.Entry}
    (log_is : log ≡ r.log)
    {threads : List T} {slice : List T} (slice_is : slice ≡ threads) {memory : Memory} {queue : WaitQueue} {begun : ℕ} {ends : List (Option Outcome)}
    (w : HasWalked meaning run log threads memory queue begun ends) {held : ℕ} (held_is : held ≡ pages memory) (answer : Option ℕ)
    (says : (s : Standing) → Ends meaning s slice queue begun ends r.fuel → held ≡ pages s.memory → IsVerdict r s.state s.places answer) where
  along_record : HasWalked meaning run r.log threads memory queue begun ends
  along_record = subst (λ (l : List entries.Entry). HasWalked meaning run l threads memory queue begun ends) log_is w

  verdict : IsVerdict r along_record.state along_record.places answer
  verdict =
      says (standing_in run memory along_record.state along_record.places)
      (subst (λ (l : List T). Ends meaning (standing_in run memory along_record.state along_record.places) l queue begun ends r.fuel) (sym slice_is)
      (ended meaning run r limit most budget threads memory queue begun ends along_record))
      held_is

  verdict_if : (o : Option ℕ) → answer ≡ o → IsVerdict r along_record.state along_record.places o
  verdict_if o is = subst (IsVerdict r along_record.state along_record.places) is verdict

  pub is_recorded : answer ≡ None → IsRecordedRun (start run) r memory
  is_recorded is = recorded meaning run r limit most budget threads memory queue begun ends along_record (verdict_if None is)

  pub is_wrong : (k : ℕ) → answer ≡ Some k → IsFirstWrongEnd (start run) r k
  is_wrong k is = wrong_end meaning run r limit most budget threads memory queue begun ends along_record k (verdict_if (Some k) is)

  pub within_ends : (k : ℕ) → answer ≡ Some k → k ≤ length r.ends
  within_ends k is = (verdict_if (Some k) is).below

-- Who is one of the record's threads is one of those that there may be.
pub wider : (threads : ℕ) → threads ≤ MOST_THREADS → (log : List entries.Entry) → All (IsEntry threads) log → All (IsEntry MOST_THREADS) log
wider threads few log all k d lt =
    let e = all k d lt in
    record { thread = omega (arith, e.thread, few); event_fits = e.event_fits; event = e.event; reply_fits = e.reply_fits; reply = e.reply }
