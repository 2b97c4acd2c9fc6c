-- What a run leaves, of the list that all its seats have seen and what the memory gives at its end.
use Rattle.std.proofs.Common.{◌≡◌, ℕ, ◌+◌, ◌≤◌, Bool, List, [], length, Option, arith, sym, ◌∙◌, ap, subst}
use Rattle.std.specs.List.{All}
use Rattle.types.specs.declared.value.Value.{Value}
use Rattle.types.specs.declared.event.Entry.{Entry}
use Rattle.types.specs.declared.outcome.ThreadReport.{ThreadReport}
use Rattle.types.specs.declared.parts.Parts.{Parts}
use Rattle.types.specs.declared.limits.TheConstants.{MOST_PAGES, MOST_THREADS, SEATS, PAST_LIMIT, MOST_LIMIT}
use Rattle.shared_memory.specs.Memory.{Memory, pages}
use Rattle.shared_memory.specs.History.{entries_of, AreEntries, memory_after, queue_after}
use Rattle.shared_memory_on_table.specs.declared.view.Caller.{Caller}
use Rattle.spawn_host_workers.specs.OverMemory.{OverMemory}
use Rattle.spawn_host.specs.Runs.{opening_memory, IsRun}
use Rattle.locked_recorder.specs.Promises.{IsBounded}
use Rattle.replay_text.specs.declared.parts.RecordParts.{RecordParts}
use Rattle.replay_rules.specs.Ranges.{IsLimited}
use Rattle.spawn_host.specs.declared.end.EndState.{EndState}
use Rattle.spawn_host.specs.RunEnds.{EndsRun}
use Rattle.report_runs.specs.Logs.{of_callers}
use Rattle.report_runs.proofs.Whole.{Knows, is_history}
use Rattle.shared_memory.proofs.Soundness.{IsSound-after, few_spawned}

module _ {S : Type 0} (caller : S → Caller) (P : S → Type 0) (m : Parts) (entry : List ℕ) (args : List Value) (fuel : ℕ)
    (loses : Bool) (opening : Memory) (limit : Option ℕ) (seats : List S) (log : List Entry) (end : EndState) where
  pub leaves : IsRun m entry args fuel (of_callers caller loses opening limit) end.threads.items seats
      → ((n : ℕ) → SEATS ≤ n → entries_of n log ≡ []) → ((s : S) → P s → Knows (caller s) log) → All P seats
      → end.pages ≡ pages (memory_after (opening_memory m) log) → end.bytes.items ≡ (memory_after (opening_memory m) log).bytes
      → EndsRun m entry args fuel loses limit log end
  leaves run past known knows p b =
      let e : log ≡ run.history = is_history caller log run.history past P known seats run.len run.names run.seen_by knows in
      subst (λ (l : List Entry). EndsRun m entry args fuel loses limit l end) (sym e)
      (record {
        is_history = run.is_history;
        pages_after = p ∙ ap (λ (l : List Entry). pages (memory_after (opening_memory m) l)) e;
        bytes_after = b ∙ ap (λ (l : List Entry). (memory_after (opening_memory m) l).bytes) e;
      })

-- there are at most 64 reports
pub few_reports : {S : Type 0} (m : Parts) (entry : List ℕ) (args : List Value) (fuel : ℕ) (mem : OverMemory S)
    (threads : List ThreadReport) (seats : List S) → IsRun m entry args fuel mem threads seats → length threads ≤ MOST_THREADS
few_reports m entry args fuel mem threads seats run =
    let few = few_spawned (queue_after run.history) (IsSound-after run.history run.is_history.together.queue) in
    let count = run.is_history.count in
    omega arith

-- a record of such a log is limited
pub limited_by : (r : RecordParts) (log : List Entry) (limit : ℕ) → r.log ≡ log → limit ≡ r.limit → (1 ≤ r.limit)
    × (r.limit ≤ MOST_LIMIT) → IsBounded limit log r.pages → AreEntries log → IsLimited r
limited_by r log limit same bound range bounds entries =
    let room : length log ≤ limit + PAST_LIMIT = bounds.room in
    let small : r.pages ≤ MOST_PAGES = bounds.small in
    let long : length r.log ≡ length log = ap length same in record {
      limit_low = range.0;
      limit = range.1;
      room = omega (arith, room, long, bound);
      pages = small;
      entries = subst AreEntries (sym same) entries;
    }

-- the same of what is equal
module _ (m : Parts) (fuel : ℕ) (loses : Bool) (end : EndState) where
  pub the_same : (entry entry' : List ℕ) (args args' : List Value) (limit limit' : Option ℕ) (log log' : List Entry)
      → entry ≡ entry' → args ≡ args' → limit ≡ limit' → log ≡ log'
      → EndsRun m entry args fuel loses limit log end → EndsRun m entry' args' fuel loses limit' log' end
  the_same entry entry' args args' limit limit' log log' e a l h x =
      subst (λ (h : List Entry). EndsRun m entry' args' fuel loses limit' h end) h
      (subst (λ (l : Option ℕ). EndsRun m entry' args' fuel loses l log end) l
      (subst (λ (a : List Value). EndsRun m entry' a fuel loses limit log end) a
      (subst (λ (e : List ℕ). EndsRun m e args fuel loses limit log end) e x)))
