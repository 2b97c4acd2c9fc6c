-- The records of runs are within their ranges.
use Rattle.std.proofs.Common.{◌≡◌, ℕ, ◌+◌, ◌<◌, ◌≤◌, true, false, List, [], ◌∷◌, ◌++◌, length, get_or, Some, refl, sym, ◌∙◌, subst, arith, append_assoc}
use Rattle.std.specs.List.{All, AllByRecursion}
use Rattle.std.proofs.lemmas.List.Elements.{All-from_recursion}
use Rattle.std.proofs.lemmas.Option.{slice_get-get_or}
use Rattle.types.specs.declared.event.Entry.{Entry}
use Rattle.types.specs.declared.outcome.Outcome.{Outcome}
use Rattle.types.specs.declared.outcome.ThreadReport.{ThreadReport}
use Rattle.types.specs.declared.limits.TheConstants.{MOST_SPAWNED, MOST_FUEL}
use Rattle.shared_memory.specs.WaitQueue.{WaitQueue, next_id}
use Rattle.shared_memory.specs.History.{queue_after}
use Rattle.shared_memory.specs.Legal.{IsQueueLegal}
use Rattle.shared_memory.proofs.Histories.{IsQueueLegal-prefix}
use Rattle.shared_memory.proofs.Soundness.{IsSound-after, few_spawned}
use Rattle.schedule_runs.specs.Runs.{Start, RanTogether}
use Rattle.schedule_runs.proofs.Order.{entry_started}
use Rattle.replay_text.specs.Conditions.{IsEntry, IsReport, is_reply_to}
use Rattle.replay_text.specs.Text.{HasNumbers, IsRecord}
use Rattle.replay_text.specs.Versions.{IsScale}
use Rattle.replay_text.specs.declared.version.Version.{Version}
use Rattle.replay_text.specs.declared.parts.RecordParts.{RecordParts}
use Rattle.replay_rules.specs.Telling.{RecordTells}
use Rattle.replay_rules.specs.Ranges.{AreTyped, IsWritten, IsLimited, RunsAreInRange}
use Rattle.replay_rules.proofs.Replies.{kinds, reply_fits}

module _ (b : Start) (r : RecordParts) (outcomes : ℕ → Outcome) (lefts : ℕ → ℕ)
    (ran : RanTogether b false (Some r.limit) r.log outcomes lefts) (tells : RecordTells b r outcomes lefts) where
  -- each entry is of a thread that was started, and there are at most 64
  abbrev IsSmall : Entry → Type 0
  IsSmall e = e.thread < r.threads

  small_at : (xs ys : List Entry) (e : Entry) → r.log ≡ xs ++ e ∷ ys → IsSmall e
  small_at xs ys e is =
      let known : e.thread < next_id (queue_after xs) = entry_started b false (Some r.limit) r.log outcomes lefts ran.threads ran.entries xs ys e is in
      let few : length (WaitQueue.args (queue_after xs)) ≤ MOST_SPAWNED =
      few_spawned (queue_after xs) (IsSound-after xs (IsQueueLegal-prefix xs (e ∷ ys) (subst IsQueueLegal is ran.queue))) in
      omega (arith, known, few, tells.threads)

  small_from : (xs ys : List Entry) → r.log ≡ xs ++ ys → AllByRecursion IsSmall ys
  small_from xs [] is = tt
  small_from xs (e ∷ ys) is = (small_at xs ys e is, small_from (xs ++ e ∷ []) ys (is ∙ sym (append_assoc xs (e ∷ []) ys)))

  all_small : All IsSmall r.log
  all_small = All-from_recursion IsSmall r.log (small_from [] r.log refl)

  abbrev IsOfKind : Entry → Type 0
  IsOfKind e = is_reply_to e.event e.reply ≡ true

  all_kinds : All IsOfKind r.log
  all_kinds = All-from_recursion IsOfKind r.log (kinds b.opening r.log ran.memory)

  module _ (small : r.fuel ≤ MOST_FUEL) (written : IsWritten r) (limited : IsLimited r) (typed : AreTyped r) where
    entries : All (IsEntry r.threads) r.log
    entries k d lt =
        let e : Entry = get_or r.log k d in
        let kind : IsOfKind e = all_kinds k d lt in record {
          thread = all_small k d lt;
          event_fits = (typed.log k d lt).0;
          event = (limited.entries k d lt).event;
          reply_fits = reply_fits e.event e.reply kind (typed.log k d lt).1;
          reply = kind;
        }

    ends : All IsReport r.ends
    ends k d lt =
        let told = tells.reports k (get_or r.ends k d) (slice_get-get_or r.ends k d lt) in
        let budget : ThreadReport.spent (get_or r.ends k d) + lefts k ≡ r.fuel = told.1 in
        record { outcome = typed.ends k d lt; spent = omega (arith, budget, small) }

    scale : IsScale r.version r.module_len r.threads r.max_pages
    scale =
        subst (λ (v : Version). IsScale v r.module_len r.threads r.max_pages) (sym written.version) (
          written.module_len,
          ((omega (arith, tells.threads), omega (arith, tells.threads)), (omega (arith, written.max_pages), omega (arith, written.max_pages))),
        )

    numbers : HasNumbers r
    numbers =
        let count : length r.ends ≡ length (WaitQueue.args (queue_after r.log)) + 1 = tells.count in
        let few : length (WaitQueue.args (queue_after r.log)) ≤ MOST_SPAWNED = few_spawned (queue_after r.log) (IsSound-after r.log ran.queue) in record {
          scale = scale;
          fuel = small;
          limit_low = limited.limit_low;
          limit = limited.limit;
          log = omega (arith, limited.room, tells.threads);
          ends_low = omega (arith, count);
          ends = omega (arith, count, few, tells.threads);
          pages = omega (arith, limited.pages, written.max_pages);
        }

    pub in_range : IsRecord r
    in_range = record { invoke = typed.invoke; bytes = typed.bytes; numbers = numbers; args = typed.args; log = entries; ends = ends }

pub runs_are_in_range : RunsAreInRange
runs_are_in_range b r outcomes lefts ran tells small written limited typed = in_range b r outcomes lefts ran tells small written limited typed
