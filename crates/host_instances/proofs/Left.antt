-- A run leaves a memory that the module can have.
use Rattle.std.proofs.Common.{◌≡◌, ℕ, ◌≤◌, List, [], ◌∷◌, length, Option, Some, None, IfSome, Ok, Err, IfOk, refl, sym, ap, ◌∙◌, subst, arith}
use Rattle.std.proofs.lemmas.List.Elements.{All-head, All-tail}
use Rattle.std.proofs.lemmas.Option.{slice_get_past}
use Rattle.std.specs.declared.result.Result.{Result}
use Rattle.std.specs.List.{All, slice_get}
use Rattle.types.specs.declared.event.Entry as entries
use Rattle.types.specs.declared.event.Event.{Event}
use Rattle.types.specs.declared.event.Event.TheVariants.{Told}
use Rattle.types.specs.declared.event.Reply.{Reply}
use Rattle.types.specs.declared.event.Answer.{Answer}
use Rattle.types.specs.declared.outcome.ThreadReport.{ThreadReport}
use Rattle.types.specs.declared.parts.Limits.{Limits}
use Rattle.types.specs.declared.parts.Parts.{Parts}
use Rattle.types.specs.declared.limits.TheConstants.{MOST_PAGES}
use Rattle.validate_typing.specs.Context.{memories_of}
use Rattle.validate_typing.specs.Image.{max_of, max_of_limits, min_of, pages_max_of}
use Rattle.validate_typing.specs.Validity.{IsValid}
use Rattle.validate_module.specs.Pages.{IsWithinPages}
use Rattle.shared_memory.specs.Events.{IsEvent}
use Rattle.shared_memory.specs.Memory.{Memory, pages}
use Rattle.schedule.specs.System.{Entry}
use Rattle.schedule.specs.Histories.{if_made, without_answers}
use Rattle.schedule_runs.specs.Runs.{Start, as_acts, state_for}
use Rattle.schedule_threads.specs.Shared.{act_by}
use Rattle.replay_text.specs.Conditions.{IsEntry}
use Rattle.replay_text.specs.Text.{IsRecord}
use Rattle.replay_text.specs.Versions.{IsScale}
use Rattle.replay_text.specs.declared.version.Version.{Version}
use Rattle.replay_text.specs.declared.version.Version.TheVariants as versions
use Rattle.replay_text.specs.declared.parts.RecordParts.{RecordParts}
use Rattle.replay_rules.specs.Recorded.{EndAgrees, last_places, state_along}
use Rattle.replay.specs.Runs.{IsRunOf, start_of_record}
use Rattle.spawn_host.specs.declared.end.EndState.{EndState}
use Rattle.types.specs.declared.value.Value.{Value}
use Rattle.search_scheduled.specs.declared.running.MadeRun.{MadeRun}
use Rattle.host_calls.specs.Hosts.{IsPlannedRun, IsSavedRun}
use Rattle.host_calls.specs.declared.plan.Plan.{Plan}
use Rattle.host_calls.specs.declared.fault.HostFault.{HostFault}
use Rattle.host_instances.specs.Instances.{Instanced, CanHave, module_of}
use Rattle.host_instances.proofs.Begins.{begins}
use Rattle.host_instances.proofs.Sizes.{HasPages, pages_counted, AreProper, has_along}

-- the events of a record meet the conditions on events
act_proper : (e : Event) (v : Reply) → IsEvent e → (n : ℕ) (H : List (Entry Event Reply Answer)) → AreProper H → AreProper (if_made n (act_by e v) H)
act_proper (Told answer) v is n H are = are
act_proper _ v is n H are = (is, are)

record_proper : (threads : ℕ) (es : List entries.Entry) → All (IsEntry threads) es → AreProper (without_answers (as_acts es))
record_proper threads [] all = tt
record_proper threads (e ∷ es) all =
    act_proper e.event e.reply (All-head (IsEntry threads) e es all).event e.thread (without_answers (as_acts es))
    (record_proper threads es (All-tail (IsEntry threads) e es all))

-- what is said of pages
within_max : (most p : ℕ) (l : Option Limits) → IsWithinPages most l → p ≡ min_of l → p ≤ max_of MOST_PAGES l → p ≤ max_of most l
within_max most p None is same low = low
within_max most p (Some l) is same low = by_max l.max is low where
  by_max : (max : Option ℕ) → (l.min ≤ most) × IfSome max (λ n. n ≤ most) → p ≤ max_of_limits MOST_PAGES max → p ≤ max_of_limits most max
  by_max None is low = omega arith
  by_max (Some n) is low = low

few_pages : (version : Version) (module_len threads most : ℕ) → IsScale version module_len threads most → most ≤ MOST_PAGES
few_pages versions.One module_len threads most is = let same = is.1.1 in omega arith
few_pages versions.Two module_len threads most is = is.1.1.1

max_more : (most : ℕ) → most ≤ MOST_PAGES → (l : Option Limits) → max_of most l ≤ max_of MOST_PAGES l
max_more most few None = omega arith
max_more most few (Some l) = by_max l.max where
  by_max : (max : Option ℕ) → max_of_limits most max ≤ max_of_limits MOST_PAGES max
  by_max None = few
  by_max (Some n) = omega arith

module _ (i : Instanced) (valid : IsValid i.parts) (can : CanHave i.parts i.pages i.bytes) (r : RecordParts) (ranges : IsRecord r)
    (end : EndState) (run : IsRunOf (module_of i) r end) where
  abbrev b : Start
  b = start_of_record (module_of i) r run.beginning

  abbrev max : ℕ
  max = pages_max_of r.max_pages (module_of i)

  opens : HasPages max (state_for r.threads b).shared.memory
  opens = let opened = begins i valid can in record {
    count = i.pages;
    whole = ap (λ (bytes : List ℕ). length bytes) opened.image ∙ can.whole;
    under = within_max r.max_pages i.pages (slice_get (memories_of (module_of i)) 0) run.pages_fit (sym opened.pages)
        (subst (λ n. i.pages ≤ n) (sym (opened.maximum MOST_PAGES)) can.within);
    maximum = refl;
  }

  ends : HasPages max run.last
  ends =
      subst (HasPages max) run.recorded.memory
      (has_along b max run.recorded.schedule (state_for r.threads b)
      (subst AreProper (sym run.recorded.makes.events) (record_proper r.threads r.log ranges.log)) opens)

  left_pages : pages run.last ≡ r.pages
  left_pages =
      let z = state_along b r run.recorded.schedule in
      let past = slice_get_past r.ends (length r.ends) (omega arith) in
      ap (λ (m : Memory). pages m) (sym run.recorded.memory)
      ∙ (subst (λ (report : Option ThreadReport). EndAgrees r z (last_places b r) (length r.ends) report) past (run.recorded.agrees (length r.ends) (omega arith))).0

  pub left : CanHave i.parts end.pages end.bytes.items
  left =
      let counted = pages_counted max run.last ends in let same = left_pages in let said = run.pages in let whole = ends.whole in
      let bytes = ap (λ (bytes : List ℕ). length bytes) run.bytes in let under = ends.under in
      let opened = begins i valid can in let most = max_more r.max_pages (few_pages r.version r.module_len r.threads r.max_pages ranges.numbers.scale) (slice_get (memories_of i.parts) 0) in let same_max = opened.maximum r.max_pages in record {
        whole = omega arith;
        within = omega arith;
      }

-- the same of a run of a plan, and of one that was saved
module _ (i : Instanced) (valid : IsValid i.parts) (can : CanHave i.parts i.pages i.bytes) where
  pub run_left : (name : List ℕ) (args : List Value) (plan : Plan) (made : MadeRun) → IsRecord made.record
      → IsPlannedRun (module_of i) name args plan made → CanHave i.parts made.end.pages made.end.bytes.items
  run_left name args plan made ranges run =
      left i valid can made.record ranges made.end
      (subst (λ (m : Parts). IsRunOf m made.record made.end) run.asked.parts_are run.run.drawn.find.run)

  pub replay_left : (saved : List ℕ) (found : Result EndState HostFault) → IfOk found (IsSavedRun (module_of i) saved)
      → IfOk found (λ end. CanHave i.parts end.pages end.bytes.items)
  replay_left saved (Ok end) run = left i valid can run.made run.ranges end run.run
  replay_left saved (Err fault) run = tt
