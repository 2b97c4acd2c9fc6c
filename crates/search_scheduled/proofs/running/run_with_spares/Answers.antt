use Rattle.std.proofs.Common.{ℕ, ◌≡◌, ◌∙◌, refl, sym, ap, subst, inl, inr}
use Rattle.std.proofs.lemmas.Result.{err_from_is_err_and}
use Rattle.types.specs.declared.parts.Parts.{Parts}
use Rattle.types.specs.declared.limits.TheConstants.{MOST_PAGES}
use Rattle.validate_module.specs.Pages.{HasPagesWithin}
use Rattle.interp.specs.Threads.{meaning_in}
use Rattle.replay_text.specs.declared.parts.RecordParts.{RecordParts}
use Rattle.replay_walk.specs.Walked.{start}
use Rattle.replay.specs.Runs.{IsRunOf}
use Rattle.search_scheduled.specs.Faults.{fault_of}
use Rattle.validate_typing.specs.Validity.{HasDistinctNames}
use Rattle.schedule_runs.specs.Runs.{Start}
use Rattle.replay_rules.specs.Recorded.{IsRecordedRun}
use Rattle.replay.proofs.Same.{same_start}
use Rattle.spawn_host.specs.Requests.{Requested}
use Rattle.search_scheduled.specs.Headers.{IsOfRequest, HasHeaderOf}
use Rattle.search_scheduled.specs.Heard.IsHeard.{here}
use Rattle.search_scheduled.specs.Led.{IsOver}
use Rattle.search_scheduled.specs.Courses.{StaysOnItsRuns}
use Rattle.search_scheduled.specs.SpareThreads.{HasBegunFor}
use Rattle.search_scheduled.specs.Nowhere.{HasNoRecord, IsOfNoRun}
use Rattle.search_scheduled.specs.declared.course.Course.{Course}
use Rattle.interp.specs.declared.thread.Thread.{Thread}
use Rattle.search_scheduled.specs.declared.course.CourseFault.{CourseFault}
use Rattle.search_scheduled.specs.declared.course.CourseFault.TheVariants as courses
use Rattle.search_scheduled.specs.declared.fault.SearchFault.TheVariants as searches
use Rattle.search_scheduled.proofs.Rebased.{has_length, has_pages, is_run, same_header}
use Rattle.search_scheduled.proofs.SpareLaws.{unused_are_spares}
use Rattle.search_scheduled.proofs.running.run_with_spares.Goals as goal

pub go-requires : goal.go-requires
go-requires g c = let b = c.in_ok-course.ensures.begun c.in_ok-header.header c.in_ok-header.ensures in (b.run, b.came)

pub returns-in-Ok-clause-run : goal.returns-in-Ok-clause-run
returns-in-Ok-clause-run g c =
    let m = c.args.request.now.parts in
    let h = c.in_ok-header.header in
    let of_call = c.in_ok-header.ensures in
    let b = c.in_ok-course.ensures.begun h of_call in
    let came = c.in_ok-go.ensures.runs b.run b.came in
    let end = c.in_ok-parts.field-0.end in
    let pages = subst (λ (p : Parts). HasPagesWithin MOST_PAGES p) c.module-module.ensures c.show_pages_fit.ensures in
    subst (λ (r : RecordParts). IsRunOf m r end) (sym c.in-Ok.ensures.ok.0)
    (is_run m (start b.run) h c.in_ok-parts.field-0.parts b.beginning b.same c.in_ok-parts.ensures.header (has_length m _ _ _ _ h of_call)
    (has_pages m _ _ _ _ h of_call pages) end (c.in_ok-parts.ensures.concludes b.run came b.most b.budget b.limit))

pub returns-in-Ok-clause-spares : goal.returns-in-Ok-clause-spares
returns-in-Ok-clause-spares g c =
    let q = c.args.request.now in
    let m = q.parts in
    let h = c.in_ok-header.header in
    let of_call = c.in_ok-header.ensures in
    let b = c.in_ok-course.ensures.begun h of_call in
    let came = c.in_ok-go.ensures.runs b.run b.came in
    let takes_back = rw c.module-module.ensures at c.in_ok-take_back.ensures in
    takes_back q.fuel c.in_ok-course.ensures.spares
    (λ starts. unused_are_spares meaning_in m b.run q.fuel b.program (b.budget ∙ of_call.fuel) (b.worker starts) _ (c.in_ok-parts.ensures.unused b.run came))

pub returns-in-Ok-clause-led : goal.returns-in-Ok-clause-led
returns-in-Ok-clause-led g c = record {
  first = c.in_ok-course.course;
  begun = c.in_ok-course.ensures.begun;
  last = c.go.new.self;
  led = c.in_ok-go.ensures.led;
  over = subst (λ (k : ℕ). IsOver meaning_in k c.go.new.self) c.in_ok-course.ensures.limit c.in_ok-go.ensures.ends;
  log = ap (λ (r : RecordParts). r.log) c.in-Ok.ensures.ok.0 ∙ c.in_ok-parts.ensures.log;
}

is_given_up : (fault : CourseFault) → fault_of fault ≡ searches.GivenUp → fault ≡ courses.GivenUp
is_given_up courses.NoMemory is = absurd (cc is)
is_given_up courses.NoEntry is = absurd (cc is)
is_given_up courses.GivenUp is = refl

pub returns-in_err-go-clause-given_up : goal.returns-in_err-go-clause-given_up
returns-in_err-go-clause-given_up g c =
    let p = err_from_is_err_and c.from_residual-in_err-go.result c.from_residual-in_err-go.ensures.1 in
    rw (p.1, p.2) (λ same. record {
      first = c.in_ok-course.course;
      begun = c.in_ok-course.ensures.begun;
      given_up = c.in_err-go.ensures.given_up (is_given_up _ same);
    })

is_no_entry : (fault : CourseFault) → fault_of fault ≡ searches.NoEnd → fault ≡ courses.NoEntry
is_no_entry courses.NoMemory is = absurd (cc is)
is_no_entry courses.NoEntry is = refl
is_no_entry courses.GivenUp is = absurd (cc is)

pub returns-in_err-go-clause-no_end : goal.returns-in_err-go-clause-no_end
returns-in_err-go-clause-no_end g c =
    let p = err_from_is_err_and c.from_residual-in_err-go.result c.from_residual-in_err-go.ensures.1 in
    rw (p.1, p.2) (λ same. record {
      first = c.in_ok-course.course;
      begun = c.in_ok-course.ensures.begun;
      nowhere = inr (c.in_err-go.ensures.stranded (is_no_entry _ same));
    })

-- where a course has no record, what is requested has no run with its log
has_no_run : (q : Requested) (limit : ℕ) (header : RecordParts) (first last : Course Thread) → HasDistinctNames q.parts.exports
    → IsOfRequest q limit header → HasBegunFor meaning_in q limit first → StaysOnItsRuns meaning_in first last
    → HasNoRecord meaning_in header last → IsOfNoRun q limit last.log.items
has_no_run q limit header first last distinct of_call begun stays none made end is log run =
    let b = begun made is in
    let recorded : IsRecordedRun (start b.run) made run.last =
    subst (λ (s : Start). IsRecordedRun s made run.last)
    (same_start q.parts distinct made run.beginning b.beginning ∙ sym b.same) run.recorded in
    let same = same_header q.parts q.name q.args q.fuel limit header made of_call is in
    none b.run made run.last (stays b.run b.came) (b.most ∙ same.threads) (b.budget ∙ same.fuel) (b.limit ∙ same.limit) same log recorded

pub returns-in_err-parts-clause-no_end : goal.returns-in_err-parts-clause-no_end
returns-in_err-parts-clause-no_end g c =
    let q = c.args.request.now in
    let distinct = subst (λ (m : Parts). HasDistinctNames m.exports) c.module-module.ensures c.show_distinct_names.ensures in
    let p = err_from_is_err_and c.from_residual-in_err-parts.result c.from_residual-in_err-parts.ensures.1 in
    rw (p.1, p.2) (λ same. record {
      first = c.in_ok-course.course;
      begun = c.in_ok-course.ensures.begun;
      nowhere = inl (record {
        last = c.go.new.self;
        after = c.go.new.strategy;
        led = c.in_ok-go.ensures.led;
        over = subst (λ (k : ℕ). IsOver meaning_in k c.go.new.self) c.in_ok-course.ensures.limit c.in_ok-go.ensures.ends;
        none = inl (has_no_run q c.args.limit c.in_ok-header.header c.in_ok-course.course c.go.new.self distinct c.in_ok-header.ensures
            c.in_ok-course.ensures.begun c.in_ok-go.ensures.runs (c.in_err-parts.ensures.none same));
      });
    })

of_request : (q : Requested) (limit : ℕ) (header r : RecordParts) → IsOfRequest q limit header → HasHeaderOf header r → IsOfRequest q limit r
of_request q limit header r h x = record {
  version = x.version ∙ h.version;
  module_len = x.module_len ∙ h.module_len;
  threads = x.threads ∙ h.threads;
  max_pages = x.max_pages ∙ h.max_pages;
  invoke = x.invoke ∙ h.invoke;
  args = x.args ∙ h.args;
  fuel = x.fuel ∙ h.fuel;
  limit = x.limit ∙ h.limit;
}

pub returns-in-Err-clause-no_end : goal.returns-in-Err-clause-no_end
returns-in-Err-clause-no_end g c = λ same.
    let m = c.args.request.now.parts in
    let h = c.in_ok-header.header in
    let of_call = c.in_ok-header.ensures in
    let b = c.in_ok-course.ensures.begun h of_call in
    let came = c.in_ok-go.ensures.runs b.run b.came in
    let end = c.in_ok-parts.field-0.end in
    let made = c.in_ok-parts.field-0.parts in
    let pages = subst (λ (p : Parts). HasPagesWithin MOST_PAGES p) c.module-module.ensures c.show_pages_fit.ensures in
    record {
      first = c.in_ok-course.course;
      begun = c.in_ok-course.ensures.begun;
      nowhere = inl (record {
        last = c.go.new.self;
        after = c.go.new.strategy;
        led = c.in_ok-go.ensures.led;
        over = subst (λ (k : ℕ). IsOver meaning_in k c.go.new.self) c.in_ok-course.ensures.limit c.in_ok-go.ensures.ends;
        none = inr (record {
          made = made;
          end = end;
          header = of_request c.args.request.now c.args.limit h made of_call c.in_ok-parts.ensures.header;
          log_is = c.in_ok-parts.ensures.log;
          run = is_run m (start b.run) h made b.beginning b.same c.in_ok-parts.ensures.header (has_length m _ _ _ _ h of_call)
              (has_pages m _ _ _ _ h of_call pages) end (c.in_ok-parts.ensures.concludes b.run came b.most b.budget b.limit);
          none = c.in-Err.ensures.err.1;
        });
      });
    }

pub returns-in-Ok-clause-heard : goal.returns-in-Ok-clause-heard
returns-in-Ok-clause-heard g c = record {
  first = c.in_ok-course.course;
  begun = c.in_ok-course.ensures.begun;
  none = c.new-heard.result;
  empty = c.new-heard.ensures.none;
  last = c.go.new.self;
  is_heard = c.in_ok-go.ensures.ear c.in_ok-course.course c.new-heard.result here;
  log = ap (λ (r : RecordParts). r.log) c.in-Ok.ensures.ok.0 ∙ c.in_ok-parts.ensures.log;
}
