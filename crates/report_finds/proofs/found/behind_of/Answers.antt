use Rattle.std.proofs.Common.{ℕ, ◌≡◌, ◌∙◌, Option, None, ap, subst, sym, inl, inr, true≢false}
use Rattle.spawn_host.specs.Requests.{Requested}
use Rattle.report_command.specs.declared.search.Search.{Search}
use Rattle.report_telling.specs.declared.found.WholeSearch.{WholeSearch}
use Rattle.report_telling.specs.declared.found.FoundRun.{FoundRun}
use Rattle.report_finds.specs.Sought.{IsStatusOf}
use Rattle.report_finds.specs.Found.{HasFound, HasNothing}
use Rattle.report_finds.specs.declared.found.StatusAndFound.{StatusAndFound}
use Rattle.report_finds.proofs.Printed.{first_is_sought, status_0, status_1, well_has_none}
use Rattle.report_finds.proofs.Meeting.{none_of}
use Rattle.report_finds.proofs.found.behind_of.Goals as goal

-- where nothing was found, with a status
has_nothing : (q : Requested) (s : Search) (w : WholeSearch) (status : ℕ) (b : StatusAndFound) → b ≡ record { status = status; found = None } →
    HasNothing s w.all
    → HasFound q s w b.found
has_nothing q s w status b is none = subst (λ (o : Option FoundRun). HasFound q s w o) (sym (ap (λ (x : StatusAndFound). x.found) is)) none

at_status : (s : Search) (w : WholeSearch) (status : ℕ) (b : StatusAndFound) → b ≡ record { status = status; found = None } → IsStatusOf s w status
    → IsStatusOf s w b.status
at_status s w status b is said = subst (λ (n : ℕ). IsStatusOf s w n) (sym (ap (λ (x : StatusAndFound). x.status) is)) said

pub returns-then-not-stops-clause-has : goal.returns-then-not-stops-clause-has
returns-then-not-stops-clause-has c =
    has_nothing c.args.call.request.now c.args.call.search.now c.args.whole.now 1 _ c.nothing.ensures
    (record {
      unsought = λ stops. absurd (true≢false (sym stops ∙ (sym c.stops_behind-stops.ensures ∙ c.if-not-stops.true)));
      endless = λ stops. absurd (true≢false (sym stops ∙ (sym c.stops_behind-stops.ensures ∙ c.if-not-stops.true)));
    })

pub returns-then-not-stops-clause-status : goal.returns-then-not-stops-clause-status
returns-then-not-stops-clause-status c =
    let is_first = rw c.in-Some.is at c.in_ok-first.ensures.first in
    at_status c.args.call.search.now c.args.whole.now 1 _ c.nothing.ensures
    (status_1 c.args.call.search.now c.args.whole.now (λ both. first_is_sought c.args.call.search.now.sought _ _ _ is_first both.0.unsought))

pub returns-in-Some-clause-has : goal.returns-in-Some-clause-has
returns-in-Some-clause-has c =
    let is_first = rw c.in-Some.is at c.in_ok-first.ensures.first in
    let choices = rw c.in-Some.is at c.in_ok-first.ensures.choices in (
      sym c.stops_behind-stops.ensures ∙ c.if-not-stops.false,
      inl (record {
        number = c.in-Some.first.number;
        ending = c.in-Some.first.ending.now;
        is_first = is_first;
        choices = c.as_slice.result.now;
        noted = λ every. c.as_slice.ensures.value ∙ (c.in_ok-choices.ensures every ∙ choices);
        one = c.in_ok-found.ensures.has;
      }),
    )

pub returns-in-Some-clause-status : goal.returns-in-Some-clause-status
returns-in-Some-clause-status c =
    let is_first = rw c.in-Some.is at c.in_ok-first.ensures.first in
    status_1 c.args.call.search.now c.args.whole.now (λ both. first_is_sought c.args.call.search.now.sought _ _ _ is_first both.0.unsought)

pub returns-then-not-is_allowed-clause-has : goal.returns-then-not-is_allowed-clause-has
returns-then-not-is_allowed-clause-has c =
    let s = c.args.call.search.now.sought in
    let well = c.are_well.ensures.0 c.if-are_well.true in
    has_nothing c.args.call.request.now c.args.call.search.now c.args.whole.now 1 _ c.nothing-then-not-is_allowed.ensures
    (record { unsought = λ _. well.unsought; endless = λ _. well_has_none s s.target c.args.whole.now.all well })

pub returns-then-not-is_allowed-clause-status : goal.returns-then-not-is_allowed-clause-status
returns-then-not-is_allowed-clause-status c =
    at_status c.args.call.search.now c.args.whole.now 1 _ c.nothing-then-not-is_allowed.ensures
    (status_1 c.args.call.search.now c.args.whole.now
    (λ both. absurd (true≢false (sym both.1 ∙ (sym c.is_allowed.ensures ∙ c.if-not-is_allowed.true)))))

pub returns-then-are_well-clause-has : goal.returns-then-are_well-clause-has
returns-then-are_well-clause-has c =
    let s = c.args.call.search.now.sought in
    let well = c.are_well.ensures.0 c.if-are_well.true in
    has_nothing c.args.call.request.now c.args.call.search.now c.args.whole.now 0 _ c.nothing-then-are_well.ensures
    (record { unsought = λ _. well.unsought; endless = λ _. well_has_none s s.target c.args.whole.now.all well })

pub returns-then-are_well-clause-status : goal.returns-then-are_well-clause-status
returns-then-are_well-clause-status c =
    at_status c.args.call.search.now c.args.whole.now 0 _ c.nothing-then-are_well.ensures
    (status_0 c.args.call.search.now c.args.whole.now (c.are_well.ensures.0 c.if-are_well.true)
    (sym c.is_allowed.ensures ∙ c.if-not-is_allowed.false))

pub returns-then-not-stops-2-clause-has : goal.returns-then-not-stops-2-clause-has
returns-then-not-stops-2-clause-has c =
    has_nothing c.args.call.request.now c.args.call.search.now c.args.whole.now 1 _ c.nothing-then-not-stops-2.ensures
    (record {
      unsought = λ stops. absurd (true≢false (sym stops ∙ (sym c.stops_behind-stops.ensures ∙ c.if-not-stops-2.true)));
      endless = λ stops. absurd (true≢false (sym stops ∙ (sym c.stops_behind-stops.ensures ∙ c.if-not-stops-2.true)));
    })

pub returns-then-not-stops-2-clause-status : goal.returns-then-not-stops-2-clause-status
returns-then-not-stops-2-clause-status c =
    at_status c.args.call.search.now c.args.whole.now 1 _ c.nothing-then-not-stops-2.ensures
    (status_1 c.args.call.search.now c.args.whole.now
    (λ both. absurd (true≢false (sym (c.are_well.ensures.1 both.0) ∙ c.if-are_well.false))))

pub returns-in_ok-found-in-Some-endless_run-clause-has : goal.returns-in_ok-found-in-Some-endless_run-clause-has
returns-in_ok-found-in-Some-endless_run-clause-has c = (
  sym c.stops_behind-stops.ensures ∙ c.if-not-stops-2.false,
  inr (record {
    known = c.in-Some-endless_run.run';
    is_known = rw c.in-Some-endless_run.is at c.endless_run.ensures.some;
    unsought = c.in_ok-first.ensures.none (none_of _ c.in_default.not-Some);
    filled = c.in_ok-found-in-Some-endless_run.ensures.has;
  }),
)

pub returns-in_ok-found-in-Some-endless_run-clause-status : goal.returns-in_ok-found-in-Some-endless_run-clause-status
returns-in_ok-found-in-Some-endless_run-clause-status c =
    status_1 c.args.call.search.now c.args.whole.now
    (λ both. absurd (true≢false (sym (c.are_well.ensures.1 both.0) ∙ c.if-are_well.false)))

pub returns-in-None-clause-has : goal.returns-in-None-clause-has
returns-in-None-clause-has c =
    has_nothing c.args.call.request.now c.args.call.search.now c.args.whole.now 1 _ c.nothing-in-None.ensures
    (record {
      unsought = λ _. c.in_ok-first.ensures.none (none_of _ c.in_default.not-Some);
      endless = λ _. rw c.in-None.is at c.endless_run.ensures.none;
    })

pub returns-in-None-clause-status : goal.returns-in-None-clause-status
returns-in-None-clause-status c =
    at_status c.args.call.search.now c.args.whole.now 1 _ c.nothing-in-None.ensures
    (status_1 c.args.call.search.now c.args.whole.now
    (λ both. absurd (true≢false (sym (c.are_well.ensures.1 both.0) ∙ c.if-are_well.false))))
