-- A course that a record of a run could tell has all its reports, and they agree.
use Rattle.std.proofs.Common.{◌≡◌, ℕ, ◌+◌, ◌<◌, ◌≤◌, List, [], ◌∷◌, ◌++◌, length, Option, Some, None, get_or}
use Rattle.std.proofs.Common.{refl, sym, ◌∙◌, ap, subst, inl, inr, arith, length-append, below_more}
use Rattle.std.proofs.lemmas.Bool.{cases_lt}
use Rattle.std.proofs.lemmas.List.{get_or_append_left}
use Rattle.std.proofs.Math.Seq.{get_or-append_seam}
use Rattle.types.specs.declared.outcome.Outcome.TheVariants as outcomes
use Rattle.types.specs.declared.outcome.ThreadReport.{ThreadReport}
use Rattle.shared_memory.specs.Memory.{Memory, pages}
use Rattle.interp_trait.specs.Turns.{Meaning, IsHere}
use Rattle.replay_text.specs.declared.parts.RecordParts.{RecordParts}
use Rattle.replay_rules.specs.Recorded.{HasLeft, LineAgrees, IsRecordedRun}
use Rattle.replay_walk.specs.Standing.{Standing, MayBeTaken, HasGoneIfFree}
use Rattle.replay_walk.specs.Walked.{Run, start, standing_in, WalkCame}
use Rattle.replay_walk.specs.declared.walk.Walk.{Walk}
use Rattle.replay.specs.Ends.{Ends, IsFirstWrong, IsVerdict, NamesFirstWrong}
use Rattle.replay.proofs.Deciding.{along, ended}
use Rattle.replay.proofs.Lines.{IsSeen, seen, left, line_agrees, line_has, pages_agree, all_reported}
use Rattle.replay.proofs.Schedules.{agrees_there}
use Rattle.search_scheduled.specs.Courses.{CameAlong}
use Rattle.search_scheduled.specs.declared.course.Course.{Course}
use Rattle.search_scheduled.specs.Nowhere.{IsReportOf, AreReportsBelow, AreReports, LacksReport}

any_report : ThreadReport
any_report = record { outcome = outcomes.Done None; spent = 0 }

module _ {S : Type 0} (meaning : S → Meaning) where
  -- who may be taken hasn't left
  pub not_gone : (run : Run) (c : Course S) (n : ℕ) → CameAlong meaning run c → MayBeTaken meaning c.walk.stage n → HasGoneIfFree meaning c.walk.stage n → ⊥
  not_gone run c n came may gone =
      let s = standing_in run c.walk.memory came.walk.state came.walk.places in
      let going = may s c.walk.threads.items came.walk.standing in
      let left = gone s c.walk.threads.items came.walk.standing going.free in
      subst IsHere left.gone going.runs.here

  -- reports, one by one
  pub no_reports : (w : Walk S) → AreReportsBelow meaning w 0 []
  no_reports w = record { count = refl; each = λ m below. absurd (omega (arith, below)) }

  pub one_more_report : (w : Walk S) (n : ℕ) (reports : List ThreadReport) (report : ThreadReport) → AreReportsBelow meaning w n reports
      → IsReportOf meaning w n report → AreReportsBelow meaning w (n + 1) (reports ++ report ∷ [])
  one_more_report w n reports report are is = record {
    count = omega (arith, length-append reports (report ∷ []), are.count);
    each = below_more (λ (m : ℕ). (d : ThreadReport) → IsReportOf meaning w m (get_or (reports ++ report ∷ []) m d)) n
        (λ m below d. subst (IsReportOf meaning w m) (sym (get_or_append_left reports (report ∷ []) d m (omega (arith, below, are.count))))
        (are.each m below d))
        (λ d. subst (IsReportOf meaning w n) (sym (at_end d)) is);
  }
    where
      at_end : (d : ThreadReport) → get_or (reports ++ report ∷ []) n d ≡ report
      at_end d = ap (λ (k : ℕ). get_or (reports ++ report ∷ []) k d) (sym are.count) ∙ get_or-append_seam reports report [] d

  -- a record of the run that a walk came along
  module _ (run : Run) (made : RecordParts) (limit : run.limit ≡ made.limit) (most : run.threads ≡ made.threads) (budget : run.budget ≡ made.fuel)
      (w : Walk S) (came : WalkCame meaning run made.log w) (last : Memory) (recorded : IsRecordedRun (start run) made last) where
    abbrev here : Standing
    here = standing_in run w.memory came.state came.places

    agrees : (m : ℕ) → m ≤ length made.ends → LineAgrees made came.state came.places m
    agrees m below = agrees_there (start run) made came.state came.places
        (along meaning run made limit most budget w.threads.items w.memory w.stage.queue w.stage.started w.stage.ends came)
        recorded.schedule recorded.makes m (recorded.agrees m below)

    ends : Ends meaning here w.threads.items w.stage.queue w.stage.started w.stage.ends made.fuel
    ends = ended meaning run made limit most budget w.threads.items w.memory w.stage.queue w.stage.started w.stage.ends came

    all_there : w.stage.started ≤ length made.ends
    all_there = all_reported meaning here w.threads.items w.stage.queue w.stage.started w.stage.ends made ends (pages w.memory) refl
        (agrees (length made.ends) (omega arith))

    abbrev Seen : ℕ → Type 0
    Seen n = IsSeen meaning here w.threads.items w.stage.queue w.stage.started w.stage.ends made ends n (get_or made.ends n any_report)

    sees : (n : ℕ) → n < w.stage.started → Seen n
    sees n below = seen meaning here w.threads.items w.stage.queue w.stage.started w.stage.ends made ends n (get_or made.ends n any_report)
        (line_has made here made.ends refl n any_report (omega (arith, below, all_there)) (agrees n (omega (arith, below, all_there))))

    -- each of its threads has left,
    pub none_lacks : LacksReport meaning w → ⊥
    none_lacks l = let s = sees l.number l.started in l.none s.thread (get_or made.ends l.number any_report).outcome s.at s.outcome

    -- and their reports are no wrong ones
    module _ (own : RecordParts) (fuel : run.budget ≡ own.fuel) (reports : AreReports meaning w own.ends) (held : pages w.memory ≡ own.pages) where
      own_ends : Ends meaning here w.threads.items w.stage.queue w.stage.started w.stage.ends own.fuel
      own_ends = record { standing = came.standing; budget = fuel }

      has_left : (k : ℕ) → k < w.stage.started → HasLeft own came.state came.places k (get_or own.ends k any_report)
      has_left k below =
          let report = reports.each k below any_report in
          left meaning here w.threads.items w.stage.queue w.stage.started w.stage.ends own own_ends k (get_or own.ends k any_report)
          report.thread report.at report.outcome (sees k below).closed report.spent

      line : (k : ℕ) → k ≤ length own.ends → LineAgrees own came.state came.places k
      line k below = elim (cases_lt k (length own.ends)) [
        | inl within ↦ line_agrees own here own.ends refl k any_report within (has_left k (omega (arith, within, reports.count)))
        | inr past ↦ (
            let same : length own.ends ≡ k = omega (arith, below, past) in
            subst (LineAgrees own came.state came.places) same
            (pages_agree meaning here w.threads.items w.stage.queue w.stage.started w.stage.ends own own_ends (pages w.memory) refl held
            (omega (arith, reports.count)))
            )
      ]

      pub none_wrong : (k : ℕ) → IsFirstWrong own came.state came.places k → ⊥
      none_wrong k first = first.wrong (line k first.below)

      -- so no line of theirs is named
      pub none_named : (slice : List S) → slice ≡ w.threads.items → (count : ℕ) → count ≡ pages w.memory → (k : ℕ) (answer : Option ℕ) → answer ≡ Some k
          → NamesFirstWrong meaning slice w.stage count own answer → ⊥
      none_named slice slice_is count count_is k answer is says =
          none_wrong k (subst (IsVerdict own came.state came.places) is
          (says here (subst (λ (l : List S). Ends meaning here l w.stage.queue w.stage.started w.stage.ends own.fuel) (sym slice_is) own_ends) count_is))
