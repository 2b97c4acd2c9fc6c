-- The lines behind a log, and how a walk's threads stand.
use Rattle.std.specs.Prelude.{nat_lt, is_some, ◌||◌}
use Rattle.std.proofs.Common.{◌≡◌, ℕ, ◌+◌, ◌<◌, ◌≤◌, Bool, true, false, cond, List, length, Option, Some, None, refl}
use Rattle.std.proofs.Common.{sym, ◌∙◌, ap, subst, ◌⊎◌, inl, inr, arith, get_or, slice_get}
use Rattle.std.proofs.lemmas.Option.{slice_get-get_or, slice_get_past}
use Rattle.std.proofs.lemmas.Bool.{cases_lt}
use Rattle.types.specs.declared.event.Answer.{Answer}
use Rattle.types.specs.declared.outcome.Outcome.{Outcome}
use Rattle.types.specs.declared.outcome.ThreadReport.{ThreadReport}
use Rattle.shared_memory.specs.Memory.{pages}
use Rattle.shared_memory.specs.WaitQueue.{WaitQueue, is_alive, is_asleep, answer_due, next_id, has_open_question}
use Rattle.schedule.specs.Histories.{Place, Place.Unstarted, Place.Free, Place.Open}
use Rattle.schedule.specs.Machine.{Thread.Left}
use Rattle.schedule_threads.specs.Shared.{Shared}
use Rattle.schedule_runs.specs.Places.{place_of, place_due}
use Rattle.schedule_runs.proofs.Places.{place_unstarted, started_place}
use Rattle.interp_trait.specs.Turns.{Running, left_of, Meaning, IsHere}
use Rattle.replay_text.specs.declared.parts.RecordParts.{RecordParts}
use Rattle.replay_rules.specs.Recorded.{HasLeft, EndAgrees, LineAgrees}
use Rattle.replay_walk.specs.Standing.{StandsAt, Standing}
use Rattle.replay.specs.Ends.{Ends}

-- a free thread has no open question, and who has none is free or wasn't started
free_closed : (q : WaitQueue) (n : ℕ) → place_of q n ≡ Free → has_open_question q n ≡ false
unfolding place_of
free_closed q n h = go (nat_lt n (next_id q)) (is_asleep q n) (answer_due q n) h
  where
    go : (known asleep : Bool) (o : Option Answer) → cond known (cond asleep Open (place_due o)) Unstarted ≡ Free → (asleep || is_some o) ≡ false
    go false asleep o e = absurd (cc e)
    go true true o e = absurd (cc e)
    go true false None e = refl
    go true false (Some x) e = absurd (cc e)

closed_place : (q : WaitQueue) (n : ℕ) → has_open_question q n ≡ false → (place_of q n ≡ Unstarted) ⊎ (place_of q n ≡ Free)
unfolding place_of
closed_place q n h = go (nat_lt n (next_id q)) (is_asleep q n) (answer_due q n) h
  where
    go : (known asleep : Bool) (o : Option Answer) → (asleep || is_some o) ≡ false
        → (cond known (cond asleep Open (place_due o)) Unstarted ≡ Unstarted) ⊎ (cond known (cond asleep Open (place_due o)) Unstarted ≡ Free)
    go false asleep o e = inl refl
    go true true o e = absurd (cc e)
    go true false None e = inr refl
    go true false (Some x) e = absurd (cc e)

-- who has left isn't here
gone_here : (t : Running) (o : Outcome) (left : ℕ) → t ≡ Left o left → IsHere t → ⊥
gone_here t o left e here = subst IsHere e here

same_left : (a b : Outcome) (k n : ℕ) → ◌≡◌ {A = Running} (Left a k) (Left b n) → (a ≡ b) × (k ≡ n)
same_left a b k n e = (cc e, cc e)

-- an end line, by its place
module _ (r : RecordParts) (s : Standing) (ends : List ThreadReport) (same : ends ≡ r.ends) (m : ℕ) (d : ThreadReport) (within : m < length ends) where
  line : slice_get r.ends m ≡ Some (get_or ends m d)
  line = ap (λ l. slice_get l m) (sym same) ∙ slice_get-get_or ends m d within

  pub line_agrees : HasLeft r s.state s.places m (get_or ends m d) → LineAgrees r s.state s.places m
  line_agrees h = subst (λ l. EndAgrees r s.state s.places m l) (sym line) h

  pub line_has : LineAgrees r s.state s.places m → HasLeft r s.state s.places m (get_or ends m d)
  line_has h = subst (λ l. EndAgrees r s.state s.places m l) line h

module _ {S : Type 0} (meaning : S → Meaning) where
  module _ (s : Standing) (threads : List S) (queue : WaitQueue) (begun : ℕ) (ends : List (Option Outcome)) (r : RecordParts)
      (e : Ends meaning s threads queue begun ends r.fuel) where
    module _ (m : ℕ) (report : ThreadReport) where
      abbrev At : Place Answer → Option Outcome → Type 0
      At place end = StandsAt meaning s.program s.worker place (s.state.threads m) (slice_get threads m) end (is_alive queue m)

      at : (place : Place Answer) (end : Option Outcome) → s.places m ≡ place → get_or ends m None ≡ end → At place end
      at place end is gone = subst (λ o. At place o) gone (subst (λ p. At p (get_or ends m None)) is (e.standing.each m))

      -- a thread that has left as the line says is one of the walk's, and stands so
      pub record IsSeen : Type 0 where
        pub thread : S
        pub at : slice_get threads m ≡ Some thread
        pub outcome : get_or ends m None ≡ Some report.outcome
        pub closed : has_open_question queue m ≡ false
        pub spent : (k : ℕ) → ((t : Running) → (meaning thread).stands t → k + left_of t ≡ (meaning thread).fuel) → k ≡ report.spent

      pub seen : HasLeft r s.state s.places m report → IsSeen
      seen h = by (get_or ends m None) refl
        where
          by : (o : Option Outcome) → get_or ends m None ≡ o → IsSeen
          by None is = absurd (gone_here (s.state.threads m) report.outcome h.0 h.1 (at Free None h.3 is).0.here)
          by (Some o) is =
              let a : At Free (Some o) = at Free (Some o) h.3 is in
              let same = same_left o report.outcome a.0 h.0 (sym a.1 ∙ h.1) in
              record {
                thread = a.2.thread;
                at = a.2.at;
                outcome = is ∙ ap (λ z. Some z) same.0;
                closed = free_closed queue m (sym (e.standing.places m) ∙ h.3);
                spent = λ k spends.
                    let all = spends a.2.last a.2.standing in
                    omega (arith, all, a.2.same, (e.standing.alike m a.2.thread a.2.at).1, e.budget, h.2, same.1);
              }

      -- and who stands so has left as the line says
      pub left : (x : S) → slice_get threads m ≡ Some x → get_or ends m None ≡ Some report.outcome → has_open_question queue m ≡ false
          → ((t : Running) → (meaning x).stands t → report.spent + left_of t ≡ (meaning x).fuel) → HasLeft r s.state s.places m report
      left x is gone closed spends =
          elim (closed_place queue m closed) [
            | inl unstarted ↦ absurd (at Unstarted (Some report.outcome) (e.standing.places m ∙ unstarted) gone)
            | inr free ↦ (
                let a : At Free (Some report.outcome) = at Free (Some report.outcome) (e.standing.places m ∙ free) gone in
                let same : a.2.thread ≡ x = cc (is, a.2.at) in
                let all : report.spent + left_of a.2.last ≡ (meaning x).fuel = spends a.2.last (subst (λ y. (meaning y).stands a.2.last) same a.2.standing) in
                (a.0, a.1, omega (arith, all, a.2.same, (e.standing.alike m x is).1, e.budget), e.standing.places m ∙ free)
                )
          ]

    -- the pages line
    module _ (held : ℕ) (holds : held ≡ pages s.memory) where
      last_line : slice_get r.ends (length r.ends) ≡ None
      last_line = slice_get_past r.ends (length r.ends) (omega arith)

      memory_pages : pages s.state.shared.memory ≡ held
      memory_pages = ap (λ (x : Shared). pages x.memory) e.standing.shared ∙ sym holds

      pub pages_agree : held ≡ r.pages → begun ≤ length r.ends → LineAgrees r s.state s.places (length r.ends)
      pages_agree is enough =
          subst (λ l. EndAgrees r s.state s.places (length r.ends) l) (sym last_line) (
            memory_pages ∙ is,
            λ k past. let beyond : next_id queue ≤ k = omega (arith, e.standing.started, enough, past) in e.standing.places k ∙ place_unstarted queue k beyond,
          )

      pub pages_held : LineAgrees r s.state s.places (length r.ends) → held ≡ r.pages
      pages_held line = let l = subst (λ l. EndAgrees r s.state s.places (length r.ends) l) last_line line in sym memory_pages ∙ l.0

      pub all_reported : LineAgrees r s.state s.places (length r.ends) → begun ≤ length r.ends
      all_reported line =
          let l = subst (λ l. EndAgrees r s.state s.places (length r.ends) l) last_line line in
          elim (cases_lt (length r.ends) (next_id queue)) [
            | inl there ↦ absurd (started_place queue (length r.ends) there (sym (e.standing.places (length r.ends)) ∙ l.1 (length r.ends) (omega arith)))
            | inr enough ↦ omega (arith, e.standing.started, enough)
          ]
