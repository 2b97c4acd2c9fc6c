-- A walk along a log, from its beginning.
use Rattle.std.proofs.Common.{◌≡◌, ℕ, suc, ◌+◌, ◌<◌, ◌≤◌, List, [], ◌∷◌, ◌++◌, length, take, drop, Option, refl, sym, ◌∙◌, ap, subst, ◌⊎◌, arith, get_or}
use Rattle.std.proofs.lemmas.List.{length-take-le, take_more, drop_more, take-append-drop}
use Rattle.std.proofs.Math.Seq.{take-length}
use Rattle.types.specs.declared.event.Answer.{Answer}
use Rattle.types.specs.declared.event.Entry as entries
use Rattle.types.specs.declared.outcome.Outcome.{Outcome}
use Rattle.types.specs.declared.limits.TheConstants.{MOST_THREADS}
use Rattle.shared_memory.specs.Memory.{Memory}
use Rattle.shared_memory.specs.WaitQueue.{WaitQueue}
use Rattle.schedule.specs.System.{Want.Gone, Act, Act.Made, Act.Heard, Entry, System, State, put}
use Rattle.schedule.specs.Histories.{Place, Place.Unstarted, Place.Free, IsClosed, next_places}
use Rattle.schedule.specs.Machine.{Thread.Absent, Thread.Runs}
use Rattle.schedule.specs.Tries.{TryRules}
use Rattle.schedule.proofs.Basics.{at_each, put-same, put-other}
use Rattle.interp_machine.specs.State.{At}
use Rattle.schedule_threads.specs.Shared.{act_of}
use Rattle.schedule_runs.specs.Runs.{system_of, state_for, first_places, as_acts, acted}
use Rattle.interp_trait.specs.Turns.{wants_of, Meaning}
use Rattle.replay_rules.specs.Walk.{Walks, WalksOn, CanTake, after_made}
use Rattle.replay_rules.specs.Logs as logs
use Rattle.replay_rules.specs.Theorems.{IsBeginning}
use Rattle.replay_rules.proofs.Walking.{stops_are_misfits}
use Rattle.replay_walk.specs.Walked.{Run, start, rules_of, standing_in, HasTaken, HasWalked, IsFirstMisfit, IsRefused}
use Rattle.replay_walk.proofs.Refused.{laws_at}

-- one more entry
module _ {X T E V A W : Type 0} (s : System X T E V A) (rules : TryRules X E W) where
  last_step : (w z z' : State X T) (q p p' : ℕ → Place A) (count more : ℕ) (h : Entry E V A) → w ≡ z → q ≡ p → more ≡ count
      → WalksOn s rules z p more h.thread h.act (λ w' q'. (w' ≡ z') × (q' ≡ p')) → WalksOn s rules w q count h.thread h.act (λ w' q'. (w' ≡ z') × (q' ≡ p'))
  last_step w z z' q p p' count more h same_state same_places same_count on =
      subst (λ x. WalksOn s rules x q count h.thread h.act (λ w' q'. (w' ≡ z') × (q' ≡ p'))) (sym same_state)
      (subst (λ y. WalksOn s rules z y count h.thread h.act (λ w' q'. (w' ≡ z') × (q' ≡ p'))) (sym same_places)
      (subst (λ c. WalksOn s rules z p c h.thread h.act (λ w' q'. (w' ≡ z') × (q' ≡ p'))) same_count on))

  module _ (z z' : State X T) (p p' : ℕ → Place A) (h : Entry E V A) where
    on_by : (w : State X T) (q : ℕ → Place A) (count n : ℕ) (act : Act E V A) (on on' : State X T → (ℕ → Place A) → Type 0)
        → ((w : State X T) (q : ℕ → Place A) → on w q → on' w q) → WalksOn s rules w q count n act on → WalksOn s rules w q count n act on'
    on_by w q count n (Made e v) on on' goes walks =
        (walks.0, walks.1, goes (after_made s w n e walks.0) (next_places s w.shared q n (Made e v)) walks.2)
    on_by w q count n (Heard a) on on' goes walks = (walks.0, goes w (put q n Free) walks.1)

    pub walks_more : (log : List (Entry E V A)) (w : State X T) (q : ℕ → Place A) (count : ℕ) → Walks s rules log w q count z p
        → WalksOn s rules z p (count + length log) h.thread h.act (λ w' q'. (w' ≡ z') × (q' ≡ p')) → Walks s rules (log ++ h ∷ []) w q count z' p'
    walks_more [] w q count walks on = let same : count + 0 ≡ count = omega arith in last_step w z z' q p p' count (count + 0) h walks.0 walks.1 same on
    walks_more (g ∷ log) w q count walks on =
        let same : count + suc (length log) ≡ suc count + length log = omega arith in
        on_by w q count g.thread g.act (λ w' q'. Walks s rules log w' q' (suc count) z p) (λ w' q'. Walks s rules (log ++ h ∷ []) w' q' (suc count) z' p')
        (λ w' q' more. walks_more log w' q' (suc count) more
        (subst (λ c. WalksOn s rules z p c h.thread h.act (λ w'' q''. (w'' ≡ z') × (q'' ≡ p'))) same on)) walks

-- logs as acts
as_acts-append : (xs ys : List entries.Entry) → as_acts (xs ++ ys) ≡ as_acts xs ++ as_acts ys
as_acts-append [] ys = refl
as_acts-append (x ∷ xs) ys = ap (λ z. acted x ∷ z) (as_acts-append xs ys)

as_acts-length : (xs : List entries.Entry) → length (as_acts xs) ≡ length xs
as_acts-length [] = refl
as_acts-length (x ∷ xs) = ap (λ k. suc k) (as_acts-length xs)

-- the beginning
not_unstarted : ◌≡◌ {A = Place Answer} Free Unstarted → ⊥
not_unstarted h = cc h

beginning : (r : Run) → IsBeginning (system_of (start r)) (state_for r.threads (start r)) first_places
beginning r = record {
  closed = at_each 0 (λ m. IsClosed (first_places m)) (subst IsClosed (sym (put-same (λ (m : ℕ). Unstarted) 0 Free)) tt)
      (λ m h. subst IsClosed (sym (put-other (λ (m : ℕ). Unstarted) 0 Free m h)) tt);
  idle = at_each 0 (λ m. first_places m ≡ Unstarted → wants_of r.program ((state_for r.threads (start r)).threads m) ≡ Gone)
      (λ is. absurd (not_unstarted (sym (put-same {B = Place Answer} (λ (m : ℕ). Unstarted) 0 Free) ∙ is)))
      (λ m h is. ap (wants_of r.program) (put-other (λ (m : ℕ). Absent) 0 (Runs (At r.main) r.budget) m h));
}

module _ {S : Type 0} (meaning : S → Meaning) where
  module _ (r : Run) (log : List entries.Entry) (threads : List S) (memory : Memory) (queue : WaitQueue) (begun : ℕ) (ends : List (Option Outcome))
      (walked : HasWalked meaning r log threads memory queue begun ends) (count : ℕ) (at : length log ≡ count) (e : entries.Entry) where
    -- the walk goes on
    pub walked_on : (threads' : List S) (memory' : Memory) (queue' : WaitQueue) (begun' : ℕ) (ends' : List (Option Outcome)) → length threads' ≡ length threads
        → HasTaken meaning (standing_in r memory walked.state walked.places) r.limit count e.thread (act_of e) threads' memory' queue' begun' ends'
        → HasWalked meaning r (log ++ e ∷ []) threads' memory' queue' begun' ends'
    walked_on threads' memory' queue' begun' ends' same_count taken =
        let same : count ≡ 0 + length (as_acts log) = omega (arith, as_acts-length log, at) in
        record {
          count = subst (λ (k : ℕ). (k ≡ MOST_THREADS) ⊎ ((r.program.imported ≡ 0) × (k ≡ 1))) (sym same_count) walked.count;
          state = taken.state;
          places = taken.places;
          walks =
              subst (λ l. Walks (system_of (start r))
              (rules_of r.limit) l (state_for r.threads (start r)) first_places 0 taken.state taken.places)
              (sym (as_acts-append log (e ∷ [])))
              (walks_more (system_of (start r)) (rules_of r.limit) walked.state taken.state walked.places taken.places
              (acted e) (as_acts log) (state_for r.threads (start r)) first_places 0 walked.walks
              (subst (λ c. WalksOn (system_of (start r))
              (rules_of r.limit) walked.state walked.places c e.thread (act_of e)
              (λ w q. (w ≡ taken.state) × (q ≡ taken.places))) same taken.walks));
          standing = taken.standing;
        }

    -- or it comes to the first misfit
    pub stops_at : (whole rest : List entries.Entry) → whole ≡ log ++ e ∷ rest
        → IsRefused (standing_in r memory walked.state walked.places) r.limit count e.thread (act_of e)
        → IsFirstMisfit r whole count
    stops_at whole rest is refused =
        let same : length (as_acts log) ≡ count = as_acts-length log ∙ at in
        let stops = stops_are_misfits _ _ _ _ _ _ (system_of (start r)) (rules_of r.limit)
        (laws_at (standing_in r memory walked.state walked.places)) (state_for r.threads (start r)) first_places
        (beginning r)
        (as_acts log) (as_acts rest) (acted e) walked.state walked.places walked.walks
        (subst (λ c. CanTake (system_of (start r)) (rules_of r.limit) walked.state walked.places c e.thread (act_of e) → ⊥) (sym same) refused) in
        subst (λ l. logs.IsFirstMisfit (system_of (start r)) (rules_of r.limit)
        (state_for r.threads (start r)) first_places l count) (sym (ap as_acts is ∙ as_acts-append log (e ∷ rest)))
        (subst (λ c. logs.IsFirstMisfit (system_of (start r)) (rules_of r.limit)
        (state_for r.threads (start r)) first_places (as_acts log ++ acted e ∷ as_acts rest) c) same stops)

  -- the same along a log, behind its first k entries
  module _ (r : Run) (log : List entries.Entry) (threads : List S) (memory : Memory) (queue : WaitQueue) (begun : ℕ)
      (ends : List (Option Outcome)) (k limit : ℕ) (same : r.limit ≡ limit)
      (walked : HasWalked meaning r (take k log) threads memory queue begun ends) where
    pub goes_in : (d : entries.Entry) → k < length log
        → (threads' : List S) (memory' : Memory) (queue' : WaitQueue) (begun' : ℕ) (ends' : List (Option Outcome))
        → length threads' ≡ length threads
        → HasTaken meaning (standing_in r memory walked.state walked.places) limit k (get_or log k d).thread
        (act_of (get_or log k d)) threads' memory' queue' begun' ends'
        → HasWalked meaning r (take (k + 1) log) threads' memory' queue' begun' ends'
    goes_in d within threads' memory' queue' begun' ends' count taken =
        let below : k ≤ length log = omega arith in
        subst (λ l. HasWalked meaning r l threads' memory' queue' begun' ends') (sym (take_more log k d within))
        (walked_on r (take k log) threads memory queue begun ends walked k (length-take-le k log below)
        (get_or log k d) threads' memory' queue' begun' ends' count
        (subst (λ (l : ℕ). HasTaken meaning (standing_in r memory walked.state walked.places) l k (get_or log k d).thread
        (act_of (get_or log k d)) threads' memory' queue' begun' ends')
        (sym same) taken))

    pub stops_in : (d : entries.Entry) → k < length log
        → IsRefused (standing_in r memory walked.state walked.places) limit k (get_or log k d).thread (act_of (get_or log k d)) → IsFirstMisfit r log k
    stops_in d within refused =
        let below : k ≤ length log = omega arith in
        stops_at r (take k log) threads memory queue begun ends walked k (length-take-le k log below) (get_or log k d) log (drop (k + 1) log)
        (sym (take-append-drop k log) ∙ ap (λ l. take k log ++ l) (drop_more log k d within))
        (subst (λ (l : ℕ). IsRefused (standing_in r memory walked.state walked.places) l k (get_or log k d).thread
        (act_of (get_or log k d))) (sym same) refused)

    pub ends_in : k ≤ length log → length log ≤ k → HasWalked meaning r log threads memory queue begun ends
    ends_in below past =
        let all : k ≡ length log = omega arith in
        subst (λ l. HasWalked meaning r l threads memory queue begun ends) (ap (λ (j : ℕ). take j log) all ∙ take-length log) walked
