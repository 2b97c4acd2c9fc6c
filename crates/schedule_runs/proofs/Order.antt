-- No thread enters anything before it is started.
use Rattle.std.proofs.Common.{◌≡◌, ℕ, ◌<◌, ◌≤◌, ◌==◌, Bool, List, [], ◌∷◌, ◌++◌, Option, Some, None, refl, sym, ◌∙◌}
use Rattle.std.proofs.Common.{ap, subst, inl, inr, arith, append_assoc, append-nil}
use Rattle.std.proofs.lemmas.Bool.{cond-true, eq-eqb}
use Rattle.std.proofs.lemmas.List.{append_cancel_left}
use mathlib.Core.List.{IsPrefix}
use Rattle.types.specs.declared.event.Event.{Event}
use Rattle.types.specs.declared.event.Answer.{Answer}
use Rattle.types.specs.declared.event.Reply.{Reply}
use Rattle.types.specs.declared.event.Entry as entries
use Rattle.types.specs.declared.outcome.Outcome.{Outcome}
use Rattle.types.specs.declared.limits.TheConstants.{MOST_THREADS}
use Rattle.shared_memory.specs.Memory.{Memory}
use Rattle.shared_memory.specs.WaitQueue.{WaitQueue, first_queue, next_id}
use Rattle.shared_memory.specs.History.{entries_of, queue_from, queue_after}
use Rattle.shared_memory.proofs.Histories.{entries_of-append, queue_from-append, prefixes_nest}
use Rattle.schedule.specs.System.{Step, Step.Own, Step.Lost, Step.Full, Step.Acts}
use Rattle.interp_machine.specs.State.{State}
use Rattle.schedule_threads.specs.Seeing.{RunsToEnd, SeesAll, entered}
use Rattle.schedule_runs.specs.Runs.{Start, begins_in, HasRun, AllHaveRun, AreOfThreads}
use Rattle.schedule_runs.proofs.Beginning.{begins_known}
use Rattle.schedule_runs.proofs.Idle.{next_along}
use Rattle.schedule_runs.proofs.Linked.{AreStartedFrom, queue_after-all}

-- a list that is seen goes on

pub sees_more : (loses : Bool) (opening : Memory) (limit : Option ℕ) (n : ℕ) (before last : List entries.Entry)
    (steps : List (Step Event Reply Answer)) → SeesAll loses opening limit n before steps last
    → (more : List entries.Entry) × (last ≡ before ++ more)
sees_more loses opening limit n before last [] sees = ([], sym (append-nil before ∙ sees))
sees_more loses opening limit n before last (Own ∷ steps) sees =
    let rest = sees_more loses opening limit n sees.0 last steps sees.2 in
    (rest.0, rest.1 ∙ ap (λ w. w ++ rest.0) sees.1)
sees_more loses opening limit n before last (Lost event ∷ steps) sees =
    let rest = sees_more loses opening limit n sees.0 last steps sees.2 in
    (sees.1.others ++ rest.0, rest.1 ∙ (ap (λ w. w ++ rest.0) sees.1.list ∙ append_assoc before sees.1.others rest.0))
sees_more loses opening limit n before last (Full event ∷ steps) sees =
    let rest = sees_more loses opening limit n sees.0 last steps sees.2 in
    (sees.1.others ++ rest.0, rest.1 ∙ (ap (λ w. w ++ rest.0) sees.1.list ∙ append_assoc before sees.1.others rest.0))
sees_more loses opening limit n before last (Acts act ∷ steps) sees =
    let rest = sees_more loses opening limit n sees.0 last steps sees.2 in
    let did = sees.1 in
    let own : List entries.Entry = entered n act ∷ did.behind in
    let list : sees.0 ≡ before ++ (did.others ++ own) = did.list ∙ (ap (λ w. w ++ own) did.gains ∙ append_assoc before did.others own) in
    ((did.others ++ own) ++ rest.0, rest.1 ∙ (ap (λ w. w ++ rest.0) list ∙ append_assoc before (did.others ++ own) rest.0))

-- the history goes on from where a thread began
pub from_before : (b : Start) (loses : Bool) (limit : Option ℕ) (H : List entries.Entry) (n : ℕ) (c : State)
    (outcome : Outcome) (left : ℕ) → (r : HasRun b loses limit H n c outcome left)
    → (more : List entries.Entry) × (H ≡ r.before ++ more)
from_before b loses limit H n c outcome left r =
    let run : RunsToEnd b.program loses b.opening limit n _ outcome left r.before r.last = r.run in
    let more : (more : List entries.Entry) × (r.last ≡ r.before ++ more) = sees_more loses b.opening limit n r.before r.last run.steps run.sees in
    (more.0 ++ r.unseen, r.history ∙ (ap (λ w. w ++ r.unseen) more.1 ∙ append_assoc r.before more.0 r.unseen))

-- a thread's entry isn't among none of its
own_entry : (e : entries.Entry) (ys : List entries.Entry) → entries_of e.thread (e ∷ ys) ≡ e ∷ entries_of e.thread ys
own_entry e ys = cond-true (e.thread == e.thread) (e ∷ entries_of e.thread ys) (entries_of e.thread ys) (eq-eqb e.thread e.thread refl)

own_among : (xs ys : List entries.Entry) (e : entries.Entry) → entries_of e.thread (xs ++ e ∷ ys) ≡ [] → ⊥
own_among xs ys e none = some (entries_of e.thread xs)
    (sym (entries_of-append e.thread xs (e ∷ ys) ∙ ap (λ w. entries_of e.thread xs ++ w) (own_entry e ys)) ∙ none)
  where
    some : (zs : List entries.Entry) → zs ++ e ∷ entries_of e.thread ys ≡ [] → ⊥
    some [] bad = absurd (cc bad)
    some (z ∷ zs) bad = absurd (cc bad)

-- so a list before a thread's entry has the one in which it began
began_before : (before xs ys : List entries.Entry) (e : entries.Entry) → entries_of e.thread before ≡ [] → IsPrefix before (xs ++ e ∷ ys) → IsPrefix before xs
began_before before xs ys e fresh begins =
    elim (prefixes_nest before xs (xs ++ e ∷ ys) begins (e ∷ ys, refl)) [
      | inl p ↦ p
      | inr p ↦ shorter p.0 p.1
    ]
  where
    shorter : (more : List entries.Entry) → xs ++ more ≡ before → IsPrefix before xs
    shorter [] is = ([], append-nil before ∙ (sym is ∙ append-nil xs))
    shorter (z ∷ zs) is =
        let all : xs ++ (z ∷ (zs ++ begins.0)) ≡ xs ++ e ∷ ys = sym (append_assoc xs (z ∷ zs) begins.0) ∙ (ap (λ w. w ++ begins.0) is ∙ begins.1) in
        let rest : z ∷ (zs ++ begins.0) ≡ e ∷ ys = append_cancel_left xs (z ∷ (zs ++ begins.0)) (e ∷ ys) all in
        let same : z ≡ e = cc rest in
        let none : entries_of e.thread (xs ++ e ∷ zs) ≡ [] = ap (λ w. entries_of e.thread (xs ++ w ∷ zs)) (sym same) ∙ (ap (entries_of e.thread) is ∙ fresh) in
        absurd (own_among xs zs e none)

next_after : (xs ys : List entries.Entry) → next_id (queue_after xs) ≤ next_id (queue_after (xs ++ ys))
next_after xs ys =
    let whole : queue_after (xs ++ ys) ≡ queue_from (queue_after xs) ys =
    queue_after-all (xs ++ ys) ∙ (queue_from-append (first_queue MOST_THREADS) xs ys ∙ ap (λ (q : WaitQueue). queue_from q ys) (sym (queue_after-all xs))) in
    subst (λ (q : WaitQueue). next_id (queue_after xs) ≤ next_id q) (sym whole) (next_along (queue_after xs) ys)

module _ (b : Start) (loses : Bool) (limit : Option ℕ) (H : List entries.Entry) (outcomes : ℕ → Outcome) (lefts : ℕ → ℕ)
    (ran : AllHaveRun b loses limit H outcomes lefts) (of_threads : AreOfThreads b H) where
  pub entry_started : (xs ys : List entries.Entry) (e : entries.Entry) → H ≡ xs ++ e ∷ ys → e.thread < next_id (queue_after xs)
  entry_started xs ys e is = by_beginning (begins_in b H e.thread) refl
    where
      by_beginning : (o : Option State) → begins_in b H e.thread ≡ o → e.thread < next_id (queue_after xs)
      by_beginning None none = absurd (own_among xs ys e (ap (entries_of e.thread) (sym is) ∙ of_threads e.thread none))
      by_beginning (Some c) begun =
          let r : HasRun b loses limit H e.thread c (outcomes e.thread) (lefts e.thread) = ran e.thread c begun in
          let on : (more : List entries.Entry) × (H ≡ r.before ++ more) = from_before b loses limit H e.thread c (outcomes e.thread) (lefts e.thread) r in
          let p : IsPrefix r.before xs = began_before r.before xs ys e r.fresh (on.0, sym on.1 ∙ is) in
          let known : e.thread < next_id (queue_after r.before) = begins_known b r.before e.thread c r.begun in
          let later : next_id (queue_after r.before) ≤ next_id (queue_after xs) =
          subst (λ (w : List entries.Entry). next_id (queue_after r.before) ≤ next_id (queue_after w)) p.1
          (next_after r.before p.0) in
          omega arith

  started_rest : (xs ys : List entries.Entry) → H ≡ xs ++ ys → AreStartedFrom (queue_from (first_queue MOST_THREADS) xs) ys
  started_rest xs [] is = tt
  started_rest xs (e ∷ ys) is = (
    subst (λ (q : WaitQueue). e.thread < next_id q) (queue_after-all xs) (entry_started xs ys e is),
    subst (λ (q : WaitQueue). AreStartedFrom q ys) (queue_from-append (first_queue MOST_THREADS) xs (e ∷ []))
        (started_rest (xs ++ e ∷ []) ys (is ∙ sym (append_assoc xs (e ∷ []) ys))),
  )

  pub all_started : AreStartedFrom (first_queue MOST_THREADS) H
  all_started = started_rest [] H refl
