-- A program without imported functions runs one thread: nobody else enters anything.
use Rattle.std.proofs.Common.{◌≡◌, ◌≢◌, ℕ, zero, suc, ◌==◌, Bool, inl, inr, List, [], ◌∷◌, ◌++◌, Option, None, refl, sym, ◌∙◌, ap, subst, append-nil}
use Rattle.std.specs.Prelude.{slice_get}
use Rattle.std.proofs.lemmas.Bool.{cases_eq, cond_both, cond-true, eq-eqb}
use Rattle.types.specs.declared.event.Entry.{Entry}
use Rattle.types.specs.declared.event.Event.{Event}
use Rattle.types.specs.declared.event.Answer.{Answer}
use Rattle.types.specs.declared.event.Reply.{Reply}
use Rattle.types.specs.declared.event.Reply.TheVariants as replies
use Rattle.types.specs.declared.outcome.Outcome.{Outcome}
use Rattle.shared_memory.specs.Memory.{Memory}
use Rattle.shared_memory.specs.Access.{HasReached}
use Rattle.shared_memory.specs.WaitQueue.{WaitQueue}
use Rattle.shared_memory.specs.History.{entries_of, queue_after}
use Rattle.schedule.specs.System.{Step, Step.Own, Step.Lost, Step.Full, Step.Acts}
use Rattle.schedule.specs.Machine.{Thread.Runs}
use Rattle.interp_machine.specs.Program.{Program}
use Rattle.schedule_threads.specs.Seeing.{SeesAll, entered}
use Rattle.schedule_runs.specs.Runs.{Start, begins_in, if_spawned, HasRun, RanTogether}
use Rattle.schedule_runs.proofs.Order.{sees_more}
use Rattle.spawn_host_workers.proofs.Unspawned.{SpawnsNone, none_in_both, none_of_others, run_spawns_none, none_spawned}
use Rattle.report_first.proofs.Machine.{Alone, RunsOn}

-- ---- where nobody is spawned all entries are of thread 0

abbrev pub AllFirst : List Entry → Type 0
AllFirst [] = Unit {0}
AllFirst (e ∷ xs) = (e.thread ≡ 0) × AllFirst xs

first_front : (xs ys : List Entry) → AllFirst (xs ++ ys) → AllFirst xs
first_front [] ys h = tt
first_front (e ∷ xs) ys h = (h.0, first_front xs ys h.1)

first_back : (xs ys : List Entry) → AllFirst (xs ++ ys) → AllFirst ys
first_back [] ys h = h
first_back (e ∷ xs) ys h = first_back xs ys h.1

own_first : (e : Entry) (xs : List Entry) → entries_of e.thread (e ∷ xs) ≡ [] → ⊥
own_first e xs none =
    let own = cond-true (e.thread == e.thread) (e ∷ entries_of e.thread xs) (entries_of e.thread xs) (eq-eqb e.thread e.thread refl) in
    absurd (cc (own, none))

tail_none : (n : ℕ) (e : Entry) (xs : List Entry) → entries_of n (e ∷ xs) ≡ [] → entries_of n xs ≡ []
tail_none n e xs none =
    cond_both (e.thread == n) (e ∷ entries_of n xs) (entries_of n xs) (λ w. w ≡ [] → entries_of n xs ≡ []) (λ is bad. absurd (cc bad)) (λ isnt h. h) none

all_first : (xs : List Entry) → ((n : ℕ) → n ≢ 0 → entries_of n xs ≡ []) → AllFirst xs
all_first [] h = tt
all_first (e ∷ xs) h =
    elim (cases_eq e.thread 0) [
      | inl is ↦ (is, all_first xs (λ n apart. tail_none n e xs (h n apart)))
      | inr apart ↦ absurd (own_first e xs (h e.thread apart))
    ]

first_nil : (xs : List Entry) → AllFirst xs → entries_of 0 xs ≡ [] → xs ≡ []
first_nil [] all none = refl
first_nil (e ∷ xs) all none = absurd (own_first e xs (subst (λ n. entries_of n (e ∷ xs) ≡ []) (sym all.0) none))

not_nil : (xs ys : List Entry) (e : Entry) → [] ≡ xs ++ e ∷ ys → ⊥
not_nil [] ys e is = absurd (cc is)
not_nil (x ∷ xs) ys e is = absurd (cc is)

-- ---- what it sees is what it enters

module _ (loses : Bool) (opening : Memory) (limit : Option ℕ) (last : List Entry) (all : AllFirst last) where
  after_first : (before : List Entry) (steps : List (Step Event Reply Answer)) → SeesAll loses opening limit 0 before steps last → AllFirst before
  after_first before steps sees =
      let more = sees_more loses opening limit 0 before last steps sees in
      first_front before more.0 (subst AllFirst more.1 all)

  none_behind : (before others after : List Entry) → AllFirst after → after ≡ before ++ others → entries_of 0 others ≡ [] → others ≡ []
  none_behind before others after first list apart = first_nil others (first_back before others (subst AllFirst list first)) apart

  alone_by : (before : List Entry) (steps : List (Step Event Reply Answer)) → SeesAll loses opening limit 0 before steps last → Alone limit before steps last
  alone_by before [] sees = sees
  alone_by before (Own ∷ steps) sees = subst (λ w. Alone limit w steps last) sees.1 (alone_by sees.0 steps sees.2)
  alone_by before (Lost e ∷ steps) sees =
      let did = sees.1 in
      let none = none_behind before did.others sees.0 (after_first sees.0 steps sees.2) did.list did.apart in
      absurd (not_nil did.cause.front did.cause.back did.cause.changing (sym none ∙ did.cause.among))
  alone_by before (Full e ∷ steps) sees =
      let did = sees.1 in
      let none = none_behind before did.others sees.0 (after_first sees.0 steps sees.2) did.list did.apart in
      let same : sees.0 ≡ before = did.list ∙ (ap (λ w. before ++ w) none ∙ append-nil before) in
      (subst (HasReached limit) same did.reached, subst (λ w. Alone limit w steps last) same (alone_by sees.0 steps sees.2))
  alone_by before (Acts act ∷ steps) sees =
      let did = sees.1 in
      let first : AllFirst sees.0 = after_first sees.0 steps sees.2 in
      let so_far : AllFirst did.so_far = first_front did.so_far (entered 0 act ∷ did.behind) (subst AllFirst did.list first) in
      let none : did.others ≡ [] = none_behind before did.others did.so_far so_far did.gains did.apart in
      let back : AllFirst (entered 0 act ∷ did.behind) = first_back did.so_far (entered 0 act ∷ did.behind) (subst AllFirst did.list first) in
      let quiet : did.behind ≡ [] = first_nil did.behind back.1 did.apart_behind in
      let same : did.so_far ≡ before = did.gains ∙ (ap (λ w. before ++ w) none ∙ append-nil before) in
      let list : sees.0 ≡ before ++ entered 0 act ∷ [] =
      did.list ∙ (ap (λ w. w ++ entered 0 act ∷ did.behind) same ∙ ap (λ w. before ++ entered 0 act ∷ w) quiet) in
      subst (λ w. Alone limit w steps last) list (alone_by sees.0 steps sees.2)

-- ---- from threads that ran together

module _ (b : Start) (loses : Bool) (limit : Option ℕ) (H : List Entry) (outcomes : ℕ → Outcome) (lefts : ℕ → ℕ)
    (together : RanTogether b loses limit H outcomes lefts) (alone : Program.imported b.program ≡ 0) where
  first_run : HasRun b loses limit H 0 b.main (outcomes 0) (lefts 0)
  first_run = together.threads 0 b.main refl

  spawns_none : SpawnsNone 0 H
  spawns_none =
      let r = first_run in
      subst (λ w. SpawnsNone 0 w) (sym r.history) (none_in_both 0 r.last r.unseen
      (run_spawns_none b.program alone loses b.opening limit 0 b.spawned b.fuel r.run.steps (Runs b.main b.fuel) _ r.before r.last
      (r.run.run b.spawned b.fuel) r.run.sees (none_of_others 0 r.before r.fresh)) (none_of_others 0 r.unseen r.apart))

  pub unspawned : WaitQueue.args (queue_after H) ≡ []
  unspawned = none_spawned H together.queue spawns_none

  begins_nowhere : (n : ℕ) → n ≢ 0 → begins_in b H n ≡ None
  begins_nowhere zero apart = absurd (apart refl)
  begins_nowhere (suc k) apart = ap (λ args. if_spawned (b.spawned (suc k)) (slice_get args k)) unspawned

  pub all_are_first : AllFirst H
  all_are_first = all_first H (λ n apart. together.entries n (begins_nowhere n apart))

  pub runs_alone : RunsOn b.program b.spawned b.fuel limit (outcomes 0) (lefts 0) (Runs b.main b.fuel) [] H
  runs_alone =
      let r = first_run in
      let all : AllFirst (r.last ++ r.unseen) = subst AllFirst r.history all_are_first in
      let of_last : AllFirst r.last = first_front r.last r.unseen all in
      let unseen : r.unseen ≡ [] = first_nil r.unseen (first_back r.last r.unseen all) r.apart in
      let whole : r.last ≡ H = sym (r.history ∙ (ap (λ w. r.last ++ w) unseen ∙ append-nil r.last)) in
      let before : r.before ≡ [] = first_nil r.before (after_first loses b.opening limit r.last of_last r.before r.run.steps r.run.sees) r.fresh in
      let sees : Alone limit r.before r.run.steps r.last = alone_by loses b.opening limit r.last of_last r.before r.run.steps r.run.sees in
      record {
        steps = r.run.steps;
        run = r.run.run b.spawned b.fuel;
        alone = subst (λ w. Alone limit w r.run.steps H) before (subst (λ w. Alone limit r.before r.run.steps w) whole sees);
      }
