-- From the ends of a run's threads to one history, whether others than the first can be spawned or not.
use Rattle.std.proofs.Common.{◌≡◌, ◌⊎◌, inl, inr, ℕ, zero, suc, ◌<◌, Bool, List, [], ◌∷◌, ◌++◌, length, map, Option, Some, None}
use Rattle.std.proofs.Common.{refl, sym, ◌∙◌, ap, subst, arith, get_or, slice_get}
use Rattle.types.specs.declared.outcome.ThreadReport.{ThreadReport}
use Rattle.types.specs.declared.limits.TheConstants.{MOST_SPAWNED, DESK_NAME, SEATS}
use Rattle.shared_memory.specs.History.{entries_of}
use Rattle.shared_memory.specs.Legal.{IsQueueLegal}
use Rattle.interp_machine.specs.Program.{Program}
use Rattle.interp_trait.specs.Turns.{Running, Meaning, IsHere}
use Rattle.interp_trait.specs.declared.gate.Gate.{Ghosts}
use Rattle.spawn_host_workers.specs.declared.worker.WorkerEnd.{WorkerEnd}
use Rattle.spawn_host_workers.specs.OverMemory.{OverMemory}
use Rattle.spawn_host_workers.specs.Level.{Level}
use Rattle.spawn_host_workers.specs.Pairs.{AllThree}
use Rattle.spawn_host_workers.specs.Works.{EndsWork}
use Rattle.spawn_host_workers.specs.Crew.{WorksFirst, EndsFirst, IsCrew, IsAlone, idle_end, idle_ends, CountsSpawnable}
use Rattle.spawn_host_workers.specs.Gated.{Gathers, IsGated, Passage, PassesFirst, PassesOther, PassesSpawned, passage_of, reports_of}
use Rattle.spawn_host_workers.specs.Composed.{with_report, reported, seats_of, IsComposed}
use Rattle.spawn_host_workers.proofs.OneList.{Unpacked, composed, crew_length, first_name, work_name}
use Rattle.spawn_host_workers.proofs.Unspawned.{composed_alone}

-- workers whose threads can't be spawned

idle_reported : {S G : Type 0} (gate : G) (seats : List S) → reported (idle_ends gate seats) ≡ []
idle_reported gate [] = refl
idle_reported gate (s ∷ seats) = idle_reported gate seats

idle_seats : {S G : Type 0} (gate : G) (seats : List S) → seats_of (idle_ends gate seats) ≡ seats
idle_seats gate [] = refl
idle_seats gate (s ∷ seats) = ap (λ l. s ∷ l) (idle_seats gate seats)

idle_length : {S G : Type 0} (gate : G) (seats : List S) → length (idle_ends gate seats) ≡ length seats
idle_length gate [] = refl
idle_length gate (s ∷ seats) = ap suc (idle_length gate seats)

-- how many ends there are
pub ends_length : {S T G : Type 0} (mem : OverMemory S) (gate : Ghosts G) (old : G) (meaning : T → Meaning) (first : T) (seat : S) (spawned : List T)
    (work : List S) (ends : List (WorkerEnd S G))
    → IsCrew mem gate old meaning first seat spawned work ends ⊎ ((spawned ≡ []) × IsAlone mem gate old meaning first seat work ends)
    → length ends ≡ suc (length work)
ends_length mem gate old meaning first seat spawned work ends (inl crew) = crew_length mem gate old meaning first seat spawned work ends crew
ends_length mem gate old meaning first seat spawned work ends (inr alone) = ap length alone.1.parts ∙ ap suc (idle_length old work)

-- a program by which nobody can be spawned imports no function
imports_none : (m : Meaning) (count : ℕ) → count ≡ 0 → CountsSpawnable m count → Program.imported m.program ≡ 0
imports_none m count none (inl most) = absurd (omega (arith, none, most))
imports_none m count none (inr is) = is.1

module _
    {S T G : Type 0} (mem : OverMemory S) (gate : Ghosts G) (old : G) (right : S → Bool) (meaning : T → Meaning) (first : T) (spawned : List T)
    (here : (t : Running) × (meaning first).stands t × IsHere t)
    (seats0 : List S) (seat desk : S) (work : List S) (hub : S) (ends : List (WorkerEnd S G)) (threads : List ThreadReport) (all : List S)
    (parts : seats0 ≡ (seat ∷ work) ++ desk ∷ []) (len : length work ≡ MOST_SPAWNED)
    (names : (k : ℕ) (d : S) → k < SEATS → mem.name (get_or seats0 k d) ≡ k) (fresh : (k : ℕ) (d : S) → k < SEATS → mem.seen (get_or seats0 k d) ≡ [])
    (threads_are : threads ≡ reported ends) (hub' : S) (home' : List S)
    (all_are : all ≡ home' ++ hub' ∷ []) (level : Level mem.opening mem.name right mem.seen hub hub' (seats_of ends) home')
    (legal : IsQueueLegal (mem.seen hub)) (hub_name : mem.name hub ≡ DESK_NAME) (hub_silent : entries_of DESK_NAME (mem.seen hub) ≡ []) where
  alone_by : (o : Option ThreadReport) (seat' : S) → Program.imported (meaning first).program ≡ 0
      → mem.name seat' ≡ mem.name seat
      → WorksFirst mem.loses mem.opening mem.limit (mem.name seat) (meaning first) o (mem.seen seat) (mem.seen seat')
      → threads ≡ with_report o [] → seats_of ends ≡ seat' ∷ work → IsComposed mem meaning first [] threads all
  alone_by None seat' imports name_is works reports seats = absurd works
  alone_by (Some report) seat' imports name_is works reports seats =
      composed_alone mem right meaning first here imports seats0 seat desk work (record { parts = parts; len = len }) names fresh
      report seat' name_is works.ran hub hub' (seats_of ends) home' all seats all_are level legal hub_name hub_silent threads reports

  pub composed_any : CountsSpawnable (meaning first) (length spawned)
      → IsCrew mem gate old meaning first seat spawned work ends ⊎ ((spawned ≡ []) × IsAlone mem gate old meaning first seat work ends)
      → IsComposed mem meaning first spawned threads all
  composed_any count (inl crew) =
      composed mem gate old right meaning first spawned seats0 seat desk work hub ends threads all parts len names fresh crew threads_are
      hub' (seats_of ends) home' refl all_are level legal hub_name hub_silent
  composed_any count (inr h) =
      let alone = h.1 in
      subst (λ (l : List T). IsComposed mem meaning first l threads all) (sym h.0)
      (alone_by (WorkerEnd.report alone.head) (WorkerEnd.seat alone.head)
      (imports_none (meaning first) (length spawned) (ap length h.0) count) alone.ended.name_is alone.ended.works
      (threads_are ∙ (ap (λ (l : List (WorkerEnd S G)). reported l) alone.parts ∙ ap (λ l. with_report (WorkerEnd.report alone.head) l)
      (idle_reported old work)))
      (ap (λ (l : List (WorkerEnd S G)). seats_of l) alone.parts ∙ ap (λ l. WorkerEnd.seat alone.head ∷ l) (idle_seats old work)))

-- ---- What the gates come to

-- the reports are those of the passages
reports_are : {S G : Type 0} (ends : List (WorkerEnd S G)) → reported ends ≡ reports_of (map passage_of ends)
reports_are [] = refl
reports_are (e ∷ ends) = ap (with_report e.report) (reports_are ends)

module _ {S T G : Type 0} (mem : OverMemory S) (gate : Ghosts G) (old : G) (meaning : T → Meaning) where
  -- of those that could be spawned, whose seats have these names
  worked : (number : ℕ → ℕ) (spawned : List T) (work : List S) (others : List (WorkerEnd S G)) → AllThree (EndsWork mem gate old meaning) spawned work others
      → ((k : ℕ) (d : S) → k < length work → mem.name (get_or work k d) ≡ number k)
      → (k : ℕ) (x : Passage G) → slice_get (map passage_of others) k ≡ Some x → PassesOther gate meaning (number k) (slice_get spawned k) x old
  worked number [] [] [] all names k x is = absurd (cc is)
  worked number [] [] (e ∷ others) all names k x is = absurd all
  worked number [] (s ∷ work) others all names k x is = absurd all
  worked number (t ∷ spawned) [] others all names k x is = absurd all
  worked number (t ∷ spawned) (s ∷ work) [] all names k x is = absurd all
  worked number (t ∷ spawned) (s ∷ work) (e ∷ others) all names zero x is =
      let same : passage_of e ≡ x = cc is in
      subst (λ (y : Passage G). PassesSpawned gate (number 0) (meaning t) y.report old y.gate) same
      (subst (λ (n : ℕ). PassesSpawned gate n (meaning t) e.report old e.gate) (names 0 s (omega arith)) all.0.gated)
  worked number (t ∷ spawned) (s ∷ work) (e ∷ others) all names (suc k) x is =
      worked (λ j. number (suc j)) spawned work others all.1 (λ j d lt. names (suc j) d (omega (arith, lt))) k x is

  -- of others
  idle : (seats : List S) (n k : ℕ) (x : Passage G) → slice_get (map passage_of (idle_ends old seats)) k ≡ Some x → PassesOther gate meaning n None x old
  idle [] n k x is = absurd (cc is)
  idle (s ∷ seats) n zero x is =
      let same : passage_of (idle_end old s) ≡ x = cc is in subst (λ (y : Passage G). (y.report ≡ None) × (y.gate ≡ old)) same (refl, refl)
  idle (s ∷ seats) n (suc k) x is = idle seats n k x is

none_there : {A : Type 0} (xs : List A) (k : ℕ) → xs ≡ [] → slice_get xs k ≡ None
none_there [] k e = refl
none_there (x ∷ xs) k e = absurd (cc e)

module _
    {S T G : Type 0} (mem : OverMemory S) (gate : Ghosts G) (old new : G) (meaning : T → Meaning) (first : T) (spawned : List T)
    (seats0 : List S) (seat desk : S) (work : List S) (ends : List (WorkerEnd S G)) (threads : List ThreadReport)
    (places : Unpacked seats0 seat work desk)
    (names : (k : ℕ) (d : S) → k < SEATS → mem.name (get_or seats0 k d) ≡ k) (fresh : (k : ℕ) (d : S) → k < SEATS → mem.seen (get_or seats0 k d) ≡ [])
    (threads_are : threads ≡ reported ends) (gathered : Gathers gate (map passage_of ends) old new) where
  -- of the first thread
  led : (head : WorkerEnd S G) → EndsFirst mem gate old meaning first seat head → PassesFirst gate 0 (meaning first) head.report old head.gate
  led head ended =
      subst (λ (n : ℕ). PassesFirst gate n (meaning first) head.report old head.gate)
      (first_name mem.name mem.seen seats0 seat work desk places names fresh) ended.gated

  gated_by : (head : WorkerEnd S G) (others : List (WorkerEnd S G)) → ends ≡ head ∷ others → EndsFirst mem gate old meaning first seat head
      → ((k : ℕ) (x : Passage G) → slice_get (map passage_of others) k ≡ Some x → PassesOther gate meaning (suc k) (slice_get spawned k) x old)
      → IsGated gate meaning first spawned threads old new
  gated_by head others is ended works = record {
    lead = passage_of head;
    others = map passage_of others;
    reports = threads_are ∙ (reports_are ends ∙ ap (λ (l : List (WorkerEnd S G)). reports_of (map passage_of l)) is);
    leads = led head ended;
    works = works;
    gathered = subst (λ (l : List (WorkerEnd S G)). Gathers gate (map passage_of l) old new) is gathered;
  }

  pub gated_any : IsCrew mem gate old meaning first seat spawned work ends ⊎ ((spawned ≡ []) × IsAlone mem gate old meaning first seat work ends)
      → IsGated gate meaning first spawned threads old new
  gated_any (inl crew) =
      gated_by crew.head crew.others crew.parts crew.ended
      (worked mem gate old meaning (λ k. suc k) spawned work crew.others crew.worked (work_name mem.name mem.seen seats0 seat work desk places names fresh))
  gated_any (inr h) =
      let alone = h.1 in
      gated_by alone.head (idle_ends old work) alone.parts alone.ended
      (λ k x is. subst (λ (o : Option T). PassesOther gate meaning (suc k) o x old) (sym (none_there spawned k h.0))
      (idle mem gate old meaning work (suc k) k x is))
