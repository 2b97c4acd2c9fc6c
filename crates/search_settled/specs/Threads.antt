-- A system of threads, and what stands for its settled states: what is shared, and the threads one by one.
use Rattle.std.specs.Prelude.{ℕ, ◌≡◌, ◌≤◌, length, Some}
use Rattle.std.specs.List.{slice_get}
use Rattle.schedule.specs.System.{Want.Gone, System, State}
use Rattle.search_settled.specs.declared.access.NextAccess.{NextAccess}
use Rattle.search_settled.specs.declared.flat.RestingState.{RestingState}

-- A system of threads and the state that it begins in; what a thread does with the memory by its event, where this is
-- shared; how many threads were started, and how many can be; and what stands for what is shared, for a thread at rest,
-- and for what an event of a thread makes. Types: shared states X, threads T, events E, replies V and answers A, and G,
-- H and M for what stands for them.
pub record ThreadSystem (X T E V A G H M : Type 0) : Type 1 where
  pub system : System X T E V A
  pub first : State X T
  pub accesses : X → T → E → NextAccess
  pub count : X → ℕ
  pub most : ℕ
  pub shares : G → X → Type 0
  pub is_thread : H → T → Type 0
  pub makes : M → X → ℕ → E → Type 0

-- Each thread that was started is the state's, and no other thread is there.
pub record IsFlat {X T E V A G H M : Type 0} (k : ThreadSystem X T E V A G H M) (c : RestingState G H) (z : State X T)
    : Type 0 where
  pub shared : k.shares c.shared z.shared
  pub len : length c.threads.items ≡ k.count z.shared
  pub each : (m : ℕ) (t : H) → slice_get c.threads.items m ≡ Some t → k.is_thread t (z.threads m)
  pub others : (m : ℕ) → k.count z.shared ≤ m → k.system.wants (z.threads m) ≡ Gone
