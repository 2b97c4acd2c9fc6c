-- Threads that a run didn't start are spares.
use Rattle.std.proofs.Common.{◌≡◌, ℕ, List, All, ◌∙◌}
use Rattle.types.specs.declared.parts.Parts.{Parts}
use Rattle.interp_machine.specs.Program.{program_of}
use Rattle.interp_trait.specs.Turns.{Meaning}
use Rattle.replay_walk.specs.Walked.{Run}
use Rattle.replay.specs.Threads.{IsWorker, AreSpares}
use Rattle.search_scheduled.specs.SpareThreads.{IsUnused}

pub unused_are_spares : {T : Type 0} (meaning : T → Meaning) (m : Parts) (run : Run) (budget : ℕ) → run.program ≡ program_of m → run.budget ≡ budget
    → IsWorker m run.worker → (threads : List T) → All (IsUnused meaning run) threads → AreSpares meaning m budget threads
unused_are_spares meaning m run budget program fuel worker threads all = λ k d lt. let u = all k d lt in record {
  program_is = u.program_is ∙ program;
  fuel_is = u.fuel_is ∙ fuel;
  worker = run.worker;
  is_worker = worker;
  begins_so = u.begins_so;
}
