-- A queue is sound that has what a sound one has.
use Rattle.std.proofs.Common.{◌≡◌, ℕ, List, Option, replicate, None, sym, subst}
use Rattle.types.specs.declared.event.Answer.{Answer}
use Rattle.shared_memory.specs.declared.sleeper.Sleeper.{Sleeper}
use Rattle.shared_memory.specs.WaitQueue.{WaitQueue}
use Rattle.shared_memory.specs.Sound.{IsSound}
use Rattle.waiters.specs.declared.kept.KeptQueue.{KeptQueue}
use Rattle.waiters.specs.Kept.{queue_of}

abbrev pub made_of : List ℕ → List Sleeper → List (Option Answer) → List ℕ → WaitQueue
made_of alive sleepers due args = record { alive = alive; sleepers = sleepers; due = due; args = args }

module _ (k : KeptQueue) (alive : List ℕ) (sleepers : List Sleeper) (due : List (Option Answer)) (args : List ℕ)
    (a : alive ≡ k.alive.items) (s : sleepers ≡ k.sleepers.items) (d : due ≡ replicate k.threads None) (g : args ≡ k.args.items) where
  pub same : made_of alive sleepers due args ≡ queue_of k
  same = λ i. made_of (a i) (s i) (d i) (g i)

  pub sound : IsSound (queue_of k) → IsSound (made_of alive sleepers due args)
  sound h = subst IsSound (sym same) h
