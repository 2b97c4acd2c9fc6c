-- A thread that has ended leaves.
use Rattle.std.proofs.Common.{◌≡◌, ℕ, ◌+◌, arith, Bool, List, Option, Some, None, refl, ap}
use Rattle.types.specs.declared.event.Event.TheVariants.{Ask}
use Rattle.types.specs.declared.event.Question.TheVariants.{Leave}
use Rattle.types.specs.declared.event.Answer.TheVariants.{Number}
use Rattle.types.specs.declared.event.Reply.TheVariants.{Done}
use Rattle.types.specs.declared.event.Entry.{Entry}
use Rattle.types.specs.declared.outcome.Outcome.{Outcome}
use Rattle.shared_memory.specs.Memory.{Memory}
use Rattle.waiters_desk.specs.Calls.{Leaves as LeavesBy}
use Rattle.schedule.specs.System.{Act.Made, Act.Heard, Step.Acts, Want.Calls}
use Rattle.schedule.specs.Machine.{Thread.Absent, Thread.Runs, Thread.Over, Thread.Leaves, Thread.Left, thread_takes}
use Rattle.interp_machine.specs.Program.{Program}
use Rattle.interp_machine.specs.State.{At, Over as Ended}
use Rattle.schedule_threads.specs.Threads.{machine_of}
use Rattle.interp_trait.specs.Turns.{Running, left_of, outcome_of, wants_of, IsHere}
use Rattle.interp_trait.specs.Calls.{IsCalled, unless_ended}
use Rattle.interp_trait.specs.declared.gate.Gate.{Ghosts}
use Rattle.interp_trait.specs.declared.turn.Turn.TheVariants as turns
use Rattle.interp_trait.specs.Comes.{Comes, Watched}
use Rattle.spawn_host_workers.specs.Ends.{RunsOutTrying, IsLast}
use Rattle.spawn_host_workers.specs.Serving.{Attends}
use Rattle.spawn_host_workers.specs.Gated.{PassesGate}
use Rattle.interp_trait.proofs.Coming.{comes_by, comes_then, runs_to_end}
use Rattle.spawn_host_workers.proofs.Entered.{between, sees_asked, sees_heard}

-- who has ended wants to leave, and asks
record Going (p : Program) (t : Running) (outcome : Outcome) : Type 0 where
  wants : wants_of p t ≡ Calls (Ask Leave)
  takes : thread_takes (machine_of p) t Done ≡ Leaves outcome (left_of t)

going : (p : Program) (t : Running) (outcome : Outcome) → IsHere t → outcome_of t ≡ Some outcome → Going p t outcome
going p Absent outcome here is = absurd here
going p (Runs (At c) left) outcome here is = absurd (cc is)
going p (Runs (Ended o) left) outcome here is = let same : o ≡ outcome = cc is in record { wants = refl; takes = ap (λ z. Leaves z left) same }
going p (Over o left) outcome here is = let same : o ≡ outcome = cc is in record { wants = refl; takes = ap (λ z. Leaves z left) same }
going p (Leaves o left) outcome here is = absurd here
going p (Left o left) outcome here is = absurd here

-- who has ended has no further call
not_called : {G : Type 0} (sees : G → ℕ → ℕ → G → Type 0) (n : ℕ) (o : Option Outcome) (outcome : Outcome) (calls : List ℕ) (old new : G)
    → o ≡ Some outcome → new ≡ old → IsCalled sees n (unless_ended o calls) old new
not_called sees n None outcome calls old new is same = absurd (cc is)
not_called sees n (Some o) outcome calls old new is same = same

module _ {G : Type 0} (gate : Ghosts G) (budget : ℕ) (p : Program) (loses : Bool) (opening : Memory) (limit : Option ℕ) (n : ℕ) (outcome : Outcome) where
  leaves : (t : Running) (middle after : Watched G) → IsHere t → outcome_of t ≡ Some outcome → LeavesBy opening limit n middle.seen after.seen
      → after.lost ≡ middle.lost → after.gate ≡ middle.gate
      → Comes gate budget p loses opening limit n t (Left outcome (left_of t)) middle after
  leaves t middle after here is did tries same =
      let goes = going p t outcome here is in
      let last : Running = Leaves outcome (left_of t) in
      let list : Watched G = record {
        seen = between opening limit n Leave Done middle.seen after.seen (Number 0) did.enters did.room;
        lost = middle.lost;
        gate = middle.gate;
      } in
      comes_then loses opening limit n gate budget p t last (Left outcome (left_of t)) middle list after
      (comes_by loses opening limit n gate budget p t last (Acts (Made (Ask Leave) Done)) middle list (λ start fuel. (goes.wants, goes.takes))
      (sees_asked opening limit n Leave Done middle.seen after.seen (Number 0) did.enters did.room) (omega arith)
      (not_called gate.sees n (outcome_of t) outcome _ middle.gate middle.gate is refl))
      (comes_by loses opening limit n gate budget p last (Left outcome (left_of t)) (Acts (Heard (Number 0))) list after (λ start fuel. (refl, refl))
      (sees_heard opening limit n Leave Done middle.seen after.seen (Number 0) did.enters did.room) (omega (arith, tries)) same)

  pub runs_out : (t : Running) (Stands : Running → Type 0) (spent : ℕ) (before middle after : Watched G)
      → Attends gate budget p loses opening limit n t (turns.Ended outcome) Stands before middle
      → LeavesBy opening limit n middle.seen after.seen → after.lost ≡ middle.lost → after.gate ≡ middle.gate
      → ((x : Running) → Stands x → spent + left_of x ≡ budget)
      → RunsOutTrying gate p loses opening limit n t outcome spent budget before after
  runs_out t Stands spent before middle after h did tries same paid =
      let comes = comes_then loses opening limit n gate budget p t h.now (Left outcome (left_of h.now)) before middle after h.comes
      (leaves h.now middle after h.here h.ended did tries same) in record {
        out = record {
          left = left_of h.now;
          run = runs_to_end loses opening limit n gate budget p t outcome (left_of h.now) before after comes;
          budget = paid h.now h.stands;
        };
        tries = comes.tries;
        calls = comes.calls;
      }

-- of which its gate has this
pub passes_gate : {G : Type 0} (gate : Ghosts G) (budget : ℕ) (p : Program) (loses : Bool) (opening : Memory) (limit : Option ℕ) (n : ℕ)
    (t : Running) (outcome : Outcome) (spent : ℕ) (before after : Watched G)
    → RunsOutTrying gate p loses opening limit n t outcome spent budget before after
    → PassesGate gate p n t outcome spent budget before.gate after.gate
passes_gate gate budget p loses opening limit n t outcome spent before after h = record {
  steps = h.out.run.steps;
  left = h.out.left;
  run = h.out.run.run;
  paid = h.out.budget;
  calls = h.calls;
}

pub last_of : (opening : Memory) (limit : Option ℕ) (n : ℕ) (middle after : List Entry) → LeavesBy opening limit n middle after → IsLast opening n after
last_of opening limit n middle after did = record { seen = did.enters.seen; legal = did.enters.legal; gone = did.gone }
