-- Threads of a valid module stay typed, whatever they are answered.
use Rattle.std.proofs.Common.{◌≡◌, ℕ, zero, suc, List, [], ◌∷◌, length, subst}
use Rattle.types.specs.declared.event.Event.{Event}
use Rattle.types.specs.declared.event.Reply.{Reply}
use Rattle.types.specs.declared.event.Reply.TheVariants as replies
use Rattle.types.specs.declared.event.Answer.{Answer}
use Rattle.types.specs.declared.event.Answer.TheVariants as answers
use Rattle.types.specs.declared.outcome.Outcome.{Outcome}
use Rattle.types.specs.declared.parts.Parts.{Parts}
use Rattle.validate_typing.specs.Validity.{IsValid}
use Rattle.schedule.specs.System.{Act.Made, Act.Heard, Step, Step.Own, Step.Lost, Step.Full, Step.Acts}
use Rattle.schedule.specs.Machine.{Wish, Wish.Goes as WishGoes, Wish.Asks as WishAsks, Wish.Waits as WishWaits, Wish.Ends as WishEnds}
use Rattle.schedule.specs.Machine.{Thread, Thread.Absent, Thread.Runs, Thread.Over, Thread.Leaves, Thread.Left, takes_by}
use Rattle.schedule.specs.ThreadRun.{Reaches, after_step}
use Rattle.schedule_threads.specs.Shared.{over_memory_and_queue}
use Rattle.schedule_threads.specs.Threads.{machine_of, wishes}
use Rattle.interp_machine.specs.Config.{Config, Next, Stuck, Goes, Traps, Finishes, Asks, Hears}
use Rattle.interp_machine.specs.Program.{program_of}
use Rattle.interp_machine.specs.Step.{next}
use Rattle.interp_machine.specs.State as states
use Rattle.interp_machine.specs.State.{State, gone_by, gone, replied_by, replied, heard_by, heard}
use Rattle.interp.specs.Starts.{start_of}
use Rattle.interp_laws.specs.NeverStuck.{IsDefined, IsNeverStuck}
use Rattle.interp_laws.proofs.Typed.{IsTyped, IsGood}
use Rattle.interp_laws.proofs.Steps.{good, starts}

abbrev pub IsTypedState : Parts → State → Type 0
IsTypedState m (states.At c) = IsTyped m c
IsTypedState m (states.Over outcome) = Unit {0}

abbrev IsTypedThread : Parts → Thread State Outcome → Type 0
IsTypedThread m Absent = Unit {0}
IsTypedThread m (Runs s left) = IsTypedState m s
IsTypedThread m (Over outcome left) = Unit {0}
IsTypedThread m (Leaves outcome left) = Unit {0}
IsTypedThread m (Left outcome left) = Unit {0}

-- ---- One step of a configuration

own_step : (m : Parts) (c : Config) (n : Next) → IsTyped m c → IsGood m n → IsTypedState m (gone_by c n)
own_step m c Stuck t h = absurd h
own_step m c (Goes after) t h = h
own_step m c (Traps trap) t h = tt
own_step m c (Finishes result) t h = tt
own_step m c (Asks event go) t h = t
own_step m c (Hears go) t h = t

reply_step : (m : Parts) (c : Config) (n : Next) (reply : Reply) → IsTyped m c → IsGood m n → IsTypedState m (replied_by c n reply)
reply_step m c Stuck reply t h = absurd h
reply_step m c (Goes after) reply t h = t
reply_step m c (Traps trap) reply t h = t
reply_step m c (Finishes result) reply t h = t
reply_step m c (Asks event go) (replies.Value n) t h = h n
reply_step m c (Asks event go) replies.Done t h = h 0
reply_step m c (Asks event go) replies.OutOfBounds t h = tt
reply_step m c (Asks event go) replies.Again t h = t
reply_step m c (Asks event go) replies.Full t h = t
reply_step m c (Hears go) reply t h = t

answer_step : (m : Parts) (c : Config) (n : Next) (answer : Answer) → IsTyped m c → IsGood m n → IsTypedState m (heard_by c n answer)
answer_step m c Stuck answer t h = absurd h
answer_step m c (Goes after) answer t h = t
answer_step m c (Traps trap) answer t h = t
answer_step m c (Finishes result) answer t h = t
answer_step m c (Asks event go) answer t h = t
answer_step m c (Hears go) (answers.Number n) t h = h n
answer_step m c (Hears go) answers.ForGood t h = tt

module _ (m : Parts) (v : IsValid m) (whole : length m.functions ≡ length m.bodies) where
  pub goes_typed : (s : State) → IsTypedState m s → IsTypedState m (gone (program_of m) s)
  goes_typed (states.At c) t = own_step m c (next (program_of m) c) t (good m v whole c t)
  goes_typed (states.Over outcome) t = tt

  pub takes_typed : (s : State) (reply : Reply) → IsTypedState m s → IsTypedState m (replied (program_of m) s reply)
  takes_typed (states.At c) reply t = reply_step m c (next (program_of m) c) reply t (good m v whole c t)
  takes_typed (states.Over outcome) reply t = tt

  pub hears_typed : (s : State) (answer : Answer) → IsTypedState m s → IsTypedState m (heard (program_of m) s answer)
  hears_typed (states.At c) answer t = answer_step m c (next (program_of m) c) answer t (good m v whole c t)
  hears_typed (states.Over outcome) answer t = tt

  -- ---- One step of a thread

  taken : (w : Wish Event Outcome) (s : State) (left : ℕ) (reply : Reply) → IsTypedState m s →
      IsTypedThread m (takes_by (machine_of (program_of m)) w s left reply)
  taken WishGoes s left reply t = t
  taken WishWaits s left reply t = t
  taken (WishAsks e) s left reply t = takes_typed s reply t
  taken (WishEnds o) s left reply t = tt

  module _ (start : ℕ → ℕ → State) (budget : ℕ) where
    stepped : (x : Thread State Outcome) (p : Step Event Reply Answer) → IsTypedThread m x →
        IsTypedThread m (after_step (over_memory_and_queue (machine_of (program_of m)) start budget) x p)
    stepped Absent Own t = tt
    stepped Absent (Lost e) t = tt
    stepped Absent (Full e) t = tt
    stepped Absent (Acts (Made e reply)) t = tt
    stepped Absent (Acts (Heard a)) t = tt
    stepped (Runs s zero) Own t = tt
    stepped (Runs s (suc left)) Own t = goes_typed s t
    stepped (Runs s left) (Lost e) t = t
    stepped (Runs s left) (Full e) t = tt
    stepped (Runs s left) (Acts (Made e reply)) t = taken (wishes (program_of m) s) s left reply t
    stepped (Runs s left) (Acts (Heard a)) t = hears_typed s a t
    stepped (Over o left) Own t = tt
    stepped (Over o left) (Lost e) t = tt
    stepped (Over o left) (Full e) t = tt
    stepped (Over o left) (Acts (Made e reply)) t = tt
    stepped (Over o left) (Acts (Heard a)) t = tt
    stepped (Leaves o left) Own t = tt
    stepped (Leaves o left) (Lost e) t = tt
    stepped (Leaves o left) (Full e) t = tt
    stepped (Leaves o left) (Acts (Made e reply)) t = tt
    stepped (Leaves o left) (Acts (Heard a)) t = tt
    stepped (Left o left) Own t = tt
    stepped (Left o left) (Lost e) t = tt
    stepped (Left o left) (Full e) t = tt
    stepped (Left o left) (Acts (Made e reply)) t = tt
    stepped (Left o left) (Acts (Heard a)) t = tt

    reached : (steps : List (Step Event Reply Answer)) (x end : Thread State Outcome) → IsTypedThread m x →
        Reaches (over_memory_and_queue (machine_of (program_of m)) start budget) x steps end → IsTypedThread m end
    reached [] x end t r = subst (λ y. IsTypedThread m y) r t
    reached (p ∷ steps) x end t r =
        reached steps (after_step (over_memory_and_queue (machine_of (program_of m)) start budget) x p) end (stepped x p t) r.1

  defined : (n : Next) → IsGood m n → IsDefined n
  defined Stuck h = h
  defined (Goes after) h = tt
  defined (Traps trap) h = tt
  defined (Finishes result) h = tt
  defined (Asks event go) h = tt
  defined (Hears go) h = tt

  pub never_stuck : IsNeverStuck m
  never_stuck own t body args f h start budget fuel left steps c r =
      let first = Runs (states.At (start_of m t body args)) fuel in
      let typed : IsTyped m c = reached start budget steps first (Runs (states.At c) left) (starts m v own t body args f h) r in
      defined (next (program_of m) c) (good m v whole c typed)
