-- Which threads wait for one another.
use Rattle.std.specs.Prelude.{ℕ, ◌≡◌, ◌≢◌, ◌<◌, List, [], ◌∷◌, Option, None, Some, All, filter_map, length, option_and_then}
use Rattle.std.specs.Global.{Vec}
use Rattle.std.specs.List.{AllZip, range_with_len, slice_get}
use Rattle.types.specs.declared.event.Entry.{Entry}
use Rattle.types.specs.declared.outcome.Outcome.TheVariants as outcomes
use Rattle.types.specs.declared.outcome.Stop.{Stop}
use Rattle.types.specs.declared.outcome.ThreadReport.{ThreadReport}
use Rattle.selection.specs.declared.choice.NumberSpan.{NumberSpan}
use Rattle.selection.specs.declared.spans.Spans.{Spans}
use Rattle.show_named.specs.declared.lasts.Act.TheVariants as acts
use Rattle.show_waits.specs.declared.stands.Stand.{Stand}
use Rattle.show_named.specs.Lasts.{IsLast}
use Rattle.show_waits.specs.Stands.{IsStand}

-- The thread was stopped, by the reports of all.
pub record IsStopped (ends : List ThreadReport) (n : ℕ) : Type 0 where
  pub report : ThreadReport
  pub at : slice_get ends n ≡ Some report
  pub stop : Stop
  pub is : report.outcome ≡ outcomes.Stop stop

-- The thread stands at other bytes than these, where so much memory is left out.
pub record StandsElsewhere (m : ℕ) (log : List Entry) (out : Option Spans) (addrs : NumberSpan) : Type 0 where
  pub stand : Stand
  pub is : IsStand m log out stand
  pub apart : stand.addrs ≢ addrs

-- Thread n waits for thread m: both were stopped, to the bytes at which n stands m was the last one of the other threads
-- to write, and m stands at others: it doesn't wait there itself.
pub record WaitsFor (log : List Entry) (ends : List ThreadReport) (out : Option Spans) (n m : ℕ) : Type 0 where
  pub stopped : IsStopped ends n
  pub stand : Stand
  pub is : IsStand n log out stand
  pub place : ℕ
  pub last : IsLast (acts.OtherWrite stand.addrs n) log (length log) place
  pub writer : last.entry.thread ≡ m
  pub other : IsStopped ends m
  pub elsewhere : StandsElsewhere m log out stand.addrs

-- For whom a thread waits, or none.
abbrev pub IsWait : List Entry → List ThreadReport → Option Spans → ℕ → Option ℕ → Type 0
IsWait log ends out n (Some m) = WaitsFor log ends out n m
IsWait log ends out n None = (m : ℕ) → WaitsFor log ends out n m → ⊥

-- That of each thread, in order.
abbrev pub AreWaits : List Entry → List ThreadReport → Option Spans → List (Option ℕ) → Type 0
AreWaits log ends out waits = AllZip (IsWait log ends out) (range_with_len 0 (length ends)) waits

abbrev pub wait_in : List (Option ℕ) → ℕ → Option ℕ
wait_in waits n = option_and_then (λ wait. wait) (slice_get waits n)

-- Thread n waits for the first of these, each of them for the next, and the last for thread `to`.
abbrev pub IsChain : List (Option ℕ) → ℕ → List ℕ → ℕ → Type 0
IsChain waits n [] to = wait_in waits n ≡ Some to
IsChain waits n (m ∷ ms) to = (wait_in waits n ≡ Some m) × IsChain waits m ms to

-- Thread n waits in a cycle with these: they have higher numbers, and with n they are no more than all threads.
pub record IsCycle (waits : List (Option ℕ)) (n : ℕ) (others : List ℕ) : Type 0 where
  pub chain : IsChain waits n others n
  pub higher : All (λ m. n < m) others
  pub few : length others < length waits

-- A cycle from its thread of the lowest number on; where a thread is that of none, there is none.
abbrev pub IsToldCycle : List (Option ℕ) → ℕ → Option (Vec ℕ) → Type 0
IsToldCycle waits n (Some cycle) = (others : List ℕ) × IsCycle waits n others × (cycle.items ≡ n ∷ others)
IsToldCycle waits n None = (others : List ℕ) → IsCycle waits n others → ⊥

-- Those of all threads, in order.
abbrev pub AreToldCycles : List Entry → List ThreadReport → Option Spans → List (Vec ℕ) → Type 0
AreToldCycles log ends out told = (waits : List (Option ℕ)) × AreWaits log ends out waits
    × (all : List (Option (Vec ℕ))) × AllZip (IsToldCycle waits) (range_with_len 0 (length ends)) all
    × (told ≡ filter_map (λ cycle. cycle) all)
