-- A thread without a budget, over a machine of configurations: it stops neither for want of units nor for a full log.
use Rattle.std.specs.Prelude.{ℕ, false, Option}
use Rattle.schedule.specs.System.{Want, Want.Turns, Want.Calls, Want.Awaits, Want.Gone, System}
use Rattle.schedule.specs.Machine.{Wish, Wish.Goes, Wish.Asks, Wish.Waits, Wish.Ends, Machine}

-- There is none; it runs; it has asked to leave; or it has left.
pub data Unlimited (C O : Type 0) : Type 0 where
  Missing : Unlimited C O
  Going : C → Unlimited C O
  Leaving : O → Unlimited C O
  Away : O → Unlimited C O

module _ {C E V A O : Type 0} (k : Machine C E V A O) where
  abbrev pub want_by : Wish E O → Want E
  want_by Waits = Awaits
  want_by (Ends o) = Calls k.leave
  want_by Goes = Turns
  want_by (Asks e) = Calls e

  abbrev pub unlimited_wants : Unlimited C O → Want E
  unlimited_wants Missing = Gone
  unlimited_wants (Going c) = want_by (k.wishes c)
  unlimited_wants (Leaving o) = Awaits
  unlimited_wants (Away o) = Gone

  abbrev pub unlimited_goes : Unlimited C O → Unlimited C O
  unlimited_goes Missing = Missing
  unlimited_goes (Going c) = Going (k.goes c)
  unlimited_goes (Leaving o) = Leaving o
  unlimited_goes (Away o) = Away o

  -- One that has ended asks to leave.
  abbrev pub reply_by : Wish E O → C → V → Unlimited C O
  reply_by Goes c v = Going c
  reply_by Waits c v = Going c
  reply_by (Asks e) c v = Going (k.takes c v)
  reply_by (Ends o) c v = Leaving o

  abbrev pub unlimited_takes : Unlimited C O → V → Unlimited C O
  unlimited_takes Missing v = Missing
  unlimited_takes (Going c) v = reply_by (k.wishes c) c v
  unlimited_takes (Leaving o) v = Leaving o
  unlimited_takes (Away o) v = Away o

  -- One that asked to leave has left with the answer.
  abbrev pub unlimited_hears : Unlimited C O → A → Unlimited C O
  unlimited_hears Missing a = Missing
  unlimited_hears (Going c) a = Going (k.hears c a)
  unlimited_hears (Leaving o) a = Away o
  unlimited_hears (Away o) a = Away o

  -- The system of such threads over something shared. No try is lost, and no log is full.
  abbrev pub unlimited : {X : Type 0} → (X → ℕ → E → V) → (X → ℕ → E → X) → (X → ℕ → E → ℕ → Option A)
      → (X → ℕ → E → ℕ → Option (Unlimited C O)) → System X (Unlimited C O) E V A
  unlimited reply after gives starts = record {
    reply = reply;
    after = after;
    gives = gives;
    starts = starts;
    opens = k.opens;
    wants = unlimited_wants;
    own_turn = unlimited_goes;
    takes = unlimited_takes;
    hears = unlimited_hears;
    lost = λ t. t;
    full = λ t. t;
    may_lose = λ t. false;
    may_fill = λ t. false;
  }
