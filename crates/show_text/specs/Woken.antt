-- Which notify of a log woke whom.
use Rattle.std.specs.Prelude.{ℕ, ◌≡◌, ◌+◌, ◌-◌, ◌<◌, ◌==◌, ◌&&◌, ◌||◌, not, nat_lt, min, zero, suc, Bool, true, false}
use Rattle.std.specs.Prelude.{if◌then◌else◌, List, [], ◌∷◌, length, map, take, drop, Option, Some, None}
use Rattle.std.specs.Prelude.{option_and_then, unwrap_or}
use Rattle.std.specs.List.{slice_get, filter, filter_map, flat_map, range_with_len}
use Rattle.types.specs.declared.event.Event.{Event}
use Rattle.types.specs.declared.event.Event.TheVariants.{Ask}
use Rattle.types.specs.declared.event.Question.TheVariants.{Wait, Notify}
use Rattle.types.specs.declared.event.Answer.TheVariants.{Number, ForGood}
use Rattle.types.specs.declared.event.Reply.{Reply}
use Rattle.types.specs.declared.event.Reply.TheVariants.{Value}
use Rattle.types.specs.declared.event.Entry.{Entry}
use Rattle.show_text.specs.declared.context.Context.{Context}
use Rattle.show_text.specs.declared.context.Context.TheVariants.{Answered}
use Rattle.show_text.specs.declared.woken.Wake.{Wake}
use Rattle.show_text.specs.declared.woken.Wakes.{Wakes}
use Rattle.show_text.specs.declared.woken.NotifyCall.{NotifyCall}
use Rattle.show_text.specs.declared.woken.Waking.{Waking}
use Rattle.show_text.specs.declared.woken.SleepingThread.{SleepingThread}
use Rattle.show_text.specs.Words.{ends_at_once}

-- A wait isn't woken that is told of another value, times out, or sleeps for good.
abbrev pub is_woken : Option Context → Bool
is_woken (Some (Answered (Number n))) = not (n == 1 || n == 2)
is_woken (Some (Answered ForGood)) = false
is_woken context = true

-- Who falls asleep by an event, until a notify wakes him: it waits, finds what it expects, and has time.
abbrev pub laid_down : ℕ → ℕ → Option Context → Event → Reply → Option SleepingThread
laid_down at thread context (Ask (Wait addr width expected timeout)) (Value n) =
    if n == expected && not (ends_at_once timeout) && is_woken context
    then Some (record { addr = addr; wait = at; thread = thread }) else None
laid_down at thread context event reply = None

abbrev pub sleeper_by : ℕ → Option Context → Entry → Option SleepingThread
sleeper_by at context made = laid_down at made.thread context made.event made.reply

abbrev pub sleeper_at : List Entry → List Context → ℕ → Option SleepingThread
sleeper_at log contexts at = option_and_then (sleeper_by at (slice_get contexts at)) (slice_get log at)

abbrev pub is_at : ℕ → SleepingThread → Bool
is_at addr sleeper = sleeper.addr == addr

-- Who has fallen asleep at an address before an entry, the first one first.
abbrev pub asleep : List Entry → List Context → ℕ → ℕ → List SleepingThread
asleep log contexts addr most = filter (is_at addr) (filter_map (sleeper_at log contexts) (range_with_len 0 most))

-- A notify wakes as many as it is told, or at most as many as it asks for.
abbrev pub most_of : Option Context → ℕ → ℕ
most_of (Some (Answered (Number n))) count = n
most_of context count = count

abbrev pub notified_by : Option Context → Event → Option NotifyCall
notified_by context (Ask (Notify addr count)) = Some (record { addr = addr; most = most_of context count })
notified_by context event = None

abbrev pub notified_at : List Entry → List Context → ℕ → Option NotifyCall
notified_at log contexts at = option_and_then (λ made. notified_by (slice_get contexts at) made.event) (slice_get log at)

-- How many are woken at an address, if they are there.
abbrev pub most_by : ℕ → Option NotifyCall → ℕ
most_by addr None = 0
most_by addr (Some notified) = if notified.addr == addr then notified.most else 0

-- How many at an address were woken before an entry: of those who sleep there the first ones.
abbrev pub woken_before : List Entry → List Context → ℕ → ℕ → ℕ
woken_before log contexts addr zero = 0
woken_before log contexts addr (suc at) = min (woken_before log contexts addr at
    + most_by addr (notified_at log contexts at)) (length (asleep log contexts addr at))

-- Who sleeps at an address before an entry, the first one first.
abbrev pub line_at : List Entry → List Context → ℕ → ℕ → List SleepingThread
line_at log contexts at addr = drop (woken_before log contexts addr at) (asleep log contexts addr at)

abbrev pub wake_of : ℕ → SleepingThread → Wake
wake_of notify sleeper = record { notify = notify; wait = sleeper.wait; thread = sleeper.thread }

-- Whom a notify wakes, of those who sleep at each address: the first ones at its own.
abbrev pub woken_from : ℕ → Option NotifyCall → (ℕ → List SleepingThread) → List Wake
woken_from at None lines = []
woken_from at (Some notified) lines = map (wake_of at) (take notified.most (lines notified.addr))

-- Whom the entry at a place wakes.
abbrev pub woken_by : List Entry → List Context → ℕ → List Wake
woken_by log contexts at = woken_from at (notified_at log contexts at) (line_at log contexts at)

abbrev pub start_in : Wakes → ℕ → ℕ
start_in wakes at = unwrap_or (slice_get wakes.starts.items at) (length wakes.all.items)

-- Whom the entry at a place woke, as they are kept.
abbrev pub woken_in : Wakes → ℕ → List Wake
woken_in wakes at =
    take (start_in wakes (at + 1) - start_in wakes at) (drop (start_in wakes at) wakes.all.items)

-- They are whom the entries of a log woke, and each entry has its own.
pub record AreWakes (log : List Entry) (contexts : List Context) (wakes : Wakes) : Type 0 where
  pub all : wakes.all.items ≡ flat_map (woken_by log contexts) (range_with_len 0 (length log))
  pub each : (at : ℕ) → at < length log → woken_in wakes at ≡ woken_by log contexts at

-- A notify that has some left to wake comes to a sleeper at its address.
abbrev pub is_hit : Waking → SleepingThread → Bool
is_hit waking sleeper = is_at waking.addr sleeper && nat_lt 0 waking.left

abbrev pub left_behind : Waking → SleepingThread → ℕ
left_behind waking sleeper = if is_hit waking sleeper then waking.left - 1 else waking.left

abbrev pub kept_of : Waking → SleepingThread → List SleepingThread
kept_of waking sleeper = if is_hit waking sleeper then [] else sleeper ∷ []

abbrev pub woken_of : Waking → SleepingThread → List Wake
woken_of waking sleeper = if is_hit waking sleeper then wake_of waking.notify sleeper ∷ [] else []
