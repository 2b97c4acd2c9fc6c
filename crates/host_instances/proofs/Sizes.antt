-- Whatever events its threads make, the memory of a system is whole pages, no more than it may have.
use Rattle.std.proofs.Common.{◌≡◌, ℕ, ◌+◌, ◌*◌, ◌≤◌, Bool, true, false, List, [], ◌∷◌, ◌++◌, length, replicate, refl, ◌∙◌, arith, length-append}
use Rattle.std.proofs.lemmas.List.{length-replicate}
use Rattle.std.proofs.lemmas.Bool.{leb-true}
use Rattle.std.specs.Prelude.{nat_le, if◌then◌else◌, ◌==◌}
use Rattle.types.specs.declared.event.Event.{Event}
use Rattle.types.specs.declared.event.Event.TheVariants.{Size, Grow, Load, Store, Rmw, Cmpxchg, Ask, Told}
use Rattle.types.specs.declared.event.Reply.{Reply}
use Rattle.types.specs.declared.event.Answer.{Answer}
use Rattle.types.specs.declared.limits.TheConstants.{PAGE_SIZE}
use Rattle.shared_memory.specs.Events.{IsEvent}
use Rattle.shared_memory.specs.Memory.{Memory, pages, can_grow, grown, written, combined, loaded, state_after}
use Rattle.shared_memory.specs.Numbers.{le_bytes}
use Rattle.shared_memory.proofs.Numbers.{length-le_bytes}
use Rattle.schedule.specs.System.{Want, Want.Turns, Want.Calls, Want.Awaits, Want.Gone, Act, Act.Made, Act.Heard, Entry, Mark, Kind, Kind.Turn, Kind.Loses, Kind.Fills}
use Rattle.schedule.specs.System as systems
use Rattle.schedule.specs.Scheduled.{after_mark, after_turn, entries_at, entries_by, entries_made, if_may, scheduled_run}
use Rattle.schedule_threads.specs.Shared.{Shared}
use Rattle.schedule_runs.specs.Runs.{Start, system_of}
use Rattle.interp_trait.specs.Turns.{Running}
use Rattle.search_runs.proofs.Bytes.{length-splice}

-- its bytes are so many pages, under a maximum
pub record HasPages (max : ℕ) (m : Memory) : Type 0 where
  pub count : ℕ
  pub whole : length m.bytes ≡ PAGE_SIZE * count
  pub under : count ≤ max
  pub maximum : m.max ≡ max

pub pages_counted : (max : ℕ) (m : Memory) (h : HasPages max m) → pages m ≡ h.count
pages_counted max m h = let whole = h.whole in omega arith

module _ (max : ℕ) (m : Memory) (h : HasPages max m) where
  grown_by : (more : ℕ) (may : Bool) → can_grow m more ≡ may → HasPages max (if may then grown m more else m)
  grown_by more false is = h
  grown_by more true is =
      let low = leb-true (pages m + more) m.max is in let same = pages_counted max m h in let whole = h.whole in let maximum = h.maximum in record {
        count = h.count + more;
        whole = omega (arith, length-append m.bytes (replicate (PAGE_SIZE * more) 0), length-replicate {A = ℕ} (PAGE_SIZE * more) 0);
        under = omega arith;
        maximum = h.maximum;
      }

  written_by : (addr width n : ℕ) → addr + width ≤ length m.bytes → HasPages max (written m addr width n)
  written_by addr width n within = record {
    count = h.count;
    whole = length-splice m.bytes (le_bytes width n) addr width (length-le_bytes width n) within ∙ h.whole;
    under = h.under;
    maximum = h.maximum;
  }

  if_in : (end : ℕ) (new : Memory) (is : Bool) → nat_le end (length m.bytes) ≡ is → (end ≤ length m.bytes → HasPages max new)
      → HasPages max (if is then new else m)
  if_in end new true is has = has (leb-true end (length m.bytes) is)
  if_in end new false is has = h

  exchanged : (same : Bool) (addr width n : ℕ) → addr + width ≤ length m.bytes → HasPages max (if same then written m addr width n else m)
  exchanged true addr width n within = written_by addr width n within
  exchanged false addr width n within = h

  pub has_after : (e : Event) → IsEvent e → HasPages max (state_after m e)
  has_after Size is = h
  has_after (Grow more) is = grown_by more (can_grow m more) refl
  has_after (Load addr width reach) is = h
  has_after (Store addr width reach value) is =
      if_in reach (written m addr width value) (nat_le reach (length m.bytes)) refl
      (λ within. let ends = is.0.ends in written_by addr width value (omega arith))
  has_after (Rmw op addr width value) is =
      let new = combined op width (loaded m addr width) value in
      if_in (addr + width) (written m addr width new) (nat_le (addr + width) (length m.bytes)) refl (λ within. written_by addr width new within)
  has_after (Cmpxchg addr width expected replacement) is =
      let same = loaded m addr width == expected in
      if_in (addr + width) (if same then written m addr width replacement else m) (nat_le (addr + width) (length m.bytes)) refl
      (λ within. exchanged same addr width replacement within)
  has_after (Ask question) is = h
  has_after (Told answer) is = h

-- each event made meets the conditions on events
abbrev pub IsProper : Act Event Reply Answer → Type 0
IsProper (Made e v) = IsEvent e
IsProper (Heard a) = Unit {0}

abbrev pub AreProper : List (Entry Event Reply Answer) → Type 0
AreProper [] = Unit {0}
AreProper (h ∷ H) = IsProper h.act × AreProper H

first_proper : (xs ys : List (Entry Event Reply Answer)) → AreProper (xs ++ ys) → AreProper xs × AreProper ys
first_proper [] ys are = (tt, are)
first_proper (x ∷ xs) ys are = let rest = first_proper xs ys are.1 in ((are.0, rest.0), rest.1)

module _ (b : Start) (max : ℕ) where
  abbrev State : Type 0
  State = systems.State Shared Running

  turned : (w : State) (n : ℕ) (want : Want Event) → AreProper (entries_by (system_of b) w n want) → HasPages max w.shared.memory
      → HasPages max (after_turn (system_of b) w n want).shared.memory
  turned w n Turns are h = h
  turned w n (Calls e) are h = has_after max w.shared.memory h e are.0
  turned w n Awaits are h = h
  turned w n Gone are h = h

  either : (may : Bool) (v w : State) → HasPages max v.shared.memory → HasPages max w.shared.memory
      → HasPages max (if_may (system_of b) may v w).shared.memory
  either true v w h k = h
  either false v w h k = k

  marked : (w : State) (n : ℕ) (kind : Kind) → AreProper (entries_at (system_of b) w n kind) → HasPages max w.shared.memory
      → HasPages max (after_mark (system_of b) w n kind).shared.memory
  marked w n Turn are h = turned w n ((system_of b).wants (w.threads n)) are h
  marked w n Loses are h = either ((system_of b).may_lose (w.threads n)) _ w h h
  marked w n Fills are h = either ((system_of b).may_fill (w.threads n)) _ w h h

  pub has_along : (S : List Mark) (w : State) → AreProper (entries_made (system_of b) w S) → HasPages max w.shared.memory
      → HasPages max (scheduled_run (system_of b) w S).shared.memory
  has_along [] w are h = h
  has_along (k ∷ S) w are h =
      let both = first_proper (entries_at (system_of b) w k.thread k.kind) (entries_made (system_of b) (after_mark (system_of b) w k.thread k.kind) S) are in
      has_along S (after_mark (system_of b) w k.thread k.kind) both.1 (marked w k.thread k.kind both.0 h)
