-- What a thread does with the memory next.
use Rattle.std.proofs.Common.{◌≡◌, ℕ, ◌+◌, Bool, true, false, length, Some, None, refl, sym, ap}
use Rattle.std.specs.Prelude.{◌&&◌, nat_le, if◌then◌else◌}
use Rattle.allowed_races.specs.declared.allowed.Allowed.{Allowed}
use Rattle.types.specs.declared.event.Event.{Event}
use Rattle.shared_memory.specs.Memory.{Memory}
use Rattle.schedule.specs.System.{Want, Want.Turns, Want.Calls, Want.Awaits, Want.Gone}
use Rattle.schedule_threads.specs.Shared.{Shared}
use Rattle.schedule_machine.specs.Threads.{called}
use Rattle.search_settled.specs.declared.access.NextAccess.{NextAccess}
use Rattle.search_race_free.specs.Wanted.{access_by}
use Rattle.search_runs.specs.Accesses.{in_bounds, look, access_of}
use Rattle.search_runs.specs.Called.{Called, Walker, system_of}

-- who wants an event makes its access
pub by-event : (b : Called) (allowed : Allowed) (opening : ℕ) (x : Shared) (t : Walker) (w : Want Event) (e : Event) → Some e ≡ called w
    → access_by (system_of b) (access_of allowed opening) x t w ≡ Some (access_of allowed opening x t e)
by-event b allowed opening x t Turns e h = absurd (cc h)
by-event b allowed opening x t (Calls f) e h = let same : e ≡ f = cc h in ap (λ y. Some (access_of allowed opening x t y)) (sym same)
by-event b allowed opening x t Awaits e h = absurd (cc h)
by-event b allowed opening x t Gone e h = absurd (cc h)

-- who wants none, and no turn of its own, makes none
pub by-none : (b : Called) (allowed : Allowed) (opening : ℕ) (x : Shared) (t : Walker) (w : Want Event) → None ≡ called w → (w ≡ Turns → ⊥)
    → access_by (system_of b) (access_of allowed opening) x t w ≡ None
by-none b allowed opening x t Turns h rests = absurd (rests refl)
by-none b allowed opening x t (Calls f) h rests = absurd (cc h)
by-none b allowed opening x t Awaits h rests = refl
by-none b allowed opening x t Gone h rests = refl

-- out of bounds it doesn't matter what is there
pub found-there : (m : Memory) (found : Bool) (addr width : ℕ)
    → in_bounds m false true (nat_le (addr + width) (length m.bytes) && found) true addr width (addr + width)
    ≡ in_bounds m false true found true addr width (addr + width)
found-there m found addr width = by (nat_le (addr + width) (length m.bytes))
  where
    here : Bool → NextAccess
    here writes = record {
      plain = false && nat_le (addr + width) (addr + width);
      reads = true;
      writes = writes;
      is_conditional = true;
      is_timed = false;
      is_allowed = false;
      addr = addr;
      width = width;
    }

    by : (t : Bool) → (if t then here (t && found) else look) ≡ (if t then here found else look)
    by true = refl
    by false = refl
