-- The rule of the recorder's one word, and what its steps tell.
use Rattle.std.specs.Prelude.{ℕ, ◌≡◌, true, List, [], ◌∷◌, ◌++◌, map}
use Rattle.atomic_table.specs.Table.{Me}
use Rattle.types.specs.declared.event.Entry.{Entry}
use Rattle.types.specs.declared.event.Event.TheVariants.{Size}
use Rattle.types.specs.declared.event.Reply.TheVariants.{Done}
use Rattle.shared_memory.specs.Events.{is_of_queue}
use Rattle.shared_memory.specs.History.{entry}
use Rattle.shared_memory_on_table.specs.declared.view.Caller.{Caller}
use Rattle.shared_memory_on_table.specs.declared.view.View.{View}
use Rattle.shared_memory_on_table.specs.Callers.{AllGoOn, seeing}
use Rattle.shared_memory_on_table.specs.Moves.{caller_in, keeper, sees}

-- The one word is 0, whatever the log.
abbrev pub is_zero : List Entry → List ℕ → Type 0
is_zero log words = words ≡ 0 ∷ []

-- The keeper's log, longer by an entry.
abbrev pub log_with : Entry → View → List Entry
log_with e v = v.log ++ e ∷ []

-- The keeper's seat with this log, and no caller on it.
abbrev pub keeps : List Entry → Me ℕ View
keeps log = (keeper log [], [])

-- One caller stands on the keeper's seat.
abbrev pub HasGuest : Me ℕ View → Type 0
HasGuest m = m.0 ≡ keeper m.0.log (caller_in m.0 ∷ [])

-- A seat of one caller, when that has seen the keeper's log, longer by an entry.
abbrev pub sees_with : Entry → Me ℕ View → Me ℕ View → Me ℕ View
sees_with e kept m = sees (log_with e kept.0) m

-- The keeper's log is longer by an entry, and all on its seat have seen that.
abbrev pub entered : Entry → View → View
entered e v = record { keeps = v.keeps; log = log_with e v; callers = map (seeing (log_with e v)) v.callers }

abbrev pub after_entry : Entry → Me ℕ View → Me ℕ View
after_entry e m = (entered e m.0, m.1)

-- All on the keeper's seat have seen the log.
abbrev pub learned : View → View
learned v = record { keeps = v.keeps; log = v.log; callers = map (seeing v.log) v.callers }

abbrev pub Enters : Entry → Me ℕ View → Me ℕ View → Type 0
Enters e before after = (after.0 ≡ entered e before.0) × (after.1 ≡ before.1) × AllGoOn before.0.callers before.0.log

abbrev pub Learns : Me ℕ View → Me ℕ View → Type 0
Learns before after = (after.0 ≡ learned before.0) × (after.1 ≡ before.1) × AllGoOn before.0.callers before.0.log

-- The entry is the caller's, and of the queue only with the queue right.
abbrev pub MayMake : Caller → Entry → Type 0
MayMake c e = (e.thread ≡ c.name) × (is_of_queue e.event ≡ true → c.has_queue_right ≡ true)

-- Of nothing.
abbrev pub no_entry : Entry
no_entry = entry 0 Size Done
