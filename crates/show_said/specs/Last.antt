-- What a thread said last.
use Rattle.std.specs.Prelude.{ℕ, List, [], ◌∷◌, Bool, true, false, not, ◌&&◌, if◌then◌else◌, nat_eq, Option, Some}
use Rattle.std.specs.Prelude.{None, is_some}
use Rattle.std.specs.List.{filter}
use Rattle.types.specs.declared.event.Event.{Event}
use Rattle.types.specs.declared.event.Event.TheVariants.{Ask}
use Rattle.types.specs.declared.event.Question.TheVariants.{Leave}
use Rattle.types.specs.declared.event.Entry.{Entry}
use Rattle.show_said.specs.Said.{put_by}
use Rattle.show_said.specs.declared.said.Said.{Said}

abbrev pub is_leave : Event → Bool
is_leave (Ask Leave) = true
is_leave _ = false

-- An entry of a thread, but not its leave.
abbrev pub is_deed : ℕ → Entry → Bool
is_deed thread e = not (is_leave e.event) && nat_eq e.thread thread

-- The last item, if there is one.
abbrev pub last_of : {A : Type 0} → List A → Option A
last_of [] = None
last_of (x ∷ []) = Some x
last_of (x ∷ y ∷ xs) = last_of (y ∷ xs)

abbrev pub puts_last : List ℕ → Option Entry → Bool
puts_last ports None = false
puts_last ports (Some e) = is_some (put_by ports e)

-- Whether the last thing that a thread did was to put something at its port.
abbrev pub ends_saying : List ℕ → List Entry → ℕ → Bool
ends_saying ports log thread = puts_last ports (last_of (filter (is_deed thread) log))

abbrev pub is_by : ℕ → Said → Bool
is_by thread s = nat_eq s.thread thread

-- The last line of a thread.
abbrev pub last_line : List Said → ℕ → Option Said
last_line all thread = last_of (filter (is_by thread) all)

-- The same where the last thing that the thread did was to say something.
abbrev pub last_words : List ℕ → List Entry → List Said → ℕ → Option Said
last_words ports log all thread = if ends_saying ports log thread then last_line all thread else None
