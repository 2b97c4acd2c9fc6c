-- What is said of a log: lines of threads, each with the entry with which it ended.
use Rattle.std.specs.Prelude.{ℕ, ◌+◌, ◌-◌, ◌^◌, min, List, [], ◌∷◌, ◌++◌, map, length, replicate, ◌&&◌}
use Rattle.std.specs.Prelude.{if◌then◌else◌, nat_eq}
use Rattle.std.specs.Prelude.{Option, Some, None, get_or, set}
use Rattle.std.specs.List.{slice_get, flat_map, filter}
use Rattle.types.specs.declared.event.Event.{Event}
use Rattle.types.specs.declared.event.Event.TheVariants.{Store}
use Rattle.types.specs.declared.event.Reply.{Reply}
use Rattle.types.specs.declared.event.Reply.TheVariants.{Done}
use Rattle.types.specs.declared.event.Entry.{Entry}
use Rattle.show_said.specs.Lines.{letters_of, lines_in, left_of, some_line, line_text}
use Rattle.show_said.specs.declared.said.Said.{Said}

-- What an event stores to all eight bytes at an address, where it does.
abbrev pub stored_at : Option ℕ → Event → Reply → Option ℕ
stored_at (Some port) (Store addr width reach value) Done =
    if nat_eq addr port && nat_eq width 8 then Some value else None
stored_at _ _ _ = None

-- The number that an entry puts at the port of its thread.
abbrev pub put_by : List ℕ → Entry → Option ℕ
put_by ports e = stored_at (slice_get ports e.thread) e.event e.reply

abbrev pub letters_in : Option ℕ → List ℕ
letters_in None = []
letters_in (Some value) = letters_of value

-- The letters that an entry adds to those of its thread.
abbrev pub letters_by : List ℕ → Entry → List ℕ
letters_by ports e = letters_in (put_by ports e)

-- The line of a record that has the entry at a place, where the first one's is known.
abbrev pub line_of : ℕ → ℕ → ℕ
line_of first at = min (first + at) (2 ^ 64 - 1)

-- Lines of a thread that ended with the entry on this line.
abbrev pub items : ℕ → ℕ → List (List ℕ) → List Said
items thread line texts = map (λ text. record { thread = thread; line = line; text = line_text text }) texts

abbrev pub line_at : List (List ℕ) → ℕ → List ℕ
line_at lines thread = get_or lines thread []

-- Of each thread the line so far, behind an entry.
abbrev pub lines_behind : List ℕ → List (List ℕ) → Entry → List (List ℕ)
lines_behind ports lines e = set lines e.thread (left_of (line_at lines e.thread) (letters_by ports e))

-- The lines that end with an entry.
abbrev pub said_by : List ℕ → List (List ℕ) → ℕ → Entry → List Said
said_by ports lines line e = items e.thread line (lines_in (line_at lines e.thread) (letters_by ports e))

-- Where the log ends, the lines that nothing ended, thread by thread.
abbrev pub said_last : ℕ → ℕ → List (List ℕ) → List Said
said_last thread line [] = []
said_last thread line (text ∷ lines) = items thread line (some_line text) ++ said_last (thread + 1) line lines

-- What is said from the entry at a place on, by threads that have said this much of a line.
abbrev pub said_from : List ℕ → ℕ → ℕ → List (List ℕ) → List Entry → List Said
said_from ports first at lines [] = said_last 0 (line_of first at) lines
said_from ports first at lines (e ∷ log) =
    said_by ports lines (line_of first at) e ++ said_from ports first (at + 1) (lines_behind ports lines e) log

-- What is said in a whole log, whose first entry has this line.
abbrev pub said : List ℕ → ℕ → List Entry → List Said
said ports first log = said_from ports first 0 (replicate (length ports) []) log

-- The letters of a thread, in the order of the log.
abbrev pub letters_of_thread : List ℕ → ℕ → List Entry → List ℕ
letters_of_thread ports thread log =
    flat_map (λ e. if nat_eq e.thread thread then letters_by ports e else []) log

-- The texts of what one thread said.
abbrev pub texts_of : ℕ → List Said → List (List ℕ)
texts_of thread all = map (λ s. s.text) (filter (λ s. nat_eq s.thread thread) all)

-- All lines that letters make, also the one that nothing ends.
abbrev pub all_lines : List ℕ → List (List ℕ)
all_lines letters = lines_in [] letters ++ some_line (left_of [] letters)
