-- A queue and bytes, as they are printed.
use Rattle.std.specs.Prelude.{ℕ, ℤ, pos, negsuc, ◌+◌, ◌-◌, ◌%◌, ◌^◌, ◌==◌, min, false, if◌then◌else◌}
use Rattle.std.specs.Prelude.{List, [], ◌∷◌, ◌++◌, codes, flat_map, Option, Some, None}
use Rattle.std.specs.List.{enumerate_from}
use Rattle.std.specs.Fmt.{decimal, digits, padded_integral, format_spec}
use Rattle.shared_memory.specs.declared.sleeper.Sleeper.{Sleeper}
use Rattle.waiters.specs.declared.kept.KeptQueue.{KeptQueue}
use Rattle.show_moments.specs.declared.texts.TheConstants.{IN_A_LINE}

-- On what a thread sleeps, and how long at most; a time below 0 has no end.
abbrev pub time_text : ℤ → List ℕ
time_text (pos n) = codes " for " ++ (decimal n ++ codes " ns")
time_text (negsuc n) = []

abbrev pub sleeper_text : Sleeper → List ℕ
sleeper_text s = codes " t" ++ (decimal s.thread ++ (codes " on " ++ (decimal s.addr ++ time_text s.timeout)))

abbrev pub sleepers_text : List Sleeper → List ℕ
sleepers_text [] = codes "nobody sleeps\n"
sleepers_text (s ∷ sleepers) = codes "asleep:" ++ (flat_map sleeper_text (s ∷ sleepers) ++ codes "\n")

-- Who sleeps, who has slept longest first; nothing where no queue is known.
abbrev pub queue_text : Option KeptQueue → List ℕ
queue_text None = []
queue_text (Some queue) = sleepers_text queue.sleepers.items

-- A byte by two hexadecimal digits.
abbrev pub hex_text : ℕ → List ℕ
hex_text byte = padded_integral (format_spec 32 0 4 2 (2 ^ 64 - 1)) false [] (digits 16 false byte)

abbrev pub addr_text : ℕ → ℕ → List ℕ → List ℕ
addr_text addr place byte = decimal (min (addr + place) (2 ^ 64 - 1)) ++ (codes ": " ++ byte)

-- A byte; the first one of a line stands behind its address.
abbrev pub byte_text : ℕ → ℕ × ℕ → List ℕ
byte_text addr (place, byte) = if place == 0 then addr_text addr place (hex_text byte)
    else if place % IN_A_LINE == 0 then codes "\n" ++ addr_text addr place (hex_text byte)
    else codes " " ++ hex_text byte

-- Bytes from an address on.
abbrev pub dump_text : ℕ → List ℕ → List ℕ
dump_text addr [] = []
dump_text addr (b ∷ bytes) = flat_map (byte_text addr) (enumerate_from 0 (b ∷ bytes)) ++ codes "\n"
