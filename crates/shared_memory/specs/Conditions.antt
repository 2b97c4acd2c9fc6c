-- The conditions on events, as tests.
use Rattle.std.specs.Prelude.{ℕ, ◌+◌, ◌*◌, ◌%◌, ◌^◌, ◌==◌, ◌&&◌, ◌||◌, Bool, true, nat_lt, nat_le}
use Rattle.types.specs.declared.event.Event.{Event}
use Rattle.types.specs.declared.event.Event.TheVariants.{Size, Grow, Load, Store, Rmw, Cmpxchg, Ask, Told}
use Rattle.types.specs.declared.event.Question.{Question}
use Rattle.types.specs.declared.event.Question.TheVariants.{Wait, Notify, Spawn, Leave}

abbrev pub fits_width : ℕ → ℕ → Bool
fits_width width value = nat_lt value (2 ^ (8 * width))

abbrev pub is_part : ℕ → ℕ → ℕ → Bool
is_part addr width reach =
    nat_le 1 width && (nat_le (addr % 8 + width) 8 && (nat_le (addr + width) reach && nat_le reach (addr + 8)))

abbrev pub is_atomic : ℕ → ℕ → Bool
is_atomic addr width = (width == 1 || width == 2 || width == 4 || width == 8) && addr % width == 0

abbrev pub is_question : Question → Bool
is_question (Wait addr width expected timeout) =
    (width == 4 || width == 8) && (is_atomic addr width && fits_width width expected)
is_question (Notify addr count) = addr % 4 == 0
is_question (Spawn arg) = true
is_question Leave = true

abbrev pub is_event : Event → Bool
is_event Size = true
is_event (Grow more) = true
is_event (Load addr width reach) = is_part addr width reach
is_event (Store addr width reach value) = is_part addr width reach && fits_width width value
is_event (Rmw op addr width value) = is_atomic addr width && fits_width width value
is_event (Cmpxchg addr width expected replacement) = is_atomic addr width && fits_width width replacement
is_event (Ask question) = is_question question
is_event (Told answer) = true
