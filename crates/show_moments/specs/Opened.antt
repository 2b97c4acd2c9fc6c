-- The open functions of a thread, by what is kept of it.
use Rattle.std.specs.Prelude.{ℕ, ◌≡◌, ◌+◌, ◌-◌, ◌==◌, ◌&&◌, nat_le, if◌then◌else◌, List, [], length, Option, Some, None}
use Rattle.std.specs.Prelude.{slice_range}
use Rattle.std.specs.List.{slice_get}
use Rattle.interp.specs.declared.place.CodePlace.{CodePlace}
use Rattle.interp_state.specs.declared.state.Caller.{Caller}
use Rattle.interp_state.specs.declared.state.Progress.{Progress}
use Rattle.interp_state.specs.declared.state.Progress.TheVariants.{Asked}
use Rattle.show_moments.specs.declared.standing.ThreadSnapshot.{ThreadSnapshot}
use Rattle.show_moments.specs.declared.standing.OpenFunction.{OpenFunction}

-- The words from one place up to another, where there are so many.
abbrev pub words_in : List ℕ → ℕ → ℕ → List ℕ
words_in values from to = if nat_le from to && nat_le to (length values) then slice_range values from to else []

-- The words of a function end where those of the function begin that it called; else behind all.
abbrev pub end_by : ThreadSnapshot → ℕ → Option Caller → ℕ
end_by s above (Some caller) = caller.base
end_by s above None = if above == length s.callers.items then s.kept.base else length s.kept.values.items

abbrev pub end_of : ThreadSnapshot → ℕ → ℕ
end_of s number = end_by s (number + 1) (slice_get s.callers.items (number + 1))

abbrev pub before : CodePlace → CodePlace
before place = record { function = place.function; instr = place.instr - 1 }

-- As long as no answer came, a thread is at its question.
abbrev pub running_by : Progress → CodePlace → CodePlace
running_by Asked place = before place
running_by progress place = place

-- An open function: where it is, and the words of its locals and of its operands.
pub record IsFunctionOf (place : CodePlace) (values : List ℕ) (base operands end : ℕ) (o : OpenFunction) : Type 0 where
  pub place_is : o.place ≡ place
  pub locals_are : o.locals.now ≡ words_in values base operands
  pub operands_are : o.operands.now ≡ words_in values operands end

abbrev pub IsOpenBy : ThreadSnapshot → ℕ → Option Caller → OpenFunction → Type 0
IsOpenBy s end (Some caller) o = IsFunctionOf (before (record { function = caller.function; instr = caller.pc }))
    s.kept.values.items caller.base caller.operands end o
IsOpenBy s end None o =
    IsFunctionOf (running_by s.kept.progress s.place) s.kept.values.items s.kept.base s.kept.operands end o

-- The open function with this number: a caller is at its call, and the one that runs where the thread stands.
abbrev pub IsOpenFunction : ThreadSnapshot → ℕ → OpenFunction → Type 0
IsOpenFunction s number o = IsOpenBy s (end_of s number) (slice_get s.callers.items number) o
