-- How many entries the log of a job takes, as a module asks for it.
use Rattle.std.specs.Prelude.{ℕ, ◌*◌, Bool, true, false, min}
use Rattle.types.specs.declared.limits.TheConstants.{MOST_LIMIT}
use Rattle.report_command.specs.declared.command_line.Job.{Job}
use Rattle.report_command.specs.declared.command_line.Job.TheVariants.{Check, Run, Replay, Show, Races, Search}

-- So many as the words say, or else so many times those that are usual.
abbrev pub room_for : ℕ → ℕ → Bool → ℕ
room_for factor limit true = limit
room_for factor limit false = min (limit * factor) MOST_LIMIT

-- The same job, with that room.
abbrev pub with_room : ℕ → Job → Job
with_room factor (Run job) = Run (record job { limit = room_for factor job.limit job.is_limit_said })
with_room factor (Search s) =
    Search (record s { sought = record s.sought { limit = room_for factor s.sought.limit s.is_limit_said } })
with_room factor (Check file form) = Check file form
with_room factor (Replay file saved look) = Replay file saved look
with_room factor (Show file saved names how) = Show file saved names how
with_room factor (Races job) = Races job
