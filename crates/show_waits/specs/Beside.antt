-- What an event touches beside the memory that is left out.
use Rattle.std.specs.Prelude.{if◌then◌else◌, Option, None}
use Rattle.types.specs.declared.event.Event.{Event}
use Rattle.selection.specs.Choices.{is_left_out, touched}
use Rattle.selection.specs.declared.choice.NumberSpan.{NumberSpan}
use Rattle.selection.specs.declared.spans.Spans.{Spans}

-- The addresses that an event touches, or at which it waits or wakes, unless one of them is left out.
abbrev pub touched_beside : Option Spans → Event → Option NumberSpan
touched_beside out event = if is_left_out out event then None else touched event
