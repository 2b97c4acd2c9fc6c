-- What the event of an entry says, as a row has it.
use Rattle.show_text.specs.Rows.{RowText}
use Rattle.show_events.specs.declared.event.EntryEvent.{EntryEvent}

abbrev pub event_row : EntryEvent → RowText
event_row event = record { line = event.line; thread = event.thread; words = event.words.now; place = event.place.now }
