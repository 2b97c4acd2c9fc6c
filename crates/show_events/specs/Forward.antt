-- Where a link leads.
use Rattle.std.specs.Prelude.{ℕ, ◌<◌}
use Rattle.show_events.specs.declared.links.Link.{Link}

-- To a later entry of a log that is so long.
abbrev pub IsForward : ℕ → Link → Type 0
IsForward entries link = (link.from < link.to) × (link.to < entries)
