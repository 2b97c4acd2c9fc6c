-- Where the entries of a record's run were made.
use Rattle.std.specs.Prelude.{◌≡◌, List, length, replicate, Option, None, Ok}
use Rattle.allowed_races.specs.declared.allowed.Allowed.{Allowed}
use Rattle.types.specs.declared.parts.Parts.{Parts}
use Rattle.replay_text.specs.declared.parts.RecordParts.{RecordParts}
use Rattle.spawn_host.specs.declared.end.EndState.{EndState}
use Rattle.replay.specs.Watching.{SeesReplay}
use Rattle.race_history.specs.declared.access.Site.{Site}
use Rattle.show_rows.specs.declared.rows.Row.{Row}
use Rattle.show_rows.specs.declared.rows.Rows.{Rows}
use Rattle.show_rows.specs.Rows.{RowsSee}
use Rattle.show_races.specs.Sites.{sites_in}

-- The rows of a record's entries, as a replay of it fills them: where the thread of each stands.
pub record AreRowsOf (m : Parts) (r : RecordParts) (end : EndState) (rows : List (Option Row)) : Type 0 where
  pub first : Rows
  pub last : Rows
  pub log : first.log.now ≡ r.log
  pub empty : first.rows.items ≡ replicate (length r.log) None
  pub sees : SeesReplay RowsSee m r (Ok end) first last
  pub filled : last.rows.items ≡ rows

-- The instructions of its entries, where their threads stand, and which of them may race.
abbrev pub sites_of : Allowed → Parts → RecordParts → List (Option Row) → List Site
sites_of allowed m r rows = sites_in allowed m rows r.log (length r.log)
