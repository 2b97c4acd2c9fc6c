-- Whether all entries are chosen.
use Rattle.std.specs.Prelude.{◌==◌, ◌&&◌, Bool, is_none, length}
use Rattle.selection.specs.declared.choice.Choice.{Choice}

abbrev pub chooses_all : Choice → Bool
chooses_all choice = is_none choice.lines && (is_none choice.addrs && (length choice.threads.items == 0))
