-- At which endings a search through all runs ends.
use Rattle.std.specs.Prelude.{◌≡◌, ◌&&◌, ◌||◌, not, Bool, true, false, List, is_some}
use Rattle.selection.specs.declared.sought.Find.{Find}
use Rattle.selection.specs.declared.sought.Find.TheVariants.{Nothing, Failure, Words, NoEnd, ForEver}
use Rattle.report_command.specs.declared.search.Search.{Search}
use Rattle.search_endings.specs.Endings.{Ending}
use Rattle.search_finds.specs.Finds.{IsLookedFor}
use Rattle.search_modules.specs.Endings.{HasSought}
use Rattle.search_reach.specs.declared.search.Verdict.{Verdict}
use Rattle.report_finds.specs.declared.whole.Early.{Early}

-- Where it is to end at one, those that are looked for.
abbrev pub IsSoughtBy : Early → Ending → Type 0
IsSoughtBy early ending = (early.is_wanted ≡ true) × IsLookedFor early.sought.now ending

-- Words are looked for.
abbrev pub has_words : Find → Bool
has_words Nothing = false
has_words Failure = false
has_words (Words words) = true
has_words NoEnd = false
has_words ForEver = false

-- It ends early where words are looked for or a result is expected, and no race is looked for.
abbrev pub ends_early : Search → Bool
ends_early s = not s.races && (is_some s.sought.target.expect || has_words s.sought.target.find)

-- The verdict says whether an ending of the list is looked for, where the search ends at one.
abbrev pub SaysSought : Search → Verdict → List Ending → Type 0
SaysSought s = HasSought (λ e. (ends_early s ≡ true) × IsLookedFor s.sought e)
