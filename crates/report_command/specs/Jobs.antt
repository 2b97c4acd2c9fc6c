-- The jobs of the command line.
use Rattle.std.specs.Prelude.{◌≤◌, ◌≢◌, IfSome, true, false, ◌≡◌, None}
use Rattle.types.specs.declared.limits.TheConstants.{MOST_LIMIT, MOST_FUEL}
use Rattle.report_command.specs.declared.limits.TheConstants.{MOST_DUMP, MOST_RACES, NARROWEST, WIDEST}
use Rattle.report_command.specs.declared.command_line.Job.{Job}
use Rattle.report_command.specs.declared.command_line.Job.TheVariants.{Check, Run, Replay, Show, Races, Search}
use Rattle.report_command.specs.declared.command_line.RunJob.{RunJob}
use Rattle.report_command.specs.declared.form.Form.{Form}
use Rattle.report_command.specs.declared.show.ShowLook.{ShowLook}
use Rattle.report_command.specs.Searches.{IsSearchInRange, SearchKeepsItsModule}
use Rattle.report_command.specs.Views.{IsViewInRange, view_form, path_of}

abbrev pub IsLookInRange : ShowLook → Type 0
IsLookInRange how = (NARROWEST ≤ how.width) × (how.width ≤ WIDEST) × IsViewInRange how.view

-- The numbers of a job are in their ranges.
abbrev pub IsInRange : Job → Type 0
IsInRange (Check file form) = Unit {0}
IsInRange (Run job) = (job.call.fuel ≤ MOST_FUEL) × (1 ≤ job.limit) × (job.limit ≤ MOST_LIMIT) × (job.look.dump ≤ MOST_DUMP)
IsInRange (Replay file saved look) = look.dump ≤ MOST_DUMP
IsInRange (Show file saved names how) = IsLookInRange how
IsInRange (Races job) = (1 ≤ job.most) × (job.most ≤ MOST_RACES)
IsInRange (Search s) = IsSearchInRange s

-- A run keeps no record at the path of its module, and none of a memory of words or where bytes are laid over it.
abbrev pub KeepsRecordApart : RunJob → Type 0
KeepsRecordApart job = IfSome job.save (λ path. (path.now ≢ job.file.now) × (job.on_words ≡ false) × (job.memory_in ≡ None))

-- Its memory goes to no path of a file that it reads, or of its record.
abbrev pub KeepsMemoryApart : RunJob → Type 0
KeepsMemoryApart job = IfSome job.memory_out (λ path. (path.now ≢ job.file.now)
    × IfSome job.save (λ saved. path.now ≢ saved.now) × IfSome job.memory_in (λ laid. path.now ≢ laid.path.now))

-- What its threads say is printed by its log alone, which a memory of words doesn't keep.
abbrev pub SaysByItsLog : RunJob → Type 0
SaysByItsLog job = job.look.text ≡ true → job.on_words ≡ false

-- A job makes no file at the path of one that it reads, or of another that it makes, and no record that can't be.
abbrev pub KeepsItsModule : Job → Type 0
KeepsItsModule (Check file form) = Unit {0}
KeepsItsModule (Run job) = KeepsRecordApart job × KeepsMemoryApart job × SaysByItsLog job
KeepsItsModule (Replay file saved look) = Unit {0}
KeepsItsModule (Show file saved names how) = IfSome (path_of how.view) (λ path. (path.now ≢ file.now)
    × (path.now ≢ saved.now))
KeepsItsModule (Races job) = Unit {0}
KeepsItsModule (Search s) = SearchKeepsItsModule s

-- In which form a job prints.
abbrev pub form_in : Job → Form
form_in (Check file form) = form
form_in (Run job) = job.look.form
form_in (Replay file saved look) = look.form
form_in (Show file saved names how) = view_form how.view
form_in (Races job) = job.form
form_in (Search s) = s.form
