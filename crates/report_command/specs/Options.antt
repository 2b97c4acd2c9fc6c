-- Which field of a job is which argument of the command line: a line for each.
use Rattle.std.specs.Prelude.{ℕ, ◌≡◌, ◌≢◌, ◌⊎◌, ◌||◌, ◌&&◌, Bool, true, false, List, map, ◌++◌, codes}
use Rattle.std.specs.Prelude.{Option, Some, None, option_map, MatchOption}
use Rattle.std.specs.Borrow.{Bor}
use Rattle.std.specs.Str.Iter.{HasSubslice}
use Rattle.clap.specs.Words.{first_value, rows_of, subcommand_name_of, subcommand_rows_of}
use Rattle.clap.specs.Words.{HasMatchesOf, app_of, IsParsedFrom}
use Rattle.clap.specs.declared.builder.command.Command.{Command}
use Rattle.clap.specs.declared.parser.matches.ArgMatches.{ArgMatches}
use Rattle.clap.specs.declared.parser.matches.Found.{Found}
use Rattle.types.specs.declared.outcome.Outcome.{Outcome}
use Rattle.selection.specs.declared.way.Way.{Way}
use Rattle.selection.specs.declared.way.Way.TheVariants.{Mix, Random, Priorities, Spin}
use Rattle.selection.specs.declared.choice.Color.{Color}
use Rattle.selection.specs.declared.choice.Color.TheVariants.{Auto, Always, Never}
use Rattle.selection.specs.declared.sought.Find.{Find}
use Rattle.selection.specs.declared.sought.Find.TheVariants.{Nothing, Failure, Words, NoEnd, ForEver}
use Rattle.selection.specs.declared.sought.SearchTarget.{SearchTarget}
use Rattle.selection.specs.declared.sought.Sought.{Sought}
use Rattle.report_command.specs.declared.limits.TheConstants.{DEFAULT_STATES, DEFAULT_SHRINK_SECONDS, FIRST_STATES}
use Rattle.report_command.specs.declared.call.CallWords.{CallWords}
use Rattle.report_command.specs.declared.command_line.RunJob.{RunJob}
use Rattle.report_command.specs.declared.memory.MemoryFile.{MemoryFile}
use Rattle.report_command.specs.declared.explain.Explain.{Explain}
use Rattle.report_command.specs.declared.explain.Explain.TheVariants as explains
use Rattle.report_command.specs.declared.form.Form.{Form}
use Rattle.report_command.specs.declared.form.Form.TheVariants.{Lines, Json}
use Rattle.report_command.specs.declared.form.EndLook.{EndLook}
use Rattle.report_command.specs.declared.command_line.Job.{Job}
use Rattle.report_command.specs.declared.command_line.Job.TheVariants as jobs
use Rattle.report_command.specs.declared.command_line.JobOrder.{JobOrder}
use Rattle.report_command.specs.declared.allowance.Allowance.{Allowance}
use Rattle.report_command.specs.declared.races.RacesJob.{RacesJob}
use Rattle.report_command.specs.declared.show.RecordView.{RecordView}
use Rattle.report_command.specs.declared.show.RecordView.TheVariants.{Rows, Unfolded, Moment, Write, Page, Trace}
use Rattle.report_command.specs.declared.show.RecordView.TheVariants.{Said, Object}
use Rattle.report_command.specs.declared.show.LastWrite.{LastWrite}
use Rattle.report_command.specs.declared.show.ShowLook.{ShowLook}
use Rattle.report_command.specs.declared.places.When.{When}
use Rattle.report_command.specs.declared.places.When.TheVariants.{End}
use Rattle.report_command.specs.Addresses.{IsAddress, IsBytes, IsData, IsMoment, IsSpan, IsStretch, IsThread}
use Rattle.report_command.specs.declared.search.Search.{Search}
use Rattle.report_command.specs.Found.{HasNo, is_given, is_said, HasText, HasTextIfAny, HasTexts, decimal_of, HasFlag, IsWord}
use Rattle.report_command.specs.Found.{HasNumber, HasNumberIfAny, HasNumberOr, IsReadIfAny, AreRead}
use Rattle.report_command.specs.Results.{IsSpelledBy}

-- The call of a run and of a search.
pub record AsksCall (f : Found) (call : CallWords) : Type 0 where
  pub invoke : HasText f (codes "invoke") call.invoke
  pub args : HasTexts f (codes "args") call.args.items
  pub fuel : HasNumber f (codes "fuel") call.fuel

-- In which form is printed.
abbrev pub is_json : Form → Bool
is_json Lines = false
is_json Json = true

abbrev pub AsksForm : Found → Form → Type 0
AsksForm f form = HasFlag f (codes "json") (is_json form)

-- How the end of a run is printed.
pub record AsksEndLook (f : Found) (look : EndLook) : Type 0 where
  pub dump_is : HasNumber f (codes "dump") look.dump
  pub units_is : HasFlag f (codes "units") look.units
  pub traps_is : HasFlag f (codes "explain") look.traps
  pub text_is : HasFlag f (codes "text") look.text
  pub form_is : AsksForm f look.form

-- A path with an address behind its last `@`, or a path alone.
abbrev pub IsMemoryFile : List ℕ → MemoryFile → Type 0
IsMemoryFile text file = ((file.path.now ≡ text) × (file.addr ≡ 0))
    ⊎ ((addr : List ℕ) × (text ≡ file.path.now ++ codes "@" ++ addr) × IsAddress addr file.addr)

-- What is laid over the memory of a run, or nothing.
abbrev pub AsksMemoryIn : Found → Option MemoryFile → Type 0
AsksMemoryIn f file = IsReadIfAny IsMemoryFile f (codes "memory-in") file

-- `check`
pub record AsksCheck (f : Found) (file : Bor (List ℕ)) (form : Form) : Type 0 where
  pub file_is : HasText f (codes "file") file
  pub form_is : AsksForm f form

-- `run`
pub record AsksRun (f : Found) (job : RunJob) : Type 0 where
  pub file : HasText f (codes "file") job.file
  pub call : AsksCall f job.call
  pub memory : IsWord f (codes "memory") (codes "words") job.on_words
  pub limit : HasNumber f (codes "limit") job.limit
  pub limit_said : job.is_limit_said ≡ is_said f (codes "limit")
  pub save : HasTextIfAny f (codes "record") job.save
  pub memory_in : AsksMemoryIn f job.memory_in
  pub memory_out : HasTextIfAny f (codes "memory-out") job.memory_out
  pub look : AsksEndLook f job.look

-- `replay`
pub record AsksReplay (f : Found) (file saved : Bor (List ℕ)) (look : EndLook) : Type 0 where
  pub file_is : HasText f (codes "file") file
  pub saved_is : HasText f (codes "record") saved
  pub look_is : AsksEndLook f look

-- Those of `--dump A:N`, or none.
abbrev pub AsksBytes : Found → ℕ → ℕ → Type 0
AsksBytes f addr count =
    MatchOption (first_value f (codes "dump")) ((addr ≡ 0) × (count ≡ 0)) (λ text. IsBytes text addr count)

-- Its entries, as rows or as an object, or what threads say.
abbrev pub AsksEntries : Found → RecordView → Type 0
AsksEntries f Rows = AsksForm f Lines × HasFlag f (codes "text") false × HasFlag f (codes "unfold") false
AsksEntries f Unfolded = AsksForm f Lines × HasFlag f (codes "text") false × HasFlag f (codes "unfold") true
AsksEntries f Said = AsksForm f Lines × HasFlag f (codes "text") true
AsksEntries f Object = AsksForm f Json
AsksEntries f (Moment at) = ⊥
AsksEntries f (Write write) = ⊥
AsksEntries f (Page path) = ⊥
AsksEntries f (Trace path) = ⊥

-- Which moment is asked for; where none is, nothing is.
abbrev pub AsksMoment : Found → When → Type 0
AsksMoment f when = (text : List ℕ) × (first_value f (codes "at") ≡ Some text) × IsMoment text when

-- Before which moment a write is sought; where none is asked for, before the end.
abbrev pub AsksBefore : Found → When → Type 0
AsksBefore f when = MatchOption (first_value f (codes "at")) (when ≡ End) (λ text. IsMoment text when)

-- The last write of which bytes, before which moment, and in which form.
abbrev pub AsksLastWrite : Found → LastWrite → Type 0
AsksLastWrite f write = ((text : List ℕ) × (first_value f (codes "last-write") ≡ Some text)
    × IsData IsStretch text write.bytes) × AsksBefore f write.before × AsksForm f write.form

-- What is made of a record, where no file is.
abbrev pub AsksShown : Found → RecordView → Type 0
AsksShown f Rows = HasNo f (codes "last-write") × HasNo f (codes "at") × AsksEntries f Rows
AsksShown f Unfolded = HasNo f (codes "last-write") × HasNo f (codes "at") × AsksEntries f Unfolded
AsksShown f Said = HasNo f (codes "last-write") × HasNo f (codes "at") × AsksEntries f Said
AsksShown f Object = HasNo f (codes "last-write") × HasNo f (codes "at") × AsksEntries f Object
AsksShown f (Moment at) = HasNo f (codes "last-write") × AsksMoment f at.when × AsksBytes f at.addr at.count
    × HasFlag f (codes "raw") at.is_raw × HasFlag f (codes "unfold") at.is_unfolded × HasFlag f (codes "text") at.text
    × AsksForm f at.form
AsksShown f (Write write) = AsksLastWrite f write
AsksShown f (Page path) = ⊥
AsksShown f (Trace path) = ⊥

-- What is made of a record.
abbrev pub AsksView : Found → RecordView → Type 0
AsksView f (Page path) = HasText f (codes "html") path
AsksView f (Trace path) = HasText f (codes "trace") path
AsksView f view = HasNo f (codes "html") × HasNo f (codes "trace") × AsksShown f view

abbrev pub AsksColor : Found → Color → Type 0
AsksColor f Always = first_value f (codes "color") ≡ Some (codes "always")
AsksColor f Never = first_value f (codes "color") ≡ Some (codes "never")
AsksColor f Auto =
    (first_value f (codes "color") ≢ Some (codes "always")) × (first_value f (codes "color") ≢ Some (codes "never"))

-- Which entries of a record are shown, how, and what is made of it. Bytes may be given by their addresses, or by words.
pub record AsksLook (f : Found) (how : ShowLook) : Type 0 where
  pub lines : AreRead IsSpan f (codes "lines") how.lines.items
  pub threads : AreRead IsThread f (codes "thread") how.threads.items
  pub bytes : AreRead (IsData IsSpan) f (codes "addr") how.bytes.items
  pub width : HasNumber f (codes "width") how.width
  pub color : AsksColor f how.color
  pub source : HasTextIfAny f (codes "source") how.source
  pub view : AsksView f how.view

-- `show`
pub record AsksShow (f : Found) (file saved : Bor (List ℕ)) (names : Option (Bor (List ℕ))) (how : ShowLook) : Type 0 where
  pub file_is : HasText f (codes "file") file
  pub saved_is : HasText f (codes "record") saved
  pub names_is : HasTextIfAny f (codes "names") names
  pub look_is : AsksLook f how

-- Which accesses may race: those to these bytes, by their addresses or by words, and atomic ones of different widths.
pub record AsksAllowance (f : Found) (allow : Allowance) : Type 0 where
  pub bytes : AreRead (IsData IsSpan) f (codes "allow-race") allow.bytes.items
  pub mixed : HasFlag f (codes "allow-mixed") allow.mixed

-- `races`
pub record AsksRaces (f : Found) (job : RacesJob) : Type 0 where
  pub file_is : HasText f (codes "file") job.file
  pub saved_is : HasText f (codes "record") job.saved
  pub names_is : HasTextIfAny f (codes "names") job.names
  pub most_is : HasNumber f (codes "most") job.most
  pub allow_is : AsksAllowance f job.allow
  pub form_is : AsksForm f job.form

-- The strategy that a word names.
abbrev pub IsWay : List ℕ → Way → Type 0
IsWay word Mix = word ≡ codes "mix"
IsWay word Random = word ≡ codes "random"
IsWay word Spin = word ≡ codes "spin"
IsWay word (Priorities depth) = (digits : List ℕ) × (word ≡ codes "pct:" ++ digits) × (depth ≡ decimal_of digits)

abbrev pub AsksWay : Found → Way → Type 0
AsksWay f way = (word : List ℕ) × (first_value f (codes "strategy") ≡ Some word) × IsWay word way

-- The words in which a search through every order says that no run ends from some state, and that a fair run goes on for
-- ever.
abbrev pub no_end_words : List ℕ
no_end_words = codes "from which no run ends"

abbrev pub for_ever_words : List ℕ
for_ever_words = codes "a fair run can go on for ever"

-- What is looked for by words that are given: a line of a thread that has them; or what the words say that they are a part
-- of, the first of the two where they are a part of both.
abbrev pub IsFindOf : List ℕ → Find → Type 0
IsFindOf words (Words text) = text.now ≡ words
IsFindOf words Nothing = ⊥
IsFindOf words Failure = ⊥
IsFindOf words NoEnd = HasSubslice no_end_words words
IsFindOf words ForEver = HasSubslice for_ever_words words × (HasSubslice no_end_words words → ⊥)

abbrev pub AsksFindOf : Found → Find → Type 0
AsksFindOf f find = (words : List ℕ) × (first_value f (codes "find") ≡ Some words) × IsFindOf words find

-- What is looked for by words; where none are given a trap or a stop, or nothing where a result is expected.
abbrev pub AsksFind : Found → Find → Type 0
AsksFind f (Words words) = HasText f (codes "find") words
AsksFind f Nothing = HasNo f (codes "find") × (is_given f (codes "expect") ≡ true)
AsksFind f Failure = HasNo f (codes "find") × HasNo f (codes "expect")
AsksFind f NoEnd = AsksFindOf f NoEnd
AsksFind f ForEver = AsksFindOf f ForEver

abbrev pub AsksResult : Found → Option Outcome → Type 0
AsksResult f result = IsReadIfAny IsSpelledBy f (codes "expect") result

pub record AsksTarget (f : Found) (target : SearchTarget) : Type 0 where
  pub find : AsksFind f target.find
  pub expect : AsksResult f target.expect

-- A search stops at the first run that is looked for where it is said what that is, or what becomes of it.
abbrev pub stops_by : Found → Bool → Bool → Bool
stops_by f shrink races =
    is_given f (codes "find") || is_given f (codes "expect") || is_given f (codes "record") || shrink || races

-- Which runs a search makes.
pub record AsksSought (f : Found) (s : Sought) : Type 0 where
  pub way : AsksWay f s.way
  pub seed : HasNumber f (codes "seed") s.seed
  pub from : HasNumber f (codes "from") s.from
  pub runs : HasNumber f (codes "runs") s.runs
  pub limit : HasNumber f (codes "limit") s.limit
  pub dump : HasNumber f (codes "dump") s.dump
  pub target : AsksTarget f s.target

-- The words say which runs are drawn.
abbrev pub names_runs : Found → Bool
names_runs f = is_said f (codes "runs") || is_said f (codes "from") || is_said f (codes "seed") || is_said f (codes "strategy")

-- How many states are met at most, where every order is gone through, and whether that is so before runs are drawn: unless
-- they are drawn at once.
abbrev pub AsksStates : Found → Bool → Bool → Option ℕ → Bool → Type 0
AsksStates f true at_once all first =
    (n : ℕ) × HasNumberOr f (codes "states") DEFAULT_STATES n × (all ≡ Some n) × (first ≡ false)
AsksStates f false true all first = (all ≡ None) × (first ≡ false)
AsksStates f false false all first = (all ≡ Some FIRST_STATES) × (first ≡ true)

-- They are drawn at once where they are named, where a small run with a race is looked for, or one by words of lines of
-- threads whose units or whose record's room ran out.
pub record AsksAll (f : Found) (shrink races : Bool) (all : Option ℕ) (first : Bool) : Type 0 where
  pub is_all : Bool
  pub flag : HasFlag f (codes "all") is_all
  pub spent : Bool
  pub finds : spent ≡ true → is_given f (codes "find") ≡ true
  pub states : AsksStates f is_all (names_runs f || (shrink && races) || spent) all first

-- For how long and by how many threads.
pub record AsksEffort (f : Found) (shrink_time : ℕ) (time jobs : Option ℕ) : Type 0 where
  pub shrink_time_is : HasNumberOr f (codes "shrink-time") DEFAULT_SHRINK_SECONDS shrink_time
  pub time_is : HasNumberIfAny f (codes "time") time
  pub jobs_is : HasNumberIfAny f (codes "jobs") jobs

-- `search`
pub record AsksSearch (f : Found) (s : Search) : Type 0 where
  pub file : HasText f (codes "file") s.file
  pub call : AsksCall f s.call
  pub sought : AsksSought f s.sought
  pub stops : s.sought.stops ≡ stops_by f s.shrink s.races
  pub limit_said : s.is_limit_said ≡ is_said f (codes "limit")
  pub shrink : HasFlag f (codes "shrink") s.shrink
  pub effort : AsksEffort f s.shrink_time s.time s.jobs
  pub all : AsksAll f s.shrink s.races s.all s.first
  pub every_order : IsWord f (codes "orders") (codes "all") s.every_order
  pub deep : HasFlag f (codes "deep") s.deep
  pub races : HasFlag f (codes "races") s.races
  pub allow_races : HasFlag f (codes "allow-races") s.allow_races
  pub allow : AsksAllowance f s.allow
  pub until : HasTextIfAny f (codes "until") s.until
  pub save : HasTextIfAny f (codes "record") s.save
  pub form_is : AsksForm f s.form

-- The job of a command.
abbrev pub AsksJob : Found → Job → Type 0
AsksJob f (jobs.Check file form) = AsksCheck f file form
AsksJob f (jobs.Run job) = AsksRun f job
AsksJob f (jobs.Replay file saved look) = AsksReplay f file saved look
AsksJob f (jobs.Show file saved names how) = AsksShow f file saved names how
AsksJob f (jobs.Races job) = AsksRaces f job
AsksJob f (jobs.Search s) = AsksSearch f s

-- Its command.
abbrev pub command_name : Job → List ℕ
command_name (jobs.Check file form) = codes "check"
command_name (jobs.Run job) = codes "run"
command_name (jobs.Replay file saved look) = codes "replay"
command_name (jobs.Show file saved names how) = codes "show"
command_name (jobs.Races job) = codes "races"
command_name (jobs.Search s) = codes "search"

abbrev pub AsksNamed : List ℕ → Found → Job → Type 0
AsksNamed name f job = (command_name job ≡ name) × AsksJob f job

-- When more is said of what went wrong.
abbrev pub AsksExplain : Found → Explain → Type 0
AsksExplain f explains.Always = HasFlag f (codes "explain") true
AsksExplain f explains.Never = HasFlag f (codes "explain") false × HasFlag f (codes "no-explain") true
AsksExplain f explains.Auto = HasFlag f (codes "explain") false × HasFlag f (codes "no-explain") false

-- Whether it is, where standard error is a terminal or isn't.
abbrev pub is_explained : Explain → Bool → Bool
is_explained explains.Always is_terminal = true
is_explained explains.Never is_terminal = false
is_explained explains.Auto is_terminal = is_terminal

-- What the parser found asks for: the command, and its arguments.
pub record IsOrderOf (m : ArgMatches) (order : JobOrder) : Type 0 where
  pub found : Found
  pub command : subcommand_name_of m ≡ Some (command_name order.job)
  pub arguments : option_map (λ s. s.1) (subcommand_rows_of m) ≡ Some (rows_of found)
  pub job : AsksJob found order.job
  pub explain : AsksExplain found order.explain

-- What a command line that `clap` parses finds in the words asks for.
pub record IsAskedBy (words : List (List ℕ)) (order : JobOrder) : Type 0 where
  pub command : Command
  pub matches : ArgMatches
  pub parsed : IsParsedFrom command matches
  pub found : HasMatchesOf (app_of command) words matches
  pub order_is : IsOrderOf matches order

abbrev pub IsJobOf : List (List ℕ) → Job → Type 0
IsJobOf words job = (order : JobOrder) × (order.job ≡ job) × IsAskedBy words order

abbrev pub texts_in : List (Bor (List ℕ)) → List (List ℕ)
texts_in texts = map (λ text. text.now) texts
