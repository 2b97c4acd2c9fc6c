-- How what is found is told: each line as soon as it is known, or one object at the end.
use Rattle.std.specs.Prelude.{ℕ, ◌≡◌, ◌≤◌, Bool, List, ◌++◌, Option}
use Rattle.std.specs.Io.KnownBytes.{Appends}
use Rattle.types.specs.declared.parts.Parts.{Parts}
use Rattle.search_finds.specs.declared.met.EndingTable.{EndingTable}
use Rattle.selection.specs.declared.sought.Sought.{Sought}
use Rattle.report_command.specs.declared.form.Form.{Form}
use Rattle.report_command.specs.declared.form.Form.TheVariants.{Lines, Json}
use Rattle.report_jobs.specs.Prints.{WriterChange}
use Rattle.report_json.specs.declared.raced.RunRaces.{RunRaces}
use Rattle.report_lines.specs.Drawn.{cut_line}
use Rattle.report_lines.specs.Found.{found_run_line}
use Rattle.report_looks.specs.Raced.{SaysFound}
use Rattle.report_looks.specs.Sighted.{CanBeTold}
use Rattle.report_telling.specs.Complete.{complete_lines}
use Rattle.report_telling.specs.Drawn.{coverage_of, cut_in, table_lines}
use Rattle.report_telling.specs.NoneFound.{text_of_none}
use Rattle.report_telling.specs.Found.{found_lines, kept_lines, kept_text, run_lines, shrunk_text}
use Rattle.report_telling.specs.Racing.{CanTell, IsRacedIn, IsRacyRun, SaysRaced, Tells}
use Rattle.report_telling.specs.declared.found.KeptRun.{KeptRun}
use Rattle.report_telling.specs.declared.racing.KeptRace.{KeptRace}
use Rattle.report_telling.specs.SearchObjects.{WritesAll, WritesKept, WritesRacy, WritesTable, none_of}
use Rattle.report_telling.specs.declared.telling.ToldSearch.{ToldSearch}
use Rattle.report_telling.specs.declared.table.DrawnTable.{DrawnTable}
use Rattle.report_telling.specs.declared.telling.Conclusion.{Conclusion}
use Rattle.report_telling.specs.declared.telling.Conclusion.TheVariants as ends
use Rattle.report_telling.specs.declared.telling.News.{News}
use Rattle.report_telling.specs.declared.telling.News.TheVariants as news

-- Of lines a text that says so was written; of an object nothing, before its end.
abbrev pub InLines : Form → WriterChange → (List ℕ → Type 0) → Type 0
InLines Lines out Says = Tells out Says
InLines Json out Says = out.new ≡ out.old

-- At the end the lines of what is kept, or the object of all that is told.
abbrev pub EndsAll : Form → Parts → ToldSearch → WriterChange → Type 0
EndsAll Lines m t out = Appends out.old out.new (kept_lines t.dump t.kept.now)
EndsAll Json m t out = WritesAll m t out

-- The lines of a table, and how many of its runs were cut.
abbrev pub head_lines : Sought → EndingTable → List ℕ
head_lines s table = table_lines s table ++ cut_line (cut_in table) s.limit

abbrev pub EndsKept : Form → Sought → EndingTable → KeptRun → WriterChange → Type 0
EndsKept Lines s table k out = Appends out.old out.new (kept_text s.dump k)
EndsKept Json s table k out = WritesKept s table k out

-- The sizes of the run, its races in the words of `races`, and its lines.
pub record TellsRacy (m : Parts) (dump : ℕ) (k : KeptRace) (out : WriterChange) : Type 0 where
  pub pair : List ℕ
  pub says : SaysFound k.racy.race.allowed m k.racy.made.record pair
  pub lines : Appends out.old out.new (shrunk_text k.shrunk ++ (pair ++ run_lines dump k.racy.made))

abbrev pub EndsRacy : Form → Parts → Sought → EndingTable → KeptRace → WriterChange → Type 0
EndsRacy Lines m s table k out = TellsRacy m s.dump k out
EndsRacy Json m s table k out = WritesRacy m s table k out

-- Where nothing was found these lines; or the object of the table, with what is known of races.
abbrev pub EndsNone : Form → Sought → EndingTable → Bool → Option RunRaces → List ℕ → ℕ → WriterChange → Type 0
EndsNone Lines s table is_told races text status out = Appends out.old out.new text
EndsNone Json s table is_told races text status out =
    WritesTable s table status races (none_of is_told (coverage_of s table)) out

-- What is known before the end can be told: a race, where it is one that can be, and a table, where no more of its runs
-- were cut than were made.
abbrev pub CanSay : News → Type 0
CanSay (news.Race raced) = CanTell raced.now
CanSay (news.Orders whole most) = Unit {0}
CanSay (news.Behind found) = Unit {0}
CanSay (news.Table drawn) = cut_in drawn.table.now ≤ drawn.table.now.runs
CanSay (news.Run run) = Unit {0}

-- It is so of a module's runs.
abbrev pub IsSo : Parts → News → Type 0
IsSo m (news.Race raced) = IsRacedIn m raced.now
IsSo m (news.Orders whole most) = Unit {0}
IsSo m (news.Behind found) = Unit {0}
IsSo m (news.Table drawn) = Unit {0}
IsSo m (news.Run run) = Unit {0}

-- Its lines.
abbrev pub Says : Parts → News → List ℕ → Type 0
Says m (news.Race raced) text = SaysRaced m raced.now text
Says m (news.Orders whole most) text = text ≡ complete_lines most whole.now.racing whole.now.all
Says m (news.Behind found) text = text ≡ found_lines found.now
Says m (news.Table drawn) text = text ≡ head_lines drawn.sought.now drawn.table.now
Says m (news.Run run) text = text ≡ found_run_line run

-- The same of the end.
abbrev pub CanConclude : Conclusion → Type 0
CanConclude (ends.Orders t) = CanTell t.raced.now
CanConclude (ends.Last drawn k) = cut_in drawn.table.now ≤ drawn.table.now.runs
CanConclude (ends.Racy drawn k) =
    (cut_in drawn.table.now ≤ drawn.table.now.runs) × CanBeTold k.now.racy.made.record k.now.racy.race
CanConclude (ends.None drawn none) = cut_in drawn.table.now ≤ drawn.table.now.runs

abbrev pub IsSoAtEnd : Parts → Conclusion → Type 0
IsSoAtEnd m (ends.Orders t) = IsRacedIn m t.raced.now
IsSoAtEnd m (ends.Last drawn k) = Unit {0}
IsSoAtEnd m (ends.Racy drawn k) = IsRacyRun m k.now.racy
IsSoAtEnd m (ends.None drawn none) = Unit {0}

abbrev pub EndsNothing : Form → DrawnTable → Option RunRaces → Bool → ℕ → WriterChange → Type 0
EndsNothing form drawn races is_told status out =
    EndsNone form drawn.sought.now drawn.table.now is_told races
    (text_of_none races is_told drawn.sought.now drawn.table.now) status out

abbrev pub Concludes : Form → Parts → Conclusion → WriterChange → Type 0
Concludes form m (ends.Orders t) out = EndsAll form m t out
Concludes form m (ends.Last drawn k) out = EndsKept form drawn.sought.now drawn.table.now k.now out
Concludes form m (ends.Racy drawn k) out = EndsRacy form m drawn.sought.now drawn.table.now k.now out
Concludes form m (ends.None drawn none) out = EndsNothing form drawn none.races none.is_told none.status out
