-- What is told of a search, put together of what was told before its end and there.
use Rattle.std.proofs.Common.{ℕ, ◌≡◌, ◌∙◌, ◌⊎◌, Bool, true, false, List, Option, Some, None, refl, sym, subst, true≢false}
use Rattle.std.specs.Prelude.{IfOk, Result, Ok, Err}
use Rattle.std.specs.Io.KnownBytes.{Appends}
use Rattle.allowed_races.specs.declared.allowed.Allowed.{Allowed}
use Rattle.types.specs.declared.parts.Parts.{Parts}
use Rattle.replay_forms.proofs.Written.{appends_then}
use Rattle.search_finds.specs.declared.finding.Halt.{Halt}
use Rattle.search_finds.specs.declared.finding.Halt.TheVariants as halts
use Rattle.search_finds.specs.declared.met.EndingTable.{EndingTable}
use Rattle.selection.specs.declared.sought.Sought.{Sought}
use Rattle.report_command.specs.declared.form.Form.{Form}
use Rattle.report_command.specs.declared.form.Form.TheVariants.{Lines, Json}
use Rattle.report_command.specs.declared.search.Search.{Search}
use Rattle.report_jobs.specs.Prints.{WriterChange, change}
use Rattle.report_json.specs.declared.raced.RunRaces.{RunRaces}
use Rattle.report_lines.specs.Found.{found_run_line}
use Rattle.report_telling.specs.Complete.{complete_lines}
use Rattle.report_telling.specs.Found.{found_lines, kept_text}
use Rattle.report_telling.specs.Racing.{SaysRaced}
use Rattle.report_telling.specs.declared.found.FoundRun.{FoundRun}
use Rattle.report_telling.specs.declared.found.KeptRun.{KeptRun}
use Rattle.report_telling.specs.declared.racing.KeptRace.{KeptRace}
use Rattle.report_telling.specs.Drawn.{coverage_of}
use Rattle.report_telling.specs.SearchObjects.{WritesAll, WritesKept, WritesRacy, WritesTable, none_of}
use Rattle.report_telling.specs.Telling.{EndsAll, EndsKept, EndsNone, EndsRacy, InLines, head_lines}
use Rattle.report_telling.specs.declared.telling.ToldSearch.{ToldSearch}
use Rattle.report.specs.Told.{was_told, AllIn, LastIn, NoneIn, RacyIn, TellsDrawn, TellsDrawnRaces}
use Rattle.report.specs.Searched.{IsDrawn, IsGoneThrough, IsSearched, IsSearchedBy, IsSettled}
use Rattle.report.specs.Searches.{Finds}
use Rattle.report.specs.Rest.{RestIn}

-- both of an answer
pub if_both : {T E : Type 0} (r : Result T E) (P Q R : T → Type 0) → ((x : T) → P x → Q x → R x) → IfOk r P → IfOk r Q → IfOk r R
if_both (Ok x) P Q R f p q = f x p q
if_both (Err e) P Q R f p q = tt

-- where nothing was found and nobody told it to end, all runs were made
pub all_made_by : (h : Halt) → ((f : _) → h ≡ halts.Found f → ⊥) → was_told h ≡ false → h ≡ halts.AllMade
all_made_by (halts.Found f) unfound untold = absurd (unfound f refl)
all_made_by halts.AllMade unfound untold = refl
all_made_by halts.Told unfound untold = absurd (true≢false untold)

-- what comes of a search, of every order or of drawn runs
module _ (m : Parts) (s : Search) (may : Allowed) (out save : WriterChange) (status : ℕ) where
  pub endings_drawn : s.races ≡ false → Finds m s may save status → TellsDrawn m s out save status → IsDrawn m s may out save status
  endings_drawn raceless finds tells = record {
    finds = finds;
    races = λ is. absurd (true≢false (sym is ∙ raceless));
    endings = λ _. tells;
  }

  pub races_drawn : s.races ≡ true → Finds m s may save status → TellsDrawnRaces m s may out save status → IsDrawn m s may out save status
  races_drawn races finds tells = record {
    finds = finds;
    races = λ _. tells;
    endings = λ is. absurd (true≢false (sym races ∙ is));
  }

  pub by_orders : (most : ℕ) → s.all ≡ Some most → s.first ≡ false → IsGoneThrough most m s may out save status → IsSearched m s may out save status
  by_orders most all first gone = subst (λ (o : Option ℕ). IsSearchedBy o s.first m s may out save status) (sym all)
      (subst (λ (is : Bool). IsSearchedBy (Some most) is m s may out save status) (sym first) gone)

  pub by_first : (most : ℕ) → s.all ≡ Some most → s.first ≡ true → IsSettled most m s may out save status ⊎ IsDrawn m s may out save status
      → IsSearched m s may out save status
  by_first most all first is = subst (λ (o : Option ℕ). IsSearchedBy o s.first m s may out save status) (sym all)
      (subst (λ (is : Bool). IsSearchedBy (Some most) is m s may out save status) (sym first) is)

  pub by_draws : s.all ≡ None → IsDrawn m s may out save status → IsSearched m s may out save status
  by_draws none drawn = subst (λ (o : Option ℕ). IsSearchedBy o s.first m s may out save status) (sym none) drawn

pub all_told : (form : Form) (m : Parts) (t : ToldSearch) (found : Option FoundRun) (a b c : Option (List ℕ))
    → InLines form (change a b) (SaysRaced m t.raced.now) → RestIn form m t found (change b c) → AllIn form m t found (change a c)
all_told Lines m t found a b c (race, wrote, says) rest = record {
  race = race;
  says = says;
  lines = appends_then a b c race _ wrote rest;
}
all_told Json m t found a b c raced rest = subst (λ (o : Option (List ℕ)). WritesAll m t (change o c)) raced rest

pub rest_told : (form : Form) (m : Parts) (t : ToldSearch) (found : Option FoundRun) (a b c d : Option (List ℕ))
    → InLines form (change a b) (λ text. text ≡ complete_lines t.most t.whole.now.racing t.whole.now.all)
    → InLines form (change b c) (λ text. text ≡ found_lines found) → EndsAll form m t (change c d) → RestIn form m t found (change a d)
rest_told Lines m t found a b c d (whole, wrote, is_whole) (head, wrote_head, is_head) rest =
    appends_then a b d (complete_lines t.most t.whole.now.racing t.whole.now.all) _
    (subst (λ (x : List ℕ). Appends a b x) is_whole wrote)
    (appends_then b c d (found_lines found) _ (subst (λ (x : List ℕ). Appends b c x) is_head wrote_head) rest)
rest_told Json m t found a b c d whole head rest = subst (λ (o : Option (List ℕ)). WritesAll m t (change o d)) (head ∙ whole) rest

pub last_told : (form : Form) (s : Search) (table : EndingTable) (run : ℕ) (k : KeptRun) (a b c d : Option (List ℕ))
    → InLines form (change a b) (λ text. text ≡ head_lines s.sought table) → InLines form (change b c) (λ text. text ≡ found_run_line run)
    → EndsKept form s.sought table k (change c d) → LastIn form s table run k (change a d)
last_told Lines s table run k a b c d (rows, wrote, is_rows) (head, wrote_head, is_head) rest =
    appends_then a b d (head_lines s.sought table) _ (subst (λ (x : List ℕ). Appends a b x) is_rows wrote)
    (appends_then b c d (found_run_line run) (kept_text s.sought.dump k) (subst (λ (x : List ℕ). Appends b c x) is_head wrote_head) rest)
last_told Json s table run k a b c d rows head rest =
    subst (λ (o : Option (List ℕ)). WritesKept s.sought table k (change o d)) (head ∙ rows) rest

pub racy_told : (form : Form) (m : Parts) (s : Search) (table : EndingTable) (run : ℕ) (k : KeptRace) (a b c d : Option (List ℕ))
    → InLines form (change a b) (λ text. text ≡ head_lines s.sought table) → InLines form (change b c) (λ text. text ≡ found_run_line run)
    → EndsRacy form m s.sought table k (change c d) → RacyIn form m s table run k (change a d)
racy_told Lines m s table run k a b c d (rows, wrote, is_rows) (head, wrote_head, is_head) rest = record {
  pair = rest.pair;
  says = rest.says;
  lines = appends_then a b d (head_lines s.sought table) _ (subst (λ (x : List ℕ). Appends a b x) is_rows wrote)
      (appends_then b c d (found_run_line run) _ (subst (λ (x : List ℕ). Appends b c x) is_head wrote_head) rest.lines);
}
racy_told Json m s table run k a b c d rows head rest =
    subst (λ (o : Option (List ℕ)). WritesRacy m s.sought table k (change o d)) (head ∙ rows) rest

pub none_told : (form : Form) (s : Sought) (table : EndingTable) (is_told : Bool) (races : Option RunRaces) (text : List ℕ) (status : ℕ)
    (a b c : Option (List ℕ)) → InLines form (change a b) (λ x. x ≡ head_lines s table)
    → EndsNone form s table is_told races text status (change b c) → NoneIn form s table is_told races text status (change a c)
none_told Lines s table is_told races text status a b c (rows, wrote, is_rows) rest =
    appends_then a b c (head_lines s table) text (subst (λ (x : List ℕ). Appends a b x) is_rows wrote) rest
none_told Json s table is_told races text status a b c rows rest =
    subst (λ (o : Option (List ℕ)). WritesTable s table status races (none_of is_told (coverage_of s table)) (change o c)) rows rest
