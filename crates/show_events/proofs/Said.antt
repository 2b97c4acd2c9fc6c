-- What is written of an entry, of all that are chosen, and what stands around it.
use Rattle.std.proofs.Common.{◌≡◌, ◌∙◌, ◌<◌, ℕ, List, [], ◌++◌, Option, Some, length, get_or, codes, refl, ap, subst}
use Rattle.std.specs.List.{enumerate_from}
use Rattle.std.specs.Io.KnownBytes.{Appends, Keeps}
use Rattle.types.specs.declared.event.Entry.{Entry}
use Rattle.types.specs.declared.outcome.ThreadReport.{ThreadReport}
use Rattle.types.specs.declared.value.Value.{Value}
use Rattle.replay_text.specs.declared.parts.RecordParts.{RecordParts}
use Rattle.race_history.specs.declared.race.Race.{Race}
use Rattle.selection.specs.declared.choice.Look.{Look}
use Rattle.show_text.specs.declared.words.Words.{Words}
use Rattle.show_text.specs.Words.{words_text}
use Rattle.show_text.specs.Rows.{RowText}
use Rattle.show_rows.specs.declared.listing.Shown.{Shown}
use Rattle.show_rows.specs.declared.listing.Story.{Story}
use Rattle.show_rows.specs.Listing.{line_at, chosen, AreWordsOf, IsPlaceTextOf, IsStoryOf}
use Rattle.replay_forms.proofs.Written.{appends_then}
use Rattle.show_rows.proofs.Chosen.{appends_keeps}
use Rattle.show_rows.proofs.Saying.{says_of}
use Rattle.show_events.specs.declared.line.Front.TheVariants.{Open, Next, Close}
use Rattle.show_events.specs.declared.links.Link.{Link}
use Rattle.show_events.specs.Links.{AreLinks, Lasts, in_list}
use Rattle.show_events.specs.Events.{line_text, entry_json, process_json, InTurn, AreThreadsOf, AreAmong, AddsName, AddsEvent}
use Rattle.show_events.specs.Events.{AddsArrow, AddsEvents, arrow_text, finish_json, kind_text, start_json}
use Rattle.show_events.specs.Around.{around, failure}
use Rattle.show_events.specs.Page.{events_tag, run_tag}
use Rattle.show_events.specs.Run.{AddsArgument, AddsEnded, AddsMoment, AddsRun, head_json}
use Rattle.show_events.specs.Written.{WritesPage}
use Rattle.show_events.specs.declared.run.MomentText.{MomentText}

pub event_says : (shown : Shown) (story : Story) (at long line : ℕ) (log : List Entry) (d : Entry) (said : Words)
    (words place json : List ℕ) (old new : Option (List ℕ)) → log ≡ shown.record.now.log → at < length shown.record.now.log
    → AreWordsOf shown story at (get_or log at d) said → words ≡ words_text said
    → IsPlaceTextOf shown story at place → line ≡ line_at shown at → Lasts story.contexts.items at long
    → json ≡ entry_json (record { line = line; thread = (get_or log at d).thread; words = words; place = place }) at long
    → Appends old new (line_text Next json) → AddsEvent shown story at old new
event_says shown story at long line log d said words place json old new same within of words_are place_is line_is lasts is wrote =
    let row : RowText = record { line = line; thread = (get_or log at d).thread; words = words; place = place } in (
      row,
      long,
      says_of shown story at log d said row same within of line_is refl words_are place_is,
      lasts,
      subst (λ (t : List ℕ). Appends old new (line_text Next t)) is wrote,
    )

-- The parts of what is written, one behind the other; the lists that are gone through are those of the log.
pub events_of : (shown : Shown) (races : List Race) (places : List ℕ) (story : Story) (log : List Entry) (links linked : List Link)
    (threads named : List ℕ) (among known : List (Option ℕ)) (a b c d e f : Option (List ℕ)) → log ≡ shown.record.now.log
    → IsStoryOf log story → AreLinks log story races links → AreThreadsOf log places threads → AreAmong log places among
    → linked ≡ links → named ≡ threads → known ≡ among → Appends a b (line_text Open process_json) → InTurn AddsName named b c
    → InTurn (AddsEvent shown story) places c d → InTurn (AddsArrow known) (enumerate_from 0 linked) d e
    → Appends e f (line_text Close []) → AddsEvents shown races places a f
events_of shown races places story log links linked threads named among known a b c d e f same of_log are_links are_threads are_among
    linked_is named_is known_is opens names says draws closes = record {
      story = story;
      of_log = subst (λ (l : List Entry). IsStoryOf l story) same of_log;
      links = links;
      of_story = subst (λ (l : List Entry). AreLinks l story races links) same are_links;
      threads = threads;
      of_places = subst (λ (l : List Entry). AreThreadsOf l places threads) same are_threads;
      among = among;
      are_among = subst (λ (l : List Entry). AreAmong l places among) same are_among;
      opened = b;
      opens = opens;
      named = c;
      names = subst (λ (ts : List ℕ). InTurn AddsName ts b c) named_is names;
      said = d;
      says = says;
      drawn = e;
      draws = subst (λ (xs : List (Option ℕ)). InTurn (AddsArrow xs) (enumerate_from 0 links) d e) known_is
          (subst (λ (ls : List Link). InTurn (AddsArrow known) (enumerate_from 0 ls) d e) linked_is draws);
      closes = closes;
    }

-- What a page has of its run, by the lists that are gone through.
pub run_of : (r : RecordParts) (chosen : ℕ) (moments : List MomentText) (args : List Value) (ends : List ThreadReport)
    (head : List ℕ) (a b c d e f : Option (List ℕ)) → args ≡ r.args → ends ≡ r.ends → head ≡ head_json r chosen
    → Appends a b (line_text Open head) → InTurn AddsArgument args b c → InTurn AddsEnded ends c d
    → InTurn AddsMoment moments d e → Appends e f (line_text Close []) → AddsRun r chosen moments a f
run_of r chosen moments args ends head a b c d e f args_are ends_are head_is opens asks says tells closes = record {
  opened = b;
  opens = subst (λ (t : List ℕ). Appends a b (line_text Open t)) head_is opens;
  asked = c;
  asks = subst (λ (xs : List Value). InTurn AddsArgument xs b c) args_are asks;
  ended = d;
  ends = subst (λ (xs : List ThreadReport). InTurn AddsEnded xs c d) ends_are says;
  told = e;
  tells = tells;
  closes = closes;
}

pub page_of : (shown : Shown) (races : List Race) (moments : List MomentText) (look : Look) (n : ℕ)
    (places style body script : List ℕ) (a b c d e f g h i j : Option (List ℕ)) → n ≡ length (chosen shown look)
    → places ≡ around (failure shown.record.now) (chosen shown look) → Appends a b style → Appends b c body
    → Appends c d run_tag → AddsRun shown.record.now n moments d e → Appends e f events_tag
    → AddsEvents shown races places f g → Appends g h (codes "</script>") → Appends h i script → Keeps i j
    → WritesPage shown races moments look a j
page_of shown races moments look n places style body script a b c d e f g h i j many are styled bodied opens run goes events ends
    scripted last = record {
      front = style ++ body;
      begun = d;
      begins = appends_then a c d (style ++ body) run_tag (appends_then a b c style body styled bodied) opens;
      told = e;
      tells = subst (λ (k : ℕ). AddsRun shown.record.now k moments d e) many run;
      from = f;
      goes_on = goes;
      to = g;
      events = subst (λ (ps : List ℕ). AddsEvents shown races ps f g) are events;
      back = script;
      ends = appends_keeps g i j (codes "</script>" ++ script) (appends_then g h i (codes "</script>") script ends scripted) last;
    }

-- Both lines of an arrow whose ends are known.
pub arrow_says : (among : List (Option ℕ)) (number : ℕ) (link : Link) (from to : ℕ) (kind start finish : List ℕ)
    (a b c : Option (List ℕ)) → Some from ≡ in_list among link.from → Some to ≡ in_list among link.to → kind ≡ kind_text link.kind
    → start ≡ start_json kind number from link.from → finish ≡ finish_json kind number to link.to
    → Appends a b (line_text Next start) → Appends b c (line_text Next finish) → AddsArrow among (number, link) a c
arrow_says among number link from to kind start finish a b c from_is to_is kind_is start_is finish_is first second =
    let s : start ≡ start_json (kind_text link.kind) number from link.from =
    start_is ∙ ap (λ (k : List ℕ). start_json k number from link.from) kind_is in
    let f : finish ≡ finish_json (kind_text link.kind) number to link.to =
    finish_is ∙ ap (λ (k : List ℕ). finish_json k number to link.to) kind_is in
    let both : Appends a c (line_text Next start ++ line_text Next finish) =
    appends_then a b c (line_text Next start) (line_text Next finish) first second in
    let known : Appends a c (arrow_text (Some from) (Some to) number link) =
    subst (λ (t : List ℕ). Appends a c (line_text Next (start_json (kind_text link.kind) number from link.from) ++ line_text Next t)) f
    (subst (λ (t : List ℕ). Appends a c (line_text Next t ++ line_text Next finish)) s both) in
    subst (λ (o : Option ℕ). Appends a c (arrow_text (in_list among link.from) o number link)) to_is
    (subst (λ (o : Option ℕ). Appends a c (arrow_text o (Some to) number link)) from_is known)
