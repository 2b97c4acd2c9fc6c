-- What is told of a moment, in lines.
use Rattle.std.proofs.Common.{◌≡◌, ◌∙◌, ℕ, ◌<◌, List, [], ◌++◌, length, get_or, slice_get, codes, Option, Some, None, refl, sym, ap, subst}
use Rattle.std.proofs.lemmas.Option.{slice_get-get_or}
use Rattle.std.specs.Fmt.{decimal}
use Rattle.std.specs.List.{AllZip, concat}
use Rattle.std.specs.Io.KnownBytes.{Appends, Keeps}
use Rattle.types.specs.declared.event.Entry.{Entry}
use Rattle.race_history.specs.declared.race.Race.{Race}
use Rattle.selection.specs.declared.choice.NumberSpan.{NumberSpan}
use Rattle.show_text.specs.declared.words.Words.{Words}
use Rattle.show_text.specs.Words.{words_text}
use Rattle.show_rows.specs.declared.listing.Story.{Story}
use Rattle.show_rows.specs.Entries.{IsEntryText}
use Rattle.show_rows.specs.Listing.{line_at, AreWordsOf, IsStoryOf}
use Rattle.show_rows.proofs.Chosen.{appends_keeps}
use Rattle.show_rows.proofs.Texts.{AreWritten}
use Rattle.std.proofs.lemmas.List.{take_all}
use Rattle.std.proofs.Common.{◌≤◌}
use Rattle.show_moments.specs.declared.moment.Moment.{Moment}
use Rattle.show_moments.specs.declared.scene.MomentView.{MomentView}
use Rattle.show_moments.specs.declared.told.ToldMoment.{ToldMoment}
use Rattle.show_moments.specs.declared.told.ToldNext.{ToldNext}
use Rattle.show_moments.specs.declared.told.ToldThread.{ToldThread}
use Rattle.show_moments.specs.Lines.{SaysAsked, SaysComes, SaysNext, SaysStance, WritesMoment, WritesOthers, WritesThreads}
use Rattle.show_moments.specs.Scenes.{Seen, IsTold, log_of, seen_by}
use Rattle.show_moments.specs.Texts.{queue_text, dump_text}

-- All paragraphs, and nothing behind them.
pub all_told : {X : Type 0} (Q : X → List ℕ → Type 0) (xs : List X) (n : ℕ) (a b : Option (List ℕ)) → length xs ≤ n
    → AreWritten Q xs n a b → (texts : List (List ℕ)) × AllZip Q xs texts × Appends a b (concat texts)
all_told {X} Q xs n a b le (texts, all, wrote) = (texts, subst (λ (ys : List X). AllZip Q ys texts) (take_all n xs le) all, wrote)

same_Some : {X : Type 0} (x y : X) → Some x ≡ Some y → x ≡ y
same_Some x y e = cc

-- An entry of the log that stands at a place, and no other one does.
the_entry : (log whole : List Entry) (at : ℕ) (entry made : Entry) → log ≡ whole → at < length log → entry ≡ get_or log at entry
    → slice_get whole at ≡ Some made → entry ≡ made
the_entry log whole at entry made same within is there =
    let here : slice_get whole at ≡ Some entry =
    ap (λ (l : List Entry). slice_get l at) (sym same)
    ∙ (slice_get-get_or log at entry within ∙ ap (λ (e : Entry). Some e) (sym is)) in
    same_Some entry made (sym here ∙ there)

pub next_says : (s : Seen) (next : ToldNext) (log : List Entry) (entry : Entry) (said : Words) (line : ℕ) (front text : List ℕ)
    → log ≡ log_of s → next.at < length log → entry ≡ get_or log next.at entry → SaysStance s next.stance front
    → line ≡ line_at s.shown next.at → AreWordsOf s.shown s.story next.at entry said
    → text ≡ front ++ (codes "entry " ++ (decimal line ++ (codes ": " ++ (words_text said ++ codes "\n")))) → SaysNext s next text
next_says s next log entry said line front text same within here front_is line_is of is = λ made stands. record {
  front = front;
  front_is = front_is;
  said = said;
  words_of = subst (λ (e : Entry). AreWordsOf s.shown s.story next.at e said)
      (the_entry log (log_of s) next.at entry made same within here stands) of;
  is = is ∙ ap (λ (n : ℕ). front ++ (codes "entry " ++ (decimal n ++ (codes ": " ++ (words_text said ++ codes "\n"))))) line_is;
}

pub asked_none : (s : Seen) (asked : ℕ) (o : Option Entry) (text : List ℕ) → o ≡ None → text ≡ codes "sleeps; "
    → SaysAsked s asked o text
asked_none s asked o text none is = subst (λ (x : Option Entry). SaysAsked s asked x text) (sym none) is

pub asked_says : (s : Seen) (asked : ℕ) (log : List Entry) (made : Entry) (said : Words) (line : ℕ) (text : List ℕ)
    → log ≡ log_of s → asked < length log → made ≡ get_or log asked made → AreWordsOf s.shown s.story asked made said
    → line ≡ line_at s.shown asked → text ≡ words_text said ++ (codes ", since entry " ++ (decimal line ++ codes "; "))
    → SaysAsked s asked (slice_get (log_of s) asked) text
asked_says s asked log made said line text same within made_is of line_is is =
    let here : slice_get (log_of s) asked ≡ Some made =
    ap (λ (l : List Entry). slice_get l asked) (sym same)
    ∙ (slice_get-get_or log asked made within ∙ ap (λ (e : Entry). Some e) (sym made_is)) in
    subst (λ (x : Option Entry). SaysAsked s asked x text) (sym here)
    (said, of, is ∙ ap (λ (n : ℕ). words_text said ++ (codes ", since entry " ++ (decimal n ++ codes "; "))) line_is)

pub moment_of : (view : MomentView) (moment : Moment) (races : List Race) (story : Story) (told : ToldMoment) (log : List Entry)
    (threads : List ToldThread) (others queue dump : List ℕ) (a b c d e : Option (List ℕ)) → log ≡ view.shown.record.now.log → IsStoryOf log story
    → IsTold (seen_by view story moment) races told
    → threads ≡ told.threads.items → WritesThreads (seen_by view story moment) threads a b
    → others ≡ told.races.items → WritesOthers (seen_by view story moment) others b c
    → queue ≡ queue_text moment.queue → dump ≡ dump_text moment.wanted.addr moment.bytes.items → Appends c d (queue ++ dump)
    → Keeps d e → WritesMoment view moment races a e
moment_of view moment races story told log threads others queue dump a b c d e same of_log is ts says os raced queue_is dump_is wrote last = record {
  story = story;
  of_log = subst (λ (l : List Entry). IsStoryOf l story) same of_log;
  told = told;
  is_told = is;
  writes = record {
    said = b;
    says = subst (λ (xs : List ToldThread). WritesThreads (seen_by view story moment) xs a b) ts says;
    raced = c;
    races_with = subst (λ (xs : List ℕ). WritesOthers (seen_by view story moment) xs b c) os raced;
    ends = appends_keeps c d e (queue_text moment.queue ++ dump_text moment.wanted.addr moment.bytes.items)
        (subst (λ (t : List ℕ). Appends c d (queue_text moment.queue ++ t)) dump_is
        (subst (λ (t : List ℕ). Appends c d (t ++ dump)) queue_is wrote)) last;
  };
}
