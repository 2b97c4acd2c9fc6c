-- What is told of a moment, as lines.
use Rattle.std.specs.Prelude.{ℕ, ◌≡◌, ◌<◌, List, [], ◌++◌, codes, flat_map, length, Option, Some, None}
use Rattle.std.specs.List.{AllZip, concat, slice_get}
use Rattle.std.specs.Fmt.{decimal}
use Rattle.std.specs.Io.KnownBytes.{Appends}
use Rattle.types.specs.declared.event.Entry.{Entry}
use Rattle.race_history.specs.declared.race.Race.{Race}
use Rattle.selection.specs.declared.choice.NumberSpan.{NumberSpan}
use Rattle.show_text.specs.declared.words.Words.{Words}
use Rattle.show_text.specs.Words.{words_text}
use Rattle.show_rows.specs.declared.listing.Story.{Story}
use Rattle.show_rows.specs.Entries.{IsEntryText}
use Rattle.show_rows.specs.Listing.{line_at, AreWordsOf, IsStoryOf}
use Rattle.show_named.specs.LastTexts.{SaysPlace}
use Rattle.show_told.specs.Functions.{function_text}
use Rattle.show_moments.specs.declared.moment.Moment.{Moment}
use Rattle.show_moments.specs.declared.scene.MomentView.{MomentView}
use Rattle.show_moments.specs.declared.told.Stance.{Stance}
use Rattle.show_moments.specs.declared.told.Stance.TheVariants.{Wants, Ends, Owed, Asleep}
use Rattle.show_moments.specs.declared.told.ToldMoment.{ToldMoment}
use Rattle.show_moments.specs.declared.told.ToldNext.{ToldNext}
use Rattle.show_moments.specs.declared.told.ToldThread.{ToldThread}
use Rattle.show_moments.specs.Scenes.{Seen, IsTold, log_of, seen_by}
use Rattle.show_moments.specs.Texts.{queue_text, dump_text}

-- The question on which a thread sleeps, in words, and where it stands.
abbrev pub SaysAsked : Seen → ℕ → Option Entry → List ℕ → Type 0
SaysAsked s asked None text = text ≡ codes "sleeps; "
SaysAsked s asked (Some made) text = (said : Words) × AreWordsOf s.shown s.story asked made said
    × (text ≡ words_text said ++ (codes ", since entry " ++ (decimal (line_at s.shown asked) ++ codes "; ")))

-- How a thread stands to its first entry that isn't left out.
abbrev pub SaysStance : Seen → Stance → List ℕ → Type 0
SaysStance s Wants text = text ≡ codes "wants, "
SaysStance s Ends text = text ≡ codes "is at its end; "
SaysStance s Owed text = text ≡ codes "is owed its answer; "
SaysStance s (Asleep asked) text = SaysAsked s asked (slice_get (log_of s) asked) text

-- What a thread comes to next: how it stands to its first entry that isn't left out, the line of that, and its words.
pub record SaysComes (s : Seen) (next : ToldNext) (made : Entry) (text : List ℕ) : Type 0 where
  pub front : List ℕ
  pub front_is : SaysStance s next.stance front
  pub said : Words
  pub words_of : AreWordsOf s.shown s.story next.at made said
  pub is : text ≡ front ++ (codes "entry " ++ (decimal (line_at s.shown next.at)
      ++ (codes ": " ++ (words_text said ++ codes "\n"))))

abbrev pub SaysNext : Seen → ToldNext → List ℕ → Type 0
SaysNext s next text = (made : Entry) → slice_get (log_of s) next.at ≡ Some made → SaysComes s next made text

-- Who wrote last the bytes to which it comes, if it comes to some.
abbrev pub SaysLastThere : Seen → Option NumberSpan → Option ℕ → List ℕ → Type 0
SaysLastThere s None last text = text ≡ []
SaysLastThere s (Some addrs) last text = (entry : List ℕ) × SaysPlace s.shown s.map s.story (codes "nobody") last entry
    × (text ≡ codes "    last write there: " ++ (entry ++ codes "\n"))

abbrev pub SaysTouched : Seen → ToldNext → List ℕ → Type 0
SaysTouched s next text = SaysLastThere s next.touched next.last text

-- A thread: what it comes to next, who wrote these bytes last, and its open functions; or that it is gone.
abbrev pub SaysThreadBy : Seen → ℕ → Option ToldNext → List ℕ → Type 0
SaysThreadBy s thread None text = text ≡ codes "t" ++ (decimal thread ++ codes " is gone\n")
SaysThreadBy s thread (Some next) text = (comes last : List ℕ) × SaysNext s next comes × SaysTouched s next last
    × (text ≡ codes "t" ++ (decimal thread ++ (codes " " ++ (comes ++ (last
    ++ flat_map function_text next.functions.items)))))

abbrev pub SaysThread : Seen → ToldThread → List ℕ → Type 0
SaysThread s told text = SaysThreadBy s told.thread told.next text

abbrev pub WritesThreads : Seen → List ToldThread → Option (List ℕ) → Option (List ℕ) → Type 0
WritesThreads s threads old new =
    (texts : List (List ℕ)) × AllZip (SaysThread s) threads texts × Appends old new (concat texts)

-- That the entry of the moment races with another one.
abbrev pub SaysOther : Seen → ℕ → List ℕ → Type 0
SaysOther s other text = other < length (log_of s) → (entry : List ℕ) × IsEntryText s.shown s.story other entry
    × (text ≡ codes "entry " ++ (decimal (line_at s.shown s.moment.at) ++ (codes " races with " ++ (entry ++ codes "\n"))))

abbrev pub WritesOthers : Seen → List ℕ → Option (List ℕ) → Option (List ℕ) → Type 0
WritesOthers s others old new =
    (texts : List (List ℕ)) × AllZip (SaysOther s) others texts × Appends old new (concat texts)

-- What is told is written: what each thread comes to, what the entry of the moment races with, who sleeps, and the bytes.
pub record WritesTold (s : Seen) (told : ToldMoment) (old new : Option (List ℕ)) : Type 0 where
  pub said : Option (List ℕ)
  pub says : WritesThreads s told.threads.items old said
  pub raced : Option (List ℕ)
  pub races_with : WritesOthers s told.races.items said raced
  pub ends : Appends raced new (queue_text s.moment.queue ++ dump_text s.moment.wanted.addr s.moment.bytes.items)

pub record WritesMoment (view : MomentView) (moment : Moment) (races : List Race) (old new : Option (List ℕ)) : Type 0 where
  pub story : Story
  pub of_log : IsStoryOf view.shown.record.now.log story
  pub told : ToldMoment
  pub is_told : IsTold (seen_by view story moment) races told
  pub writes : WritesTold (seen_by view story moment) told old new
