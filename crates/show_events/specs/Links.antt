-- What leads from one entry to another.
use Rattle.std.specs.Prelude.{ℕ, ◌≡◌, ◌<◌, ◌-◌, ◌⊎◌, ◌++◌, max, Bool, true, false, List, length}
use Rattle.std.specs.Prelude.{Option, Some, None, if◌then◌else◌, ◌&&◌, nat_lt, option_map, option_and_then, slice_set}
use Rattle.std.specs.List.{slice_get, filter_map, range_with_len}
use Rattle.types.specs.declared.event.Event.{Event}
use Rattle.types.specs.declared.event.Event.TheVariants.{Ask}
use Rattle.types.specs.declared.event.Question.{Question}
use Rattle.types.specs.declared.event.Question.TheVariants as questions
use Rattle.types.specs.declared.event.Answer.TheVariants.{Number}
use Rattle.types.specs.declared.event.Entry.{Entry}
use Rattle.types.specs.declared.limits.TheConstants.{MOST_THREADS}
use Rattle.race_history.specs.declared.race.Race.{Race}
use Rattle.show_text.specs.declared.context.Context.{Context}
use Rattle.show_text.specs.declared.context.Context.TheVariants.{Answered, Asked}
use Rattle.show_text.specs.declared.woken.Wake.{Wake}
use Rattle.show_rows.specs.declared.listing.Story.{Story}
use Rattle.show_events.specs.declared.links.Link.{Link}
use Rattle.show_events.specs.declared.links.LinkKind.{LinkKind}
use Rattle.show_events.specs.declared.links.LinkKind.TheVariants as kinds

-- An entry is the answer to the question at a place.
abbrev pub IsAnswerTo : List Context → ℕ → ℕ → Type 0
IsAnswerTo contexts asked told = (question : Question) × (slice_get contexts told ≡ Some (Asked question asked))

abbrev pub IsAnswerAt : List Context → ℕ → Option ℕ → Type 0
IsAnswerAt contexts asked None = (told : ℕ) → IsAnswerTo contexts asked told → ⊥
IsAnswerAt contexts asked (Some told) = IsAnswerTo contexts asked told

-- Where each question is answered, of a log that is so long.
pub record AreAnswers (contexts : List Context) (long : ℕ) (answers : List (Option ℕ)) : Type 0 where
  pub long_is : length answers ≡ long
  pub each : (at : ℕ) (told : Option ℕ) → slice_get answers at ≡ Some told → IsAnswerAt contexts at told

abbrev pub is_wait : Question → Bool
is_wait (questions.Wait addr width expected timeout) = true
is_wait question = false

abbrev pub is_wait_over : Option Context → Bool
is_wait_over (Some (Asked question asked)) = is_wait question
is_wait_over context = false

-- An entry is the answer to a wait at a place.
pub record EndsWait (contexts : List Context) (at told : ℕ) : Type 0 where
  pub answer : IsAnswerTo contexts at told
  pub wait : is_wait answer.0 ≡ true

-- A wait lasts up to its answer, and all else as long as one entry.
abbrev pub Lasts : List Context → ℕ → ℕ → Type 0
Lasts contexts at long = ((told : ℕ) × EndsWait contexts at told × (long ≡ max (told - at) 1))
    ⊎ (((told : ℕ) → EndsWait contexts at told → ⊥) × (long ≡ 1))

-- The thread of the entry at a place.
abbrev pub thread_at : List Entry → ℕ → Option ℕ
thread_at log at = option_map (λ made. made.thread) (slice_get log at)

-- Where a thread has its first entry.
abbrev pub IsFirstOf : List Entry → ℕ → Option ℕ → Type 0
IsFirstOf log thread None = (at : ℕ) → thread_at log at ≡ Some thread → ⊥
IsFirstOf log thread (Some first) =
    (thread_at log first ≡ Some thread) × ((at : ℕ) → at < first → thread_at log at ≡ Some thread → ⊥)

pub record AreFirsts (log : List Entry) (firsts : List (Option ℕ)) : Type 0 where
  pub long_is : length firsts ≡ MOST_THREADS
  pub each : (thread : ℕ) (first : Option ℕ) → slice_get firsts thread ≡ Some first → IsFirstOf log thread first

abbrev pub in_list : List (Option ℕ) → ℕ → Option ℕ
in_list places at = option_and_then (λ place. place) (slice_get places at)

-- A link within a log that is so long leads to a later entry.
abbrev pub link_between : ℕ → LinkKind → ℕ → Option ℕ → Option Link
link_between long kind from None = None
link_between long kind from (Some to) = if nat_lt from to && nat_lt to long
    then Some (record { kind = kind; from = from; to = to }) else None

-- From a notify to the answer that a thread hears which it woke.
abbrev pub wake_link : ℕ → List (Option ℕ) → Wake → Option Link
wake_link long answers wake = link_between long kinds.Wake wake.notify (in_list answers wake.wait)

abbrev pub is_spawn : Event → Bool
is_spawn (Ask (questions.Spawn arg)) = true
is_spawn event = false

abbrev pub is_spawn_by : Option Entry → Bool
is_spawn_by None = false
is_spawn_by (Some made) = is_spawn made.event

abbrev pub is_spawn_at : List Entry → ℕ → Bool
is_spawn_at log at = is_spawn_by (slice_get log at)

-- The number that a question is answered with.
abbrev pub number_at : Option Context → Option ℕ
number_at (Some (Answered (Number number))) = Some number
number_at context = None

-- The first entry of the thread that the spawn at a place has started.
abbrev pub spawned_at : List Entry → List Context → List (Option ℕ) → ℕ → Option ℕ
spawned_at log contexts firsts at = if is_spawn_at log at
    then option_and_then (in_list firsts) (number_at (slice_get contexts at)) else None

abbrev pub spawn_link : List Entry → List Context → List (Option ℕ) → ℕ → Option Link
spawn_link log contexts firsts at =
    link_between (length log) kinds.Spawn at (spawned_at log contexts firsts at)

-- From the first entry of a race to the second.
abbrev pub race_link : ℕ → Race → Option Link
race_link long race = link_between long kinds.Race race.first (Some race.second)

-- These links, where questions are answered and threads begin there.
abbrev pub links_of : List Entry → Story → List Race → List (Option ℕ) → List (Option ℕ) → List Link
links_of log story races answers firsts = filter_map (wake_link (length log) answers) story.wakes.all.items
    ++ filter_map (spawn_link log story.contexts.items firsts) (range_with_len 0 (length log))
    ++ filter_map (race_link (length log)) races

-- The links of a log: of its wake-ups, in the story's order, of its spawns, in the log's, and of these races.
pub record AreLinks (log : List Entry) (story : Story) (races : List Race) (links : List Link) : Type 0 where
  pub answers : List (Option ℕ)
  pub are_answers : AreAnswers story.contexts.items (length log) answers
  pub firsts : List (Option ℕ)
  pub are_firsts : AreFirsts log firsts
  pub are : links ≡ links_of log story races answers firsts

-- Where questions are answered, when one more entry is looked at.
abbrev pub noted_answer : Context → ℕ → List (Option ℕ) → List (Option ℕ)
noted_answer (Asked question asked) at answers = slice_set answers asked (Some at)
noted_answer context at answers = answers

abbrev pub first_by : Option (Option ℕ) → ℕ → ℕ → List (Option ℕ) → List (Option ℕ)
first_by (Some None) thread at firsts = slice_set firsts thread (Some at)
first_by noted thread at firsts = firsts

abbrev pub noted_first : ℕ → ℕ → List (Option ℕ) → List (Option ℕ)
noted_first thread at firsts = first_by (slice_get firsts thread) thread at firsts
