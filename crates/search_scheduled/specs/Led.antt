-- Runs that a strategy leads.
use Rattle.std.specs.Prelude.{ℕ, ◌≡◌, ◌+◌, ◌≤◌, ◌⊎◌, List, [], Option, length}
use Rattle.types.specs.declared.event.Entry.{Entry}
use Rattle.types.specs.declared.limits.TheConstants.{PAST_LIMIT}
use Rattle.interp_trait.specs.Turns.{Meaning}
use Rattle.interp.specs.Threads.{meaning_in}
use Rattle.interp.specs.declared.thread.Thread.{Thread}
use Rattle.spawn_host.specs.Requests.{Requested}
use Rattle.replay_text.specs.declared.parts.RecordParts.{RecordParts}
use Rattle.search_scheduled.specs.declared.course.Course.{Course}
use Rattle.search_scheduled.specs.Courses.{IsEachReady, IsLed, IsGivenUp}
use Rattle.search_scheduled.specs.SpareThreads.{HasBegunFor}

-- Nobody can go on, or the log has 192 entries more than its limit.
abbrev pub IsOver : {S : Type 0} → (S → Meaning) → ℕ → Course S → Type 0
IsOver meaning limit c = IsEachReady meaning c.walk.stage [] ⊎ (limit + PAST_LIMIT ≤ length c.log.items)

module _ {Q : Type 0} (chooses : Q → List ℕ → Option ℕ → Q → Type 0) (hears : Q → Entry → Q → Type 0) (q : Requested)
    (limit : ℕ) where
  -- From the beginning of what is requested a strategy led it, event by event, to where it is over; and that log is the
  -- record's.
  pub record IsLedRun (before after : Q) (made : RecordParts) : Type 0 where
    pub first : Course Thread
    pub begun : HasBegunFor meaning_in q limit first
    pub last : Course Thread
    pub led : IsLed meaning_in chooses hears first before last after
    pub over : IsOver meaning_in limit last
    pub log : made.log ≡ last.log.items

  -- From there a strategy led it to where it gave the run up.
  pub record IsGivenUpRun (may_end : Q → Type 0) (before after : Q) : Type 0 where
    pub first : Course Thread
    pub begun : HasBegunFor meaning_in q limit first
    pub given_up : IsGivenUp meaning_in chooses hears may_end first before after
