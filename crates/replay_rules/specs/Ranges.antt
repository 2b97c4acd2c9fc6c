-- The records of runs are within their ranges.
use Rattle.std.specs.Prelude.{ℕ, ◌≡◌, ◌+◌, ◌≤◌, true, false, length, Some}
use Rattle.std.specs.List.{All}
use Rattle.std.specs.Str.{is_utf8}
use Rattle.types.specs.declared.event.Entry.{Entry}
use Rattle.types.specs.declared.event.Reply.{Reply}
use Rattle.types.specs.declared.event.Reply.TheVariants as replies
use Rattle.types.specs.declared.outcome.Outcome.{Outcome}
use Rattle.types.specs.declared.outcome.ThreadReport.{ThreadReport}
use Rattle.types.specs.declared.limits.TheConstants.{MOST_PAGES, PAST_LIMIT, MOST_LIMIT, MOST_FUEL, MOST_MODULE_BYTES}
use Rattle.shared_memory.specs.History.{AreEntries}
use Rattle.schedule_runs.specs.Runs.{Start, RanTogether}
use Rattle.replay_text.specs.Conditions.{Fits64, EventFits, IsValue, IsOutcome}
use Rattle.replay_text.specs.Text.{IsRecord}
use Rattle.replay_text.specs.declared.version.Version.TheVariants as versions
use Rattle.replay_text.specs.declared.parts.RecordParts.{RecordParts}
use Rattle.replay_rules.specs.Telling.{RecordTells}

-- What the types of a record's parts say of its numbers: the value of a reply, if it has one, fits its field;
abbrev pub ValueFits : Reply → Type 0
ValueFits (replies.Value v) = Fits64 v
ValueFits replies.Done = Unit {0}
ValueFits replies.OutOfBounds = Unit {0}
ValueFits replies.Again = Unit {0}
ValueFits replies.Full = Unit {0}

-- so do the numbers of an entry, and the value of an outcome its type;
abbrev pub EntryFits : Entry → Type 0
EntryFits e = EventFits e.event × ValueFits e.reply

abbrev pub ReportFits : ThreadReport → Type 0
ReportFits report = IsOutcome report.outcome

-- and the entry's name is a text.
pub record AreTyped (r : RecordParts) : Type 0 where
  pub invoke : is_utf8 r.invoke ≡ true
  pub bytes : All (λ b. b ≤ 255) r.invoke
  pub args : All IsValue r.args
  pub log : All EntryFits r.log
  pub ends : All ReportFits r.ends

-- A record is written in version 2, with the numbers of the program that writes it.
pub record IsWritten (r : RecordParts) : Type 0 where
  pub version : r.version ≡ versions.Two
  pub module_len : r.module_len ≤ MOST_MODULE_BYTES
  pub max_pages : r.max_pages ≡ MOST_PAGES

-- What the memory that records keeps to: the limit is 1 to 1,000,000 entries, of which the log has at most 192 more,
-- the pages are at most 256, and the events meet their conditions.
pub record IsLimited (r : RecordParts) : Type 0 where
  pub limit_low : 1 ≤ r.limit
  pub limit : r.limit ≤ MOST_LIMIT
  pub room : length r.log ≤ r.limit + PAST_LIMIT
  pub pages : r.pages ≤ MOST_PAGES
  pub entries : AreEntries r.log

-- A record that tells what threads did together, by such a memory and with a budget of at most 1,000,000,000,000 units,
-- is in range.
abbrev pub RunsAreInRange : Type 0
RunsAreInRange =
    (b : Start) (r : RecordParts) (outcomes : ℕ → Outcome) (lefts : ℕ → ℕ)
    → RanTogether b false (Some r.limit) r.log outcomes lefts
    → RecordTells b r outcomes lefts
    → r.fuel ≤ MOST_FUEL → IsWritten r → IsLimited r → AreTyped r → IsRecord r
