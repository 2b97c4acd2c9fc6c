-- Moments of a record's run.
use Rattle.std.specs.Prelude.{ℕ, ◌≡◌, ◌≤◌, Bool, true, false, List, length, take, Option}
use Rattle.types.specs.declared.parts.Parts.{Parts}
use Rattle.interp.specs.declared.thread.Thread.{Thread}
use Rattle.interp.specs.Threads.{meaning_in}
use Rattle.replay_text.specs.declared.parts.RecordParts.{RecordParts}
use Rattle.replay_walk.specs.declared.walk.Walk.{Walk}
use Rattle.replay_walk.specs.Walked.{Run, WalkCame, start}
use Rattle.replay.specs.Runs.{BeginsBy, start_of_record}
use Rattle.race_history.specs.declared.race.Race.{Race}
use Rattle.selection.specs.declared.spans.Spans.{Spans}
use Rattle.show_moments.specs.declared.moment.Bytes.{Bytes}
use Rattle.show_moments.specs.declared.moment.Moment.{Moment}
use Rattle.show_moments.specs.declared.scene.MomentView.{MomentView}
use Rattle.show_moments.specs.Moments.{IsRound}
use Rattle.show_moments.specs.Lines.{WritesMoment}
use Rattle.report_command.specs.declared.form.Form.{Form}
use Rattle.report_command.specs.declared.form.Form.TheVariants.{Lines, Json}
use Rattle.show_named.specs.declared.data_map.DataMap.{DataMap}
use Rattle.show_rows.specs.declared.listing.Shown.{Shown}
use Rattle.report_objects.specs.Ends.{WritesEnd}
use Rattle.report_objects.specs.Scenes.{WritesScene}
use Rattle.report_looks.specs.declared.wanted.Here.{Here}

-- The moment is of the module's run by a record, with these bytes wanted: its queue, its memory and where its threads stand
-- are those of the walk that came along so many of the record's entries.
pub record IsMomentOf (m : Parts) (r : RecordParts) (at : ℕ) (bytes : Bytes) (moment : Moment) : Type 0 where
  pub at_is : moment.at ≡ at
  pub wanted : moment.wanted ≡ bytes
  pub run : Run
  pub beginning : BeginsBy m r
  pub same : start run ≡ start_of_record m r beginning
  pub walk : Walk Thread
  pub came : WalkCame meaning_in run (take at r.log) walk
  pub round : IsRound moment walk

-- The same of a place that the record has.
abbrev pub IsMomentIn : Parts → RecordParts → ℕ → Bytes → Moment → Type 0
IsMomentIn m r at bytes moment = at ≤ length r.log → IsMomentOf m r at bytes moment

-- A moment is shown of this record and this module, by this debug section, with this memory left out; and whether locals and
-- operands are shown as the module has them.
pub record IsViewOf (m : Parts) (shown : Shown) (map : DataMap) (out : Option Spans) (is_raw : Bool) (view : MomentView)
    : Type 0 where
  pub of_record : view.shown ≡ shown
  pub of_module : view.valid.now.parts ≡ m
  pub of_data : view.map.now ≡ map
  pub left_out : view.left_out.now ≡ out
  pub raw : view.is_raw ≡ is_raw

-- What threads and memory are like before an entry is written, in lines or as an object, with what that entry races.
abbrev pub WritesIn : Form → MomentView → Moment → Option (List ℕ) → Option (List ℕ) → Type 0
WritesIn Lines view moment old new = (races : List Race) × WritesMoment view moment races old new
WritesIn Json view moment old new = (races : List Race) × WritesScene view moment races old new

-- That, or what the end is like.
abbrev pub WritesAt : MomentView → Bool → Form → Moment → Option (List ℕ) → Option (List ℕ) → Type 0
WritesAt view true form moment old new = WritesEnd form view moment old new
WritesAt view false form moment old new = WritesIn form view moment old new

pub record WritesHere (m : Parts) (shown : Shown) (map : DataMap) (out : Option Spans) (here : Here) (moment : Moment)
    (old new : Option (List ℕ)) : Type 0 where
  pub view : MomentView
  pub view_is : IsViewOf m shown map out here.is_raw view
  pub whole : moment.is_short ≡ false
  pub writes : WritesAt view here.is_end here.form moment old new
