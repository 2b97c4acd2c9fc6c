-- The moments that a page has.
use Rattle.std.specs.Prelude.{ℕ, ◌≡◌, ◌<◌, ◌≤◌, ◌-◌, ◌/◌, max, min, false, List, [], ◌∷◌, length, drop, slice_index_or, sum_by, string_bytes, Some}
use Rattle.std.specs.List.{AllZip}
use Rattle.race_history.specs.declared.race.Race.{Race}
use Rattle.selection.specs.declared.choice.Look.{Look}
use Rattle.show_events.specs.Around.{failure, part_around}
use Rattle.show_events.specs.declared.run.MomentText.{MomentText}
use Rattle.show_moments.specs.declared.moment.Bytes.{Bytes}
use Rattle.show_moments.specs.declared.moment.Moment.{Moment}
use Rattle.show_moments.specs.declared.scene.MomentView.{MomentView}
use Rattle.show_moments.specs.Lines.{WritesMoment}
use Rattle.show_named.specs.declared.data_map.DataMap.{DataMap}
use Rattle.show_rows.specs.declared.listing.Shown.{Shown}
use Rattle.show_rows.specs.Listing.{chosen}
use Rattle.report_looks.specs.RunMoments.{IsMomentIn, IsViewOf}
use Rattle.report_looks.specs.declared.moments.TheConstants.{MOST_MOMENTS, MOST_MOMENT_BYTES, MOST_STEPS}

-- How many moments the page of a log has that has so many entries: each takes a replay.
abbrev pub moment_count : ℕ → ℕ
moment_count entries = min (MOST_STEPS / max entries 1) MOST_MOMENTS

-- The text is what is written of the run's moment before the entry at a place, and is said to be that.
pub record IsMomentAt (seen : MomentView) (races : List Race) (at : ℕ) (told : MomentText) : Type 0 where
  pub at_is : told.at ≡ at
  pub bytes : Bytes
  pub moment : Moment
  pub of_run : IsMomentIn seen.valid.now.parts seen.shown.record.now at bytes moment
  pub text : WritesMoment seen moment races (Some []) (Some (string_bytes told.text))

-- How many bytes their texts have.
abbrev pub size_of : List MomentText → ℕ
size_of moments = sum_by (λ moment. length (string_bytes moment.text)) moments

-- One for each of the last ones of some places, in order: for all of them, or for as many as a page has room for.
pub record AreLastMoments (seen : MomentView) (races : List Race) (places : List ℕ) (moments : List MomentText) : Type 0 where
  pub left_out : ℕ
  pub each : AllZip (IsMomentAt seen races) (drop left_out places) moments
  pub within : size_of moments ≤ MOST_MOMENT_BYTES
  pub full : 0 < left_out → (one : MomentText) × IsMomentAt seen races (slice_index_or places (left_out - 1) 0) one
      × (MOST_MOMENT_BYTES < size_of (one ∷ moments))

-- Those of the entries around the failure that are chosen.
abbrev pub AreMomentsOf : MomentView → Look → List Race → List MomentText → Type 0
AreMomentsOf seen look races moments = AreLastMoments seen races
    (part_around (moment_count (length seen.shown.record.now.log)) (moment_count (length seen.shown.record.now.log) - 1)
    (failure seen.shown.record.now) (chosen seen.shown look)) moments

-- The moments of a page, with the variables that a debug section has, and beside what its rows leave out.
pub record AreOfPage (shown : Shown) (map : DataMap) (look : Look) (races : List Race) (moments : List MomentText) : Type 0 where
  pub seen : MomentView
  pub view : IsViewOf shown.code.now.parts.now shown map look.choice.left_out false seen
  pub each : AreMomentsOf seen look races moments
